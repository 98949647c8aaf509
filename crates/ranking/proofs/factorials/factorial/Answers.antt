-- `ranking::factorials::factorial` meets its contract: the entry of the table, and 0 past it. Assumes nothing.
use mathlib.Core.Path.{ap, ◌∙◌}
use native.Mathlib.Omega.{arith}
use Rattle.std.specs.Option.{unwrap_or}
use Rattle.ranking.proofs.Table.{table_within}
use Rattle.ranking.proofs.factorials.factorial.Goals as goal

pub returns : goal.returns
returns c =
    c.unwrap_or.ensures
    ∙ ap (λ o. unwrap_or o 0) c.copied.ensures
    ∙ c.get.ensures.lookup.4 (omega arith) 0
    ∙ table_within c.factorial_table.ensures c.args.n
