-- `ranking::weights::weight_row` meets its contract: the row is one of the table's. Assumes nothing.
use mathlib.Core.Path.{ap, ◌∙◌}
use Prim.Native.Nat.{◌-◌}
use native.Mathlib.Omega.{arith}
use Rattle.ranking.specs.Weights.{weight_row}
use Rattle.ranking.proofs.Table.{weight_row_at}
use Rattle.ranking.proofs.weights.weight_row.Goals as goal

pub returns : goal.returns
returns c =
    let n = c.args.n in
    weight_row_at c.weight_table.ensures (n - 1) (omega (arith, c.requires.1)) ∙ ap weight_row (omega (arith, c.requires.0))
