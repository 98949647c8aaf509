-- `charge::sum::level_sum` meets its contract: the library's sum is the meaning's. Assumes nothing.
use mathlib.Core.Path.{◌≡◌, sym, ◌∙◌}
use borrow.Author.Rules.{rules}
use Rattle.std.specs.List.{sum_by}
use Rattle.charge.proofs.Scanning.{sum_is}
use Rattle.charge.proofs.sum.level_sum.Goals as goal

pub returns : goal.returns
returns c =
    let h : c.sum.result ≡ sum_by (λ a. a) c.args.levels.now = search rules in
    h ∙ sym (sum_is c.args.levels.now)
