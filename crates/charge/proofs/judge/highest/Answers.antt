-- `charge::judge::highest` meets its contract: the greatest, or 0 of no level. Assumes nothing.
use mathlib.Core.Path.{◌∙◌}
use borrow.Author.Rules.{rules}
use Rattle.charge.proofs.Scanning.{highest_is}
use Rattle.charge.proofs.judge.highest.Goals as goal

pub returns : goal.returns
returns c = c.unwrap_or.ensures ∙ highest_is c.args.levels.now c.max.result (search rules) (search rules)
