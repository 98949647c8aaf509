-- `charge::judge::lowest` meets its contract: the least, or 0 of no level. Assumes nothing.
use mathlib.Core.Path.{◌∙◌}
use borrow.Author.Rules.{rules}
use Rattle.charge.proofs.Scanning.{lowest_is}
use Rattle.charge.proofs.judge.lowest.Goals as goal

pub returns : goal.returns
returns c = c.unwrap_or.ensures ∙ lowest_is c.args.levels.now c.min.result (search rules) (search rules)
