-- `sheet::commands::count_at` meets its contract. Assumes nothing.
use mathlib.Core.Path.{sym, ap}
use native.Mathlib.Omega.{arith}
use Rattle.sheet.specs.Parts.{entry_answer}
use Rattle.sheet.proofs.ByTests.{count_short, count_there}
use Rattle.sheet.proofs.commands.count_at.Goals as goal

pub returns-then-s-at-lt4 : goal.returns-then-s-at-lt4
unfolding entry_answer
returns-then-s-at-lt4 c = ap entry_answer (sym (count_short _ _ _ (omega arith)))

pub returns : goal.returns
unfolding entry_answer
returns c =
    rw (c.untargeted.ensures, c.little-k.ensures.spelled) (ap entry_answer (sym (count_there _ _ _ (omega arith))))
