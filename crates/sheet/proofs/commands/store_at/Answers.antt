-- `sheet::commands::store_at` meets its contract. Assumes nothing.
use mathlib.Core.Path.{sym, ap}
use native.Mathlib.Omega.{arith}
use Rattle.sheet.specs.Parts.{entry_answer}
use Rattle.sheet.proofs.ByTests.{store_short, store_there}
use Rattle.sheet.proofs.commands.store_at.Goals as goal

pub returns-then-s-at-lt16 : goal.returns-then-s-at-lt16
unfolding entry_answer
returns-then-s-at-lt16 c = ap entry_answer (sym (store_short _ _ _ (omega arith)))

pub returns : goal.returns
unfolding entry_answer
returns c =
    rw (c.untargeted.ensures, c.little-m.ensures.spelled, c.little-symbol.ensures.spelled) (ap entry_answer (sym (store_there _ _ _ (omega arith))))
