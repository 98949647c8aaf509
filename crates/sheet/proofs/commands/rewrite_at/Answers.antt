-- `sheet::commands::rewrite_at` meets its contract. Assumes nothing.
use mathlib.Core.Path.{sym, ap}
use native.Mathlib.Omega.{arith}
use Rattle.sheet.specs.Parts.{entry_answer}
use Rattle.sheet.proofs.ByteNumbers.{numbers_length}
use Rattle.sheet.proofs.ByTests.{rewrite_short, rewrite_there}
use Rattle.sheet.proofs.commands.rewrite_at.Goals as goal

pub returns-then-s-at : goal.returns-then-s-at
unfolding entry_answer
returns-then-s-at c = ap entry_answer (sym (rewrite_short _ _ _ _ (omega arith) (omega arith)))

pub returns : goal.returns
unfolding entry_answer
returns c =
    let a = c.args in
    rw (c.names_at.ensures, rewrite_there a.group a.s.now a.at a.n (omega arith), numbers_length)
