-- `ranking::unrank::passed_by_digit` meets its contract, a case for each branch of `place_of_digit`. Assumes nothing.
use native.Mathlib.Omega.{arith}
use borrow.Author.Tests.{eq-eqb, ne_eqb}
use Rattle.theory.specs.Unrank.{place_of_digit}
use Rattle.ranking.proofs.unrank.passed_by_digit.Goals as goal

pub returns-then-d-m : goal.returns-then-d-m
unfolding place_of_digit
returns-then-d-m c = (rw (eq-eqb _ _ c.if-d-m.true), omega arith)

pub returns-else-d-m : goal.returns-else-d-m
unfolding place_of_digit
returns-else-d-m c = (rw (ne_eqb _ _ c.if-d-m.false) (omega arith), omega arith)
