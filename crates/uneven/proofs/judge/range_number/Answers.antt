-- `uneven::judge::range_number` meets its contract: the test decides the number. Assumes nothing.
use native.Mathlib.Omega.{arith}
use borrow.Author.Rules.{rules}
use Rattle.uneven.proofs.Ranges.{range_out, range_done}
use Rattle.uneven.proofs.judge.range_number.Goals as goal
use Rattle.uneven.proofs.judge.range_number.Goals.{then-not-contains-via-then-not-contains, then-not-contains-via-else-not-contains+then-small_factorial-m}

pub returns-then-not-contains : goal.returns-then-not-contains
returns-then-not-contains c =
    elim c.then-not-contains.branch [
      | then-not-contains-via-then-not-contains w ↦ range_out _ _ (λ low high most. absurd (search rules))
      | then-not-contains-via-else-not-contains+then-small_factorial-m w ↦ range_out _ _ (λ low high most. omega (arith, w.if-small_factorial-m.true, w.small_factorial.ensures))
    ]

pub returns : goal.returns
returns c = range_done _ _ (search rules) (search rules) (omega (arith, c.if-small_factorial-m.false, c.small_factorial.ensures))
