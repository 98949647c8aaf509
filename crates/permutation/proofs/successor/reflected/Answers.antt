-- `permutation::successor::reflected` meets its contract: each turn puts the next name from the last into the row. Assumes nothing.
use mathlib.Core.Path.{sym}
use native.Mathlib.Omega.{arith}
use Rattle.theory.proofs.FilledRow.{filled_more, row_none, row_all}
use Rattle.permutation.proofs.Reflecting.{smaller_length, smaller_at}
use Rattle.permutation.proofs.successor.reflected.Goals as goal

pub loop-i-init : goal.loop-i-init
loop-i-init c = row_none 20 0 (smaller_length c.args.names.now) (omega arith)

pub loop-i-preserved : goal.loop-i-preserved
loop-i-preserved c =
    let more = c.loop-i-test.true in
    filled_more c.loop-i.invariant more 0 (smaller_at _ _ more)

pub returns : goal.returns
returns c =
    let v = c.loop-i.invariant in
    let cells = row_all 20 0 v c.loop-i-test.false in
    λ k. record { n = sym v.size k; cells = cells k }
