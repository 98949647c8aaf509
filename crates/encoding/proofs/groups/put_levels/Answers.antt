-- `encoding::groups::put_levels` meets its contract: the levels up to i were put. Assumes nothing.
use native.Mathlib.Omega.{arith}
use Rattle.sheet.specs.Bytes.{bytes_of}
use Rattle.sheet.proofs.Putting.{row_start, row_next, row_end}
use Rattle.encoding.proofs.Pieces.{flat_map_grows, number_end}
use Rattle.encoding.proofs.groups.put_levels.Goals as goal

pub loop-level-init : goal.loop-level-init
loop-level-init c = row_start (flat_map_grows (bytes_of 2)) _ _ _ _

pub loop-level-preserved : goal.loop-level-preserved
loop-level-preserved c =
    let l = c.loop-level in
    let put = rw c.from.ensures at c.put_little-end.ensures in
    row_next (flat_map_grows (bytes_of 2)) _ _ _ _ l.invariant c.loop-level-test.true 0 put
    (omega (arith, number_end 2 _ put))

pub returns : goal.returns
returns c = row_end (flat_map_grows (bytes_of 2)) _ _ _ _ c.loop-level.invariant c.loop-level-test.false
