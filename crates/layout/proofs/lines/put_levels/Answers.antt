-- `layout::lines::put_levels` meets its contract: the fields of the levels up to here were put, none longer than 6 bytes. Assumes nothing.
use Prim.Native.Nat.{◌≤◌}
use native.Mathlib.Omega.{arith}
use lib.ListN.{length}
use Rattle.sheet.proofs.Putting.{row_next}
use Rattle.layout.specs.Text.{field}
use Rattle.layout.proofs.Pieces.{fields_grow}
use Rattle.layout.proofs.Decimal.{field_short}
use Rattle.layout.proofs.lines.put_levels.Goals as goal
use Rattle.layout.proofs.lines.put_levels.Goals.{After-from}

width : (c : After-from) → length (field c.from.result) ≤ 6
width c = field_short _ 4 (omega (arith, c.type_inv.levels c.loop-level.level-index))

pub put_field-end-requires : goal.put_field-end-requires
put_field-end-requires c = omega (arith, width (goal.at.put_field-end-requires c).After-from)

pub loop-level-preserved : goal.loop-level-preserved
loop-level-preserved c =
    let short = width (goal.at.loop-level-preserved c).After-from in
    row_next fields_grow _ _ _ _ c.loop-level.invariant c.loop-level-test.true 0 (rw c.from.ensures at c.put_field-end.ensures) (omega arith)
