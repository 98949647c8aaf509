-- `layout::lines::put_fault` meets its contract: the number's field has 4 bytes at most. Assumes nothing.
use mathlib.Core.List.{[], ◌∷◌}
use Prim.Native.Nat.{◌≤◌}
use native.Mathlib.Omega.{arith}
use lib.ListN.{length}
use Rattle.layout.specs.Text.{field, fault_line}
use Rattle.layout.proofs.Decimal.{field_short}
use Rattle.sheet.proofs.Putting.{puts_then, puts_nothing}
use Rattle.layout.proofs.Pieces.{puts_line}
use Rattle.layout.proofs.lines.put_fault.Goals as goal
use Rattle.layout.proofs.lines.put_fault.Goals.{After-from}

width : (c : After-from) → length (field c.from.result) ≤ 4
width c = field_short _ 2 (omega arith)

pub put_field-b-requires : goal.put_field-b-requires
put_field-b-requires c = omega (arith, width (goal.at.put_field-b-requires c).After-from)

pub put_byte-requires : goal.put_byte-requires
put_byte-requires c = omega (arith, width (goal.at.put_byte-requires c).After-from)

pub returns : goal.returns
unfolding fault_line
returns c =
    let put = puts_then c.put_field-b.ensures (puts_nothing _ _) in
    let line = puts_line (_ ∷ []) c.put_byte-a.ensures put c.put_byte.ensures in
    record { puts = rw c.from.ensures at line; short = omega (arith, width (goal.at.returns c).After-from) }
