-- `layout::lines::put_command` meets its contract: its line has 22 bytes at most. Assumes nothing.
use mathlib.Core.List.{[], ◌∷◌}
use Prim.Native.Nat.{◌≤◌}
use native.Mathlib.Omega.{arith}
use lib.ListN.{length}
use Rattle.layout.specs.Text.{field, command_line}
use Rattle.layout.proofs.Decimal.{field_short}
use Rattle.sheet.proofs.Putting.{puts_then, puts_nothing}
use Rattle.layout.proofs.Pieces.{puts_line}
use Rattle.layout.proofs.lines.put_command.Goals as goal
use Rattle.layout.proofs.lines.put_command.Goals.{After-put_byte-a, After-from, After-from-2}

-- the fields have 5, 4 and 11 bytes at most
place_width : (c : After-put_byte-a) → length (field c.args.place) ≤ 5
place_width c = field_short _ 3 (omega arith)

number_width : (c : After-from) → length (field c.from.result) ≤ 4
number_width c = field_short _ 2 (omega arith)

pushes_width : (c : After-from-2) → length (field c.from-2.result) ≤ 11
pushes_width c = field_short _ 9 (omega arith)

pub put_field-b-requires : goal.put_field-b-requires
put_field-b-requires c = omega (arith, place_width (goal.at.put_field-b-requires c).After-put_byte-a)

pub put_field-c-requires : goal.put_field-c-requires
put_field-c-requires c =
    let at = goal.at.put_field-c-requires c in omega (arith, place_width at.After-put_byte-a, number_width at.After-from)

pub put_field-d-requires : goal.put_field-d-requires
put_field-d-requires c =
    let at = goal.at.put_field-d-requires c in
    omega (arith, place_width at.After-put_byte-a, number_width at.After-from, pushes_width at.After-from-2)

pub put_byte-requires : goal.put_byte-requires
put_byte-requires c =
    let at = goal.at.put_byte-requires c in
    omega (arith, place_width at.After-put_byte-a, number_width at.After-from, pushes_width at.After-from-2)

pub returns : goal.returns
unfolding command_line
returns c =
    let at = goal.at.returns c in
    let put = puts_then c.put_field-c.ensures (puts_then c.put_field-d.ensures (puts_nothing _ _)) in
    let line = puts_line (_ ∷ _ ∷ _ ∷ []) c.put_byte-a.ensures (puts_then c.put_field-b.ensures put) c.put_byte.ensures in
    record {
      puts = rw (c.from.ensures, c.from-2.ensures) at line;
      short = omega (arith, place_width at.After-put_byte-a, number_width at.After-from, pushes_width at.After-from-2);
    }
