-- `layout::lines::put_group` meets its contract: its line has 146 bytes at most. Assumes nothing.
use mathlib.Core.Path.{◌≡◌}
use mathlib.Core.List.{◌∷◌}
use Prim.Native.Nat.{◌≤◌}
use native.Mathlib.Omega.{arith}
use lib.ListN.{length}
use borrow.Author.Rules.{rules}
use Rattle.sheet.specs.Held.{levels_of}
use Rattle.layout.specs.Text.{field, group_line}
use Rattle.layout.proofs.Decimal.{field_short}
use Rattle.sheet.proofs.Putting.{puts_then}
use Rattle.layout.proofs.Pieces.{puts_line}
use Rattle.work.proofs.Working.{group_size, group_few}
use Rattle.layout.proofs.lines.put_group.Goals as goal
use Rattle.layout.proofs.lines.put_group.Goals.{After-put_byte-a}

-- the first two fields have 3 and 21 bytes at most, and there are as many levels as the group says, twenty at most
sizes : (c : After-put_byte-a)
    → let a = c.args in (length (field a.g) ≤ 3) × (length (field a.value) ≤ 21)
    × (a.group.now.n ≡ length (levels_of a.group.now)) × (a.group.now.n ≤ 20) × (length a.group.now.levels ≡ 20)
sizes c =
    let held = c.requires.2 in
    (field_short _ 1 (omega arith), field_short _ 19 (omega arith), group_size held, group_few held, search rules)

pub put_field-b-requires : goal.put_field-b-requires
put_field-b-requires c = let w = sizes (goal.at.put_field-b-requires c).After-put_byte-a in omega arith

pub put_field-c-requires : goal.put_field-c-requires
put_field-c-requires c = let w = sizes (goal.at.put_field-c-requires c).After-put_byte-a in omega arith

pub put_levels-d-requires : goal.put_levels-d-requires
put_levels-d-requires c = let w = sizes (goal.at.put_levels-d-requires c).After-put_byte-a in omega arith

pub put_byte-requires : goal.put_byte-requires
put_byte-requires c = let w = sizes (goal.at.put_byte-requires c).After-put_byte-a in omega arith

pub returns : goal.returns
unfolding group_line
returns c =
    let put = puts_then c.put_field-b.ensures (puts_then c.put_field-c.ensures c.put_levels-d.ensures.puts) in
    record { puts = puts_line (_ ∷ _ ∷ levels_of c.args.group.now) c.put_byte-a.ensures put c.put_byte.ensures; short = omega (arith, sizes (goal.at.returns c).After-put_byte-a) }
