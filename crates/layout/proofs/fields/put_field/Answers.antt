-- `layout::fields::put_field` meets its contract: a space, and what `io::decimal` makes of the number. Assumes nothing.
use mathlib.Core.Path.{◌≡◌, ap, ◌∙◌}
use native.Mathlib.Omega.{arith}
use lib.ListN.{length, take}
use borrow.Author.Rules.{rules}
use borrow.Rule.Slice.PartMut.{same_len_mid}
use Prim.Native.Nat.{◌+◌, ◌≤◌}
use Rattle.layout.specs.Text.{decimal}
use Rattle.layout.proofs.Decimal.{put_decimal}
use Rattle.sheet.proofs.Putting.{puts_then, puts_copied}
use Rattle.layout.proofs.fields.put_field.Goals as goal
use Rattle.layout.proofs.fields.put_field.Goals.{After-decimal-count}

-- the bytes that are copied are the number's decimal
made : (c : After-decimal-count)
    → take c.decimal-count.result c.decimal-count.new.out ≡ decimal c.args.x
made c =
    let d = c.decimal-count.ensures in
    put_decimal _ c.decimal-count.result c.decimal-count.new.out (d.in_bounds, (d.len, d.digits))

pub slice_bounds-copy_from_slice-end : goal.slice_bounds-copy_from_slice-end
slice_bounds-copy_from_slice-end c =
    let n = ap length (made c) in
    let d = c.decimal-count.ensures.in_bounds.1 in
    let fits : c.put_byte-from.result + c.decimal-count.result ≤ length c.put_byte-from.new.text = omega arith in
    search rules

pub returns : goal.returns
returns c =
    let p = c.put_byte-from in
    let d = c.decimal-count.ensures.in_bounds.1 in
    let n = ap length (made (goal.at.returns c).After-decimal-count) in
    let copied = c.copy_from_slice.ensures.after ∙ made (goal.at.returns c).After-decimal-count in
    puts_then p.ensures (puts_copied p.new.text p.result _ (decimal c.args.x) _ copied (omega arith) (same_len_mid _ _ _ _ c.copy_from_slice.ensures.len) (omega arith))
