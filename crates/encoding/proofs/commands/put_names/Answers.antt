-- `encoding::commands::put_names` meets its contract: all twenty names were copied, and so the first n. Assumes nothing.
use mathlib.Core.Path.{◌≡◌, sym, ap, ◌∙◌}
use mathlib.Core.List.{◌++◌}
use Prim.Native.Nat.{◌+◌, ◌-◌, ◌<◌}
use native.Mathlib.Omega.{arith}
use borrow.Rule.Slice.PartMut.{same_len_mid}
use lib.ListN.{length, take, drop, take-append-drop}
use lib.Seq.{length-take-le, get_or-take}
use Rattle.sheet.proofs.Putting.{puts_copied, puts_first}
use Rattle.encoding.proofs.Numbers.{bytes_names}
use Rattle.encoding.proofs.commands.put_names.Goals as goal

pub returns : goal.returns
returns c =
    let a = c.args in
    let n = a.n in
    let cells = a.cells.now in
    let copy = c.copy_from_slice.ensures in
    let long : length (take n cells) ≡ n = length-take-le n cells (omega (arith, c.requires.1, c.told-cells)) in
    let names = bytes_names (take n cells) (λ i h. let below : i < n = omega (arith, long) in rw get_or-take (c.fits-cells i)) in
    let split = take-append-drop n cells in
    let all =
    puts_copied a.out.now a.at (a.at + 20 - a.at) (take n cells ++ drop n cells) _ {r = a.at + 20} (copy.after ∙ sym split) (omega (arith, c.requires.0))
    (same_len_mid _ _ _ _ copy.len)
    (omega (arith, ap length split, c.told-cells)) in
    rw names (rw long at (puts_first (take n cells) (drop n cells) all (omega (arith, c.requires.0))))
