-- `encoding::little::put_little` meets its contract: the low i bytes were put, and `left` is spelled by the others. Assumes nothing.
use mathlib.Core.Path.{◌≡◌, ◌∙◌}
use Prim.Native.Nat.{◌+◌, ◌-◌}
use native.Mathlib.Omega.{arith}
use borrow.Rule.Slice.PartMut.{same_len_mid}
use lib.ListN.{length, take, drop, length-take, length-drop}
use Rattle.sheet.proofs.Putting.{puts_copied}
use Rattle.sheet.specs.Bytes.{bytes_of}
use Rattle.encoding.proofs.Numbers.{bytes_length}
use Rattle.encoding.proofs.Spelling.{spelling_more, spelling_all}
use Rattle.encoding.proofs.little.put_little.Goals as goal
use Rattle.encoding.proofs.little.put_little.Goals.{At-loop-byte}

-- the part has k bytes
part_long : (c : At-loop-byte) → let a = c.args in length (take (a.at + a.k - a.at) (drop a.at a.out.now)) ≡ a.k
part_long c = simp (length-take, length-drop) (omega arith)

pub loop-byte-preserved : goal.loop-byte-preserved
loop-byte-preserved c =
    let long = part_long (goal.at.loop-byte-preserved c).At-loop-byte in
    spelling_more c.loop-byte.invariant (omega (arith, long)) (omega arith)

pub returns : goal.returns
returns c =
    let a = c.args in
    let long = part_long (goal.at.returns c).At-loop-byte in
    let items = c.loop-byte.auto.byte-items in
    let whole = spelling_all c.loop-byte.invariant (omega (arith, long)) (items ∙ long) in
    puts_copied a.out.now a.at _ (bytes_of a.k a.x) _ whole (omega arith) (same_len_mid _ _ _ _ items) (omega (arith, bytes_length a.k a.x))
