-- A loop that writes the k bytes of x into a part of as many, the low byte first. Assumes nothing.
use mathlib.Core.Path.{◌≡◌, sym, ◌∙◌}
use mathlib.Core.List.{List, ◌∷◌, [], ◌++◌, append_assoc, append-nil}
use Prim.Native.Nat.{ℕ, suc, ◌+◌, ◌-◌, ◌/◌, ◌%◌, ◌≤◌, ◌<◌}
use native.Mathlib.Nat.{sub-zero, sub_self}
use native.Mathlib.Numerals.{add-one}
use native.Mathlib.Omega.{arith}
use lib.ListN.{length, take, set}
use lib.Seq.{take_all, take-suc-set}
use Rattle.sheet.specs.Bytes.{bytes_of}

-- after i bytes, `left` is spelled by the others
pub record Spelling (k x : ℕ) (part : List ℕ) (left i : ℕ) : Type 0 where
  pub few : i ≤ k
  pub whole : bytes_of k x ≡ take i part ++ bytes_of (k - i) left

pub spelling_none : (k x : ℕ) (part : List ℕ) → Spelling k x part x 0
spelling_none k x part = record { few = omega arith; whole = rw sub-zero }

module _ {k x : ℕ} {part : List ℕ} {left i : ℕ} (h : Spelling k x part left i) where
  pub spelling_more : i < k → i < length part → Spelling k x (set part i (left % 256)) (left / 256) (i + 1)
  unfolding bytes_of
  spelling_more more room =
      let rest : k - i ≡ suc (k - (i + 1)) = omega arith in
      let next : take (i + 1) (set part i (left % 256)) ≡ take i part ++ left % 256 ∷ [] = rw (add-one i) (take-suc-set part i (left % 256) room) in
      record { few = omega arith; whole = h.whole ∙ rw (next, rest, append_assoc) }

  pub spelling_all : k ≤ i → length part ≡ k → part ≡ bytes_of k x
  unfolding bytes_of
  spelling_all all long =
      let same : i ≡ k = omega (arith, h.few) in
      let whole = rw (same, sub_self, append-nil) at h.whole in
      sym (whole ∙ take_all k part (omega arith))
