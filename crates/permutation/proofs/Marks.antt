-- A mask of the names met: bit c is set where c was met, so that the set bits below c count the names below c. Assumes nothing.
use mathlib.Core.Path.{◌≡◌, refl, sym, ap, ◌∙◌}
use mathlib.Core.Bool.{cond}
use mathlib.Core.List.{List, [], ◌∷◌, ◌++◌}
use Prim.Native.Nat.{ℕ, zero, suc, ◌+◌, ◌-◌, ◌*◌, ◌/◌, ◌%◌, ◌^◌, ◌≤◌, ◌<◌}
use native.Mathlib.Nat.{mod-lt, zero-mod, add-mul-mod_self_right}
use native.Mathlib.Omega.{arith}
use borrow.Author.Tests.{lt-ltb, le-ltb}
use lib.Count.{ones, ones_cat}
use lib.Dec.{ltb}
use lib.ListN.{length, length-append}
use lib.Pow.{pow-add, pow_pos, pow_mono, split, high, low, mod-pow-add}
use Rattle.theory.specs.Lists.{count}
use Rattle.theory.proofs.Cases.{by_le}
use Rattle.permutation.proofs.Spots.{under, under_snoc, under_suc}

-- ---- one bit more

-- the set bits of a number with d bits of h above k bits y
ones_above : (h k y d : ℕ) → y < 2 ^ k → ones ((h * 2 ^ k + y) % 2 ^ (d + k)) ≡ ones (h % 2 ^ d) + ones y
ones_above h k y d l = ap ones (mod-pow-add (h * 2 ^ k + y) d k) ∙ rw (high h k l, low h k l) (ones_cat k (h % 2 ^ d) y l)

no_ones : (b : ℕ) → b < 2 → ones b ≡ 0 → b ≡ 0
unfolding ones
no_ones zero h e = refl
no_ones (suc zero) h e = absurd (omega arith)
no_ones (suc (suc b)) h e = absurd (omega arith)

one_one : ones 1 ≡ 1
unfolding ones
one_one = refl

-- bit x of s is not set, and then it is
module _ (s x : ℕ) (clear : ones (s % 2 ^ (1 + x)) ≡ ones (s % 2 ^ x)) where
  less : s % 2 ^ x < 2 ^ x
  less = mod-lt s (pow_pos x)

  bit : s / 2 ^ x % 2 ^ 1 ≡ 0
  bit =
      no_ones (s / 2 ^ x % 2 ^ 1) (mod-lt (s / 2 ^ x) (omega arith))
      (omega (arith, ap ones (mod-pow-add s 1 x), ones_cat x (s / 2 ^ x % 2 ^ 1) (s % 2 ^ x) less))

  whole : s ≡ s / 2 ^ (1 + x) * 2 ^ (1 + x) + s % 2 ^ x
  whole = sym (split s (1 + x)) ∙ ap (λ (r : ℕ). s / 2 ^ (1 + x) * 2 ^ (1 + x) + r) (mod-pow-add s 1 x ∙ rw bit (omega arith))

  set_above : (d : ℕ) → ones ((s + 2 ^ x) % 2 ^ (d + (1 + x))) ≡ 1 + ones (s % 2 ^ (d + (1 + x)))
  set_above d =
      let k : ℕ = 1 + x in
      let h : ℕ = s / 2 ^ k in
      let y : ℕ = s % 2 ^ x in
      let twice : 2 ^ k ≡ 2 * 2 ^ x = pow-add 2 1 x in
      let before : ones (s % 2 ^ (d + k)) ≡ ones (h % 2 ^ d) + ones y =
      ap (λ (z : ℕ). ones (z % 2 ^ (d + k))) whole ∙ ones_above h k y d (omega (arith, less)) in
      let sum : s + 2 ^ x ≡ h * 2 ^ k + (1 * 2 ^ x + y) = omega (arith, whole) in
      let after : ones ((s + 2 ^ x) % 2 ^ (d + k)) ≡ ones (h % 2 ^ d) + ones (1 * 2 ^ x + y) =
      ap (λ (z : ℕ). ones (z % 2 ^ (d + k))) sum ∙ ones_above h k (1 * 2 ^ x + y) d (omega (arith, less)) in
      omega (arith, ones_cat x 1 y less, one_one)

  set_bit : (c : ℕ) → ones ((s + 2 ^ x) % 2 ^ c) ≡ cond (ltb x c) 1 0 + ones (s % 2 ^ c)
  set_bit c =
      by_le c x
      (λ l.
      let d : ℕ = x - c in
      let e : x ≡ d + c = omega arith in
      let same : (s + 2 ^ x) % 2 ^ c ≡ s % 2 ^ c =
      ap (λ (k : ℕ). (s + 2 ^ k) % 2 ^ c) e ∙ rw (pow-add 2 d c) (add-mul-mod_self_right s (2 ^ d) (2 ^ c)) in
      rw (le-ltb x c l) (omega (arith, ap ones same)))
      (λ l.
      let d : ℕ = c - (1 + x) in
      let e : c ≡ d + (1 + x) = omega arith in
      rw (lt-ltb x c l)
      (omega (arith, ap (λ (k : ℕ). ones ((s + 2 ^ x) % 2 ^ k)) e, ap (λ (k : ℕ). ones (s % 2 ^ k)) e, set_above d)))

-- ---- the mask of the names T
pub record Marks (seen : ℕ) (T : List ℕ) : Type 0 where
  pub small : seen ≤ length T * 2 ^ 20
  pub bits : (c : ℕ) → ones (seen % 2 ^ c) ≡ under c T

pub bit_small : (x : ℕ) → x ≤ 20 → 2 ^ x ≤ 2 ^ 20
bit_small x h = pow_mono h

pub marks_start : Marks 0 []
unfolding under ones
marks_start = record { small = omega arith; bits = λ c. ap ones (zero-mod (2 ^ c)) }

pub marks_turn : {seen : ℕ} {T : List ℕ} (x : ℕ) → Marks seen T → x ≤ 20 → count x T ≡ 0 → Marks (seen + 2 ^ x) (T ++ x ∷ [])
marks_turn {seen} {T} x m h none =
    let e : 1 + x ≡ suc x = omega arith in
    let clear : ones (seen % 2 ^ (1 + x)) ≡ ones (seen % 2 ^ x) =
    m.bits (1 + x) ∙ ap (λ (k : ℕ). under k T) e ∙ omega (arith, m.bits x, under_suc x T) in
    record {
      small = omega (arith, bit_small x h, length-append T (x ∷ []));
      bits = λ c. set_bit seen x clear c ∙ omega (arith, m.bits c, under_snoc c x T);
    }
