-- Sums of weights from each index on, filled from the last. Assumes nothing.
use mathlib.Core.Path.{◌≡◌, refl, sym, ap, ◌∙◌}
use mathlib.Core.List.{List, [], ◌∷◌, ◌++◌, append-nil}
use Prim.Native.Nat.{ℕ, suc, ◌+◌, ◌-◌, ◌*◌, ◌≤◌, ◌<◌}
use native.Mathlib.Omega.{arith}
use native.Mathlib.Nat.{mul-le-mul_left, mul-le-mul_right}
use lib.ListN.{length, get_or, drop, set, replicate, length-set, length-append, get_or-replicate}
use lib.Seq.{append_snoc, get_or-append-add, drop-cons, drop-length, get_or-set_same, get_or-set_other}
use Rattle.theory.proofs.Cases.{by_order}
use Rattle.uneven.specs.Codebook.{sum_of, HasTails}

-- those from index i on are filled
pub record TailsFrom (heavy tails : List ℕ) (i : ℕ) : Type 0 where
  pub within : i ≤ length heavy
  pub few : length heavy ≤ 64
  pub long : length tails ≡ 65
  pub is : (j : ℕ) → i ≤ j → j ≤ length heavy → get_or tails j 0 ≡ sum_of (drop j heavy)
  pub small : (j : ℕ) → i ≤ j → j ≤ length heavy → get_or tails j 0 ≤ 65535 * (length heavy - j)

pub tails_none : (heavy : List ℕ) → length heavy ≤ 64 → TailsFrom heavy (replicate 65 0) (length heavy)
tails_none heavy few = record {
  within = omega arith;
  few = few;
  long = refl;
  is = λ j h k. let last : j ≡ length heavy = omega arith in get_or-replicate {A = ℕ} 65 j 0 0 (omega arith) ∙ sym (rw (last, drop-length heavy) refl);
  small = λ j h k. omega (arith, get_or-replicate {A = ℕ} 65 j 0 0 (omega arith));
}

module _ {heavy tails : List ℕ} {i : ℕ} (v : TailsFrom heavy tails i) where
  -- the index before it
  pub tails_more : 0 < i → {w : ℕ} → w ≡ get_or heavy (i - 1) 0 → w ≤ 65535 → TailsFrom heavy (set tails (i - 1) (get_or tails i 0 + w)) (i - 1)
  tails_more some {w} f b =
      let x : ℕ = get_or tails i 0 + w in
      let next : suc (i - 1) ≡ i = omega arith in
      let inside : i - 1 < length tails = omega (arith, v.within, v.few, v.long) in
      let x_is : x ≡ w + sum_of (drop i heavy) = omega (arith, v.is i (omega arith) v.within) in
      let x_small : x ≤ 65535 * (length heavy - (i - 1)) = omega (arith, v.small i (omega arith) v.within, v.within) in
      let sum : sum_of (drop (i - 1) heavy) ≡ w + sum_of (drop i heavy) =
      ap sum_of (drop-cons heavy (i - 1) 0 (omega (arith, v.within))) ∙ cc (next, f) in
      record {
        within = omega (arith, v.within);
        few = v.few;
        long = length-set tails (i - 1) x ∙ v.long;
        is = λ j h k.
            by_order (i - 1) j
            (λ less. get_or-set_other tails (i - 1) j x 0 (λ q. omega arith) ∙ v.is j (omega arith) k)
            (λ more. absurd (omega arith))
            (λ same. rw (← same) (get_or-set_same tails (i - 1) x 0 inside ∙ x_is ∙ sym sum));
        small = λ j h k.
            by_order (i - 1) j
            (λ less. omega (arith, get_or-set_other tails (i - 1) j x 0 (λ q. omega arith), v.small j (omega arith) k))
            (λ more. absurd (omega arith))
            (λ same. rw (← same) (omega (arith, get_or-set_same tails (i - 1) x 0 inside)));
      }

  pub tails_all : i ≤ 0 → HasTails heavy tails
  tails_all h = record { long = v.long; is = λ j k. v.is j (omega arith) k; small = λ j k. v.small j (omega arith) k }

-- the same, by the weights that are left to add
pub record TailsLeft (heavy tails rest : List ℕ) : Type 0 where
  pub behind : List ℕ
  pub parts : heavy ≡ rest ++ behind
  pub filled : TailsFrom heavy tails (length rest)

pub left_all : {heavy rest : List ℕ} → length heavy ≤ 64 → rest ≡ heavy → TailsLeft heavy (replicate 65 0) rest
left_all {heavy} few e = record { behind = []; parts = rw e (sym (append-nil heavy)); filled = rw e (tails_none heavy few) }

module _ {heavy tails rest : List ℕ} (v : TailsLeft heavy tails rest) (bounded : (i : ℕ) → get_or heavy i 0 ≤ 65535) (left : List ℕ) (w : ℕ) (next : rest ≡ left ++ w ∷ []) where
  left_long : length rest - 1 ≡ length left
  left_long = rw (next, length-append) (omega arith)

  some : 0 < length rest
  some = rw (next, length-append) (omega arith)

  parts_next : heavy ≡ left ++ w ∷ v.behind
  parts_next = v.parts ∙ rw next (append_snoc left w v.behind)

  weight_is : w ≡ get_or heavy (length rest - 1) 0
  weight_is =
      let here : length left + 0 ≡ length left = omega arith in
      sym (rw (left_long, parts_next) (rw here at (get_or-append-add left (w ∷ v.behind) 0 0)))

  small : w ≤ 65535
  small = rw weight_is (bounded (length rest - 1))

  pub left_index : {i count : ℕ} → i ≡ count + length left → count ≡ 0 → (i ≡ length left) × (i < 64)
  left_index e none = (omega arith, omega (arith, left_long, some, v.filled.within, v.filled.few))

  -- the last of them
  pub left_more : TailsLeft heavy (set tails (length left) (get_or tails (length left + 1) 0 + w)) left
  left_more =
      let long : length rest ≡ length left + 1 = omega (arith, left_long, some) in
      record { behind = w ∷ v.behind; parts = parts_next; filled = rw (← long, ← left_long) (tails_more v.filled some weight_is small) }

pub left_none : {heavy tails rest : List ℕ} → TailsLeft heavy tails rest → length rest ≡ 0 → HasTails heavy tails
left_none v e = tails_all v.filled (omega arith)

-- a weight times a length
pub product_small : (w l : ℕ) → w ≤ 65535 → l ≤ 255 → w * l ≤ 16711425
product_small w l h k = omega (arith, mul-le-mul_left w k, mul-le-mul_right 255 h)
