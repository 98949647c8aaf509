-- The largest of the differences old level less new level. Assumes nothing.
use mathlib.Core.Path.{◌≡◌, refl, ap, sym, ◌∙◌}
use mathlib.Core.Bool.{true, false}
use mathlib.Core.List.{List, [], ◌∷◌}
use Prim.Native.Nat.{ℕ, zero, suc, ◌+◌, ◌-◌, ◌≤◌, ◌<◌}
use native.Mathlib.Omega.{arith}
use borrow.Author.Tests.{lt-ltb, le-ltb}
use lib.Dec.{leb→le, le→leb, ltb→lt}
use lib.IntN.{ℤ, pos, negsuc, sub_ℕ, nat_abs, pos-ne-negsuc, ◌-ℤ◌}
use lib.Signed.{lt_z, ◌≤ℤ◌, ◌<ℤ◌, lt_z_yes, lt_z_no, ≤ℤ_refl, <ℤ-≤ℤ_trans, clash_ℤ, yes_non_neg, pos-nat_abs}
use lib.ListN.{length, get_or}
use Rattle.theory.proofs.Cases.{by_test, by_le}
use Rattle.multicell.specs.Cost.{differences, maxℤ, largest_from, largest, cost_of}
use Rattle.multicell.specs.Claims.{IsLargest}

-- ---- the order of integers

by_lt_z : {P : Type 0} (a b : ℤ) → (lt_z a b ≡ true → a <ℤ b → P) → (lt_z a b ≡ false → b ≤ℤ a → P) → P
by_lt_z a b f g = by_test (lt_z a b) (λ e. f e (lt_z_yes (rw e tt))) (λ e. g e (lt_z_no (rw e tt)))

≤ℤ-trans : {a b c : ℤ} → a ≤ℤ b → b ≤ℤ c → a ≤ℤ c
≤ℤ-trans {a} {b} {c} h k = by_lt_z c a (λ _ l. clash_ℤ (<ℤ-≤ℤ_trans l h) k) (λ _ l. l)

<ℤ-≤ℤ : (a b : ℤ) → a <ℤ b → a ≤ℤ b
<ℤ-≤ℤ (pos a) (pos b) h = record { le = le→leb a b (omega (arith, ltb→lt a b h.lt)) }
<ℤ-≤ℤ (pos a) (negsuc b) h = absurd h.lt
<ℤ-≤ℤ (negsuc a) (pos b) h = record { le = tt }
<ℤ-≤ℤ (negsuc a) (negsuc b) h = record { le = le→leb b a (omega (arith, ltb→lt b a h.lt)) }

max_left : (a b : ℤ) → a ≤ℤ maxℤ a b
max_left a b = by_lt_z a b (λ e l. rw e (<ℤ-≤ℤ a b l)) (λ e l. rw e (≤ℤ_refl a))

max_right : (a b : ℤ) → b ≤ℤ maxℤ a b
max_right a b = by_lt_z a b (λ e l. rw e (≤ℤ_refl b)) (λ e l. rw e l)

-- ---- the largest

largest_from_lem : (m : ℤ) (ds : List ℤ) → IsLargest (m ∷ ds) (largest_from m ds)
largest_from_lem m [] = record {
  each = λ i l. let first : i ≡ 0 = omega arith in rw first (≤ℤ_refl m);
  index = 0;
  within = omega arith;
  here = refl;
}
largest_from_lem m (d ∷ ds) =
    let r : IsLargest (maxℤ m d ∷ ds) (largest_from (maxℤ m d) ds) = largest_from_lem (maxℤ m d) ds in
    some r.index r.within r.here (each r.each)
  where
    top : ℤ
    top = largest_from (maxℤ m d) ds

    each :
        ((i : ℕ) → i < length (maxℤ m d ∷ ds) → get_or (maxℤ m d ∷ ds) i (pos 0) ≤ℤ top)
        → (i : ℕ) → i < length (m ∷ d ∷ ds) → get_or (m ∷ d ∷ ds) i (pos 0) ≤ℤ top
    each h zero l = ≤ℤ-trans (max_left m d) (h 0 (omega arith))
    each h (suc zero) l = ≤ℤ-trans (max_right m d) (h 0 (omega arith))
    each h (suc (suc i)) l = h (suc i) (omega arith)

    some :
        (i : ℕ) → i < length (maxℤ m d ∷ ds) → get_or (maxℤ m d ∷ ds) i (pos 0) ≡ top
        → ((i : ℕ) → i < length (m ∷ d ∷ ds) → get_or (m ∷ d ∷ ds) i (pos 0) ≤ℤ top) → IsLargest (m ∷ d ∷ ds) top
    some zero l e h =
        by_test (lt_z m d)
        (λ t. record { each = h; index = 1; within = omega arith; here = sym (rw t) ∙ e })
        (λ t. record { each = h; index = 0; within = omega arith; here = sym (rw t) ∙ e })
    some (suc i) l e h = record { each = h; index = suc (suc i); within = omega arith; here = e }

pub largest_is : (ds : List ℤ) → 1 ≤ length ds → IsLargest ds (largest ds)
largest_is [] l = absurd (omega arith)
largest_is (d ∷ ds) l = largest_from_lem d ds

-- ---- the differences

difference : (o n : ℕ) → pos o -ℤ pos n ≡ sub_ℕ o n
difference o zero = let e : o + 0 ≡ o = omega arith in let f : o - 0 ≡ o = omega arith in rw (le-ltb o 0 (omega arith), e, f)
difference o (suc n) = refl

pub difference_low : (o n : ℕ) → n ≤ o → pos o -ℤ pos n ≡ pos (o - n)
difference_low o n h = difference o n ∙ rw (le-ltb o n h)

pub difference_high : (o n : ℕ) → o < n → pos o -ℤ pos n ≡ negsuc (n - suc o)
difference_high o n h = difference o n ∙ rw (lt-ltb o n h)

-- one that is at most c
difference_most : (o n c : ℕ) → (pos o -ℤ pos n) ≤ℤ pos c → o ≤ n + c
difference_most o n c h =
    by_le n o
    (λ l. omega (arith, leb→le (o - n) c (rw (difference_low o n l) at h).le))
    (λ l. omega arith)

-- one that is c
difference_is : (o n c : ℕ) → pos o -ℤ pos n ≡ pos c → o ≡ n + c
difference_is o n c h =
    by_le n o
    (λ l. let e : o - n ≡ c = ap nat_abs (sym (difference_low o n l) ∙ h) in omega arith)
    (λ l. absurd (pos-ne-negsuc c (n - suc o) (sym h ∙ difference_high o n l)))

pub differences_length : (old new : List ℕ) → length old ≡ length new → length (differences old new) ≡ length old
differences_length [] new e = refl
differences_length (o ∷ old) [] e = absurd (omega arith)
differences_length (o ∷ old) (n ∷ new) e = ap suc (differences_length old new (omega arith))

pub differences_at :
    (old new : List ℕ) (i : ℕ) → length old ≡ length new → i < length old
    → get_or (differences old new) i (pos 0) ≡ pos (get_or old i 0) -ℤ pos (get_or new i 0)
differences_at [] new i e l = absurd (omega arith)
differences_at (o ∷ old) [] i e l = absurd (omega arith)
differences_at (o ∷ old) (n ∷ new) zero e l = refl
differences_at (o ∷ old) (n ∷ new) (suc i) e l = differences_at old new i (omega arith) (omega arith)

-- ---- of lists of one length

module _ (old new : List ℕ) (same : length old ≡ length new) where
  many : length (differences old new) ≡ length old
  many = differences_length old new same

  -- what a largest difference c says of the levels
  pub largest_each : (c : ℕ) → IsLargest (differences old new) (pos c) → (i : ℕ) → i < length old → get_or old i 0 ≤ get_or new i 0 + c
  largest_each c r i l =
      difference_most (get_or old i 0) (get_or new i 0) c (rw (differences_at old new i same l) at (r.each i (omega (arith, many))))

  pub largest_here : (c : ℕ) (r : IsLargest (differences old new) (pos c)) → get_or old r.index 0 ≡ get_or new r.index 0 + c
  largest_here c r =
      difference_is (get_or old r.index 0) (get_or new r.index 0) c
      (sym (differences_at old new r.index same (omega (arith, many, r.within))) ∙ r.here)

  -- with a cell whose new level is not above its old one
  module _ {i : ℕ} (l : i < length old) (low : get_or new i 0 ≤ get_or old i 0) where
    top : IsLargest (differences old new) (largest (differences old new))
    top = largest_is (differences old new) (omega (arith, many))

    -- "their largest can't" be negative
    pub cost_natural : largest (differences old new) ≡ pos (cost_of old new)
    unfolding cost_of
    cost_natural =
        let here = differences_at old new i same l ∙ difference_low (get_or old i 0) (get_or new i 0) low in
        let up : pos (get_or old i 0 - get_or new i 0) ≤ℤ largest (differences old new) = rw here at (top.each i (omega (arith, many))) in
        let natural : pos 0 ≤ℤ pos (get_or old i 0 - get_or new i 0) = record { le = le→leb 0 (get_or old i 0 - get_or new i 0) (omega arith) } in
        sym (pos-nat_abs (largest (differences old new)) (yes_non_neg (≤ℤ-trans natural up)))

    pub cost_largest : IsLargest (differences old new) (pos (cost_of old new))
    cost_largest = rw cost_natural at top
