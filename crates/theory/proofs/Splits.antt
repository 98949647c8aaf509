-- What a push, a remaining permutation, a place, a digit, a rank and a successor are, for a list that is split at a cell. Assumes nothing.
use mathlib.Core.Path.{◌≡◌, refl, sym, ap, ap₂, ◌∙◌}
use mathlib.Core.List.{List, [], ◌∷◌, ◌++◌, reverse}
use Prim.Native.Nat.{ℕ, zero, suc, ◌+◌, ◌-◌, ◌*◌, ◌%◌, ◌≤◌, ◌<◌}
use native.Mathlib.Nat.{mod-lt, mod-eq_of_lt, add-mod_right, mul-le-mul_left}
use native.Mathlib.Omega.{arith}
use borrow.Author.Tests.{eq-eqb, ne_eqb, le-leb, lt-leb}
use lib.ListN.{length, get_or, take, drop, length-append, take-append-drop, drop_of_length-le}
use lib.Seq.{append_snoc, take_at, drop_at, get_or_at, split_at, drop-cons, length-take-le}
use Rattle.theory.specs.Lists.{count}
use Rattle.theory.specs.Factorial.{factorial}
use Rattle.theory.specs.Permutation.{cell_at, top, place_of}
use Rattle.theory.specs.Push.{push}
use Rattle.theory.specs.Successor.{smaller, successor}
use Rattle.theory.specs.Rank.{digit, remaining, rank}
use Rattle.theory.proofs.Cases.{by_name, by_le}
use Rattle.theory.proofs.Counts.{delta_eq}

-- ---- a list, split at a place or at a cell

pub record At (i : ℕ) (xs : List ℕ) : Type 0 where
  pub above : List ℕ
  pub cell : ℕ
  pub below : List ℕ
  pub parts : xs ≡ above ++ cell ∷ below
  pub place : i ≡ suc (length above)
  pub is : cell ≡ get_or xs (i - 1) 0

pub at : (i : ℕ) (xs : List ℕ) → 1 ≤ i → i ≤ length xs → At i xs
at i xs low high = record {
  above = take (i - 1) xs;
  cell = get_or xs (i - 1) 0;
  below = drop (suc (i - 1)) xs;
  parts = split_at xs (i - 1) 0 (omega arith);
  place = omega (arith, length-take-le (i - 1) xs (omega arith));
  is = refl;
}

-- the last of p entries
pub drop_last : (p : ℕ) (q : List ℕ) → 1 ≤ p → length q ≡ p → drop (p - 1) q ≡ cell_at p q ∷ []
drop_last p q pos h =
    drop-cons q (p - 1) 0 (omega arith) ∙ ap (λ (l : List ℕ). cell_at p q ∷ l) (drop_of_length-le q {i = suc (p - 1)} (omega arith))

pub last_split : (p : ℕ) (q : List ℕ) → 1 ≤ p → length q ≡ p → q ≡ take (p - 1) q ++ cell_at p q ∷ []
last_split p q pos h = sym (take-append-drop (p - 1) q) ∙ ap (λ (l : List ℕ). take (p - 1) q ++ l) (drop_last p q pos h)

drop_past : (c : ℕ) (u v : List ℕ) (i : ℕ) → i ≡ suc (length u) → drop i (u ++ c ∷ v) ≡ v
drop_past c u v i h =
    ap (drop i) (sym (append_snoc u c v)) ∙ drop_at (u ++ c ∷ []) v i (omega (arith, length-append u (c ∷ [])))

pub push_is : (c : ℕ) {i : ℕ} {xs : List ℕ} (u v : List ℕ) → xs ≡ u ++ c ∷ v → i ≡ suc (length u) → push i xs ≡ c ∷ (u ++ v)
unfolding push
push_is c {i} u v e h =
    let k : length u ≡ i - 1 = omega arith in
    ap (push i) e
    ∙ ap₂ (λ (x : ℕ) (l : List ℕ). x ∷ l) (get_or_at u c v 0 (i - 1) k)
    (ap₂ (λ (a b : List ℕ). a ++ b) (take_at u (c ∷ v) (i - 1) k) (drop_past c u v i h))

pub remaining_is : (c : ℕ) {i : ℕ} {xs : List ℕ} (u v : List ℕ) → xs ≡ u ++ c ∷ v → i ≡ suc (length u)
    → remaining i xs ≡ reverse u ++ reverse v
unfolding remaining
remaining_is c {i} u v e h =
    ap (remaining i) e
    ∙ ap₂ (λ (a b : List ℕ). reverse a ++ reverse b) (take_at u (c ∷ v) (i - 1) (omega arith)) (drop_past c u v i h)

pub place_is : (c : ℕ) {xs : List ℕ} (u v : List ℕ) → xs ≡ u ++ c ∷ v → count c u ≡ 0 → place_of c xs ≡ suc (length u)
unfolding place_of
place_is c u v e h = ap (place_of c) e ∙ go u h
  where
    go : (u : List ℕ) → count c u ≡ 0 → place_of c (u ++ c ∷ v) ≡ suc (length u)
    go [] h = rw (eq-eqb c c refl)
    go (x ∷ u) h = rw (ne_eqb x c (λ e. omega (arith, delta_eq x c e))) (ap suc (go u (omega arith)))

pub rank_is : (m : ℕ) {xs : List ℕ} (u v : List ℕ) → xs ≡ u ++ suc m ∷ v → count (suc m) u ≡ 0
    → rank (suc m) xs ≡ digit (suc m) (suc (length u)) + suc m * rank m (reverse u ++ reverse v)
unfolding rank
rank_is m u v e h =
    let p = place_is (suc m) u v e h in
    ap₂ (λ (i : ℕ) (l : List ℕ). digit (suc m) i + suc m * rank m l) p (remaining_is (suc m) u v e p)

-- ---- digits

pub digit_top : (m : ℕ) → digit (suc m) 1 ≡ m
unfolding digit
digit_top m = ap (λ (k : ℕ). k % suc m) (omega arith) ∙ mod-eq_of_lt (omega arith)

pub digit_lower : (m i : ℕ) → 2 ≤ i → i ≤ m + 2 → digit (suc m) i ≡ i - 2
unfolding digit
digit_lower m i low high =
    ap (λ (j : ℕ). j % suc m) (omega arith) ∙ add-mod_right (i - 2) (suc m) ∙ mod-eq_of_lt (omega arith)

pub digit_lt : (m i : ℕ) → digit (suc m) i < suc m
unfolding digit
digit_lt m i = mod-lt (i + suc m - 2) (omega arith)

pub rank_lt : (n : ℕ) (xs : List ℕ) → rank n xs < factorial n
unfolding rank
rank_lt zero xs = omega arith
rank_lt (suc m) xs =
    let i = place_of (suc m) xs in
    omega (arith, digit_lt m i, mul-le-mul_left (suc m) (rank_lt m (remaining i xs)))

-- ---- the successor

pub successor_low : (m : ℕ) (xs : List ℕ) → 1 ≤ m → (top xs ≡ suc m → ⊥) → successor (suc m) xs ≡ suc m
unfolding successor
successor_low m xs h ne =
    by_le (suc m) 2
    (λ l. rw (le-leb (suc m) 2 l) (omega arith))
    (λ l. rw (lt-leb (suc m) 2 l, ne_eqb (top xs) (suc m) ne))

pub successor_top : (m : ℕ) (xs : List ℕ) → 2 ≤ m → top xs ≡ suc m → successor (suc m) xs ≡ suc m + 1 - successor m (smaller xs)
unfolding successor
successor_top m xs h e = rw (lt-leb (suc m) 2 (omega arith), eq-eqb (top xs) (suc m) e)

-- between 2 and n, for every list
pub successor_bounds : (n : ℕ) (xs : List ℕ) → 2 ≤ n → (2 ≤ successor n xs) × (successor n xs ≤ n)
unfolding successor
successor_bounds zero xs h = absurd (omega arith)
successor_bounds (suc m) xs h =
    by_le (suc m) 2
    (λ l. rw (le-leb (suc m) 2 l) (omega arith, omega arith))
    (λ l.
    let b = successor_bounds m (smaller xs) (omega arith) in
    by_name (top xs) (suc m)
    (λ q e. rw (lt-leb (suc m) 2 l, e) (omega (arith, b.0, b.1), omega (arith, b.0, b.1)))
    (λ q e. rw (lt-leb (suc m) 2 l, e) (omega arith, omega arith)))
