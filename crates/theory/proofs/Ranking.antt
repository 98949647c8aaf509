-- Permutations of n cells and ranks below n! are each other's inverse, and the digits determine the rank, by weights too. Assumes nothing.
use mathlib.Core.Path.{◌≡◌, refl, sym, ap, ap₂, ◌∙◌, subst}
use mathlib.Core.List.{List, [], ◌∷◌, ◌++◌, reverse, reverse-append, reverse-reverse}
use Prim.Native.Nat.{ℕ, zero, suc, ◌+◌, ◌-◌, ◌*◌, ◌/◌, ◌%◌, ◌≤◌, ◌<◌}
use native.Mathlib.Nat.{mod-lt, mod-eq_of_lt, div-add-mod, add-mul-mod_self_left, add-mul-div_left, div-eq_of_lt, div-lt_iff_lt-mul}
use native.Mathlib.Omega.{arith}
use borrow.Author.Tests.{eq-eqb, ne_eqb}
use lib.ListN.{length, get_or, take, drop, length-reverse, take-append-drop}
use lib.Seq.{length-take-le, take_at, drop_at, take_all}
use Rattle.theory.specs.Lists.{count}
use Rattle.theory.specs.Factorial.{factorial}
use Rattle.theory.specs.Permutation.{IsPermutation, place_of}
use Rattle.theory.specs.Rank.{digit, remaining, rank, digits, digit_value, weighted_sum}
use Rattle.theory.specs.Unrank.{place_of_digit, insert_at, unrank}
use Rattle.theory.specs.Claims.{Ranking}
use Rattle.theory.proofs.Cases.{by_name}
use Rattle.theory.proofs.Counts.{count_append, count_reverse, Adds, adds_reversed}
use Rattle.theory.proofs.Permutations.{added, absent_past, empty, Around, around}
use Rattle.theory.proofs.Splits.{rank_is, digit_top, digit_lower, digit_lt, rank_lt}
use Rattle.theory.proofs.Weights.{weighted_value}

-- ---- the largest cell, put into a permutation

module _ (n i : ℕ) (q : List ℕ) where
  above : List ℕ
  above = reverse (take (i - 1) q)

  below : List ℕ
  below = reverse (drop (i - 1) q)

  remains : reverse above ++ reverse below ≡ q
  unfolding above below
  remains =
      ap₂ (λ (a b : List ℕ). a ++ b) (reverse-reverse (take (i - 1) q)) (reverse-reverse (drop (i - 1) q)) ∙ take-append-drop (i - 1) q

  insert_parts : insert_at n i q ≡ above ++ n ∷ below
  unfolding insert_at above below
  insert_parts = refl

  insert_adds : Adds n q (insert_at n i q)
  insert_adds = subst (λ (l : List ℕ). Adds n l (insert_at n i q)) remains (adds_reversed above below insert_parts)

insert_rank : (m i : ℕ) (q : List ℕ) → IsPermutation m q → 1 ≤ i → i ≤ suc m
    → rank (suc m) (insert_at (suc m) i q) ≡ digit (suc m) i + suc m * rank m q
unfolding above
insert_rank m i q o low high =
    let u = above (suc m) i q in
    let v = below (suc m) i q in
    let none : count (suc m) u ≡ 0 = omega (
      arith,
      absent_past o (suc m) (omega arith),
      ap (count (suc m)) (remains (suc m) i q),
      count_append (suc m) (reverse u) (reverse v),
      count_reverse (suc m) u,
    ) in
    let len : suc (length u) ≡ i = omega (arith, length-reverse (take (i - 1) q), length-take-le (i - 1) q (omega (arith, o.long))) in
    rank_is m u v (insert_parts (suc m) i q) none
    ∙ ap₂ (λ (j : ℕ) (l : List ℕ). digit (suc m) j + suc m * rank m l) len (remains (suc m) i q)

-- ---- the place of a digit has that digit, and the digit of a place that place

place_top : (m d : ℕ) → d ≡ m → place_of_digit (suc m) d ≡ 1
unfolding place_of_digit
place_top m d e = rw (eq-eqb d (suc m - 1) (omega arith))

place_lower : (m d : ℕ) → (d ≡ m → ⊥) → place_of_digit (suc m) d ≡ d + 2
unfolding place_of_digit
place_lower m d ne = rw (ne_eqb d (suc m - 1) (λ e. ne (omega arith)))

pub record PlaceFor (m d i : ℕ) : Type 0 where
  pub low : 1 ≤ i
  pub high : i ≤ suc m
  pub has : digit (suc m) i ≡ d

pub place_for : (m d : ℕ) → d < suc m → PlaceFor m d (place_of_digit (suc m) d)
place_for m d h =
    by_name d m
    (λ q e. subst (PlaceFor m d) (sym (place_top m d q)) (record { low = omega arith; high = omega arith; has = digit_top m ∙ sym q }))
    (λ ne e.
    subst (PlaceFor m d) (sym (place_lower m d ne))
    (record { low = omega arith; high = omega arith; has = digit_lower m (d + 2) (omega arith) (omega arith) ∙ omega arith }))

place_digit : (m k : ℕ) → k ≤ m → place_of_digit (suc m) (digit (suc m) (suc k)) ≡ suc k
place_digit m zero h = place_top m (digit (suc m) 1) (digit_top m)
place_digit m (suc k) h =
    let d = digit_lower m (suc (suc k)) (omega arith) (omega arith) in
    place_lower m (digit (suc m) (suc (suc k))) (λ e. omega (arith, d)) ∙ omega (arith, d)

-- ---- the permutation of a rank

pub unrank_permutation : (n r : ℕ) → IsPermutation n (unrank n r)
unfolding unrank
unrank_permutation zero r = empty
unrank_permutation (suc m) r =
    added (insert_adds (suc m) (place_of_digit (suc m) (r % suc m)) (unrank m (r / suc m))) (unrank_permutation m (r / suc m))

pub rank_unrank : (n r : ℕ) → r < factorial n → rank n (unrank n r) ≡ r
unfolding unrank rank
rank_unrank zero r h = omega arith
rank_unrank (suc m) r h =
    let p = place_for m (r % suc m) (mod-lt r (omega arith)) in
    let q = r / suc m in
    let less : q < factorial m = (div-lt_iff_lt-mul {k = suc m} {x = r} {y = factorial m} (omega arith)).1 (omega arith) in
    insert_rank m (place_of_digit (suc m) (r % suc m)) (unrank m q) (unrank_permutation m q) p.low p.high
    ∙ ap₂ (λ (d t : ℕ). d + suc m * t) p.has (rank_unrank m q less)
    ∙ omega (arith, div-add-mod r (suc m))

pub unrank_rank : (n : ℕ) (xs : List ℕ) → IsPermutation n xs → unrank n (rank n xs) ≡ xs
unfolding unrank insert_at
unrank_rank zero [] o = refl
unrank_rank zero (x ∷ xs) o = absurd (omega (arith, o.long))
unrank_rank (suc m) xs o =
    ap₂ (λ (d q : ℕ). insert_at (suc m) (place_of_digit (suc m) d) (unrank m q)) low high
    ∙ ap₂ (λ (i : ℕ) (l : List ℕ). insert_at (suc m) i l) (place_digit m (length u) (omega (arith, a.sizes))) (unrank_rank m R a.others)
    ∙ ap₂ (λ (s t : List ℕ). s ++ suc m ∷ t)
    (ap reverse (take_at (reverse u) (reverse v) (suc (length u) - 1) len) ∙ reverse-reverse u)
    (ap reverse (drop_at (reverse u) (reverse v) (suc (length u) - 1) len) ∙ reverse-reverse v)
    ∙ sym a.parts
  where
    a : Around m xs
    a = around o

    u : List ℕ
    u = a.above

    v : List ℕ
    v = a.below

    R : List ℕ
    R = reverse u ++ reverse v

    D : ℕ
    D = digit (suc m) (suc (length u))

    is : rank (suc m) xs ≡ D + suc m * rank m R
    is = rank_is m u v a.parts a.none_above

    low : rank (suc m) xs % suc m ≡ D
    low = ap (λ (t : ℕ). t % suc m) is ∙ add-mul-mod_self_left D (suc m) (rank m R) ∙ mod-eq_of_lt (digit_lt m (suc (length u)))

    high : rank (suc m) xs / suc m ≡ rank m R
    high = omega (
      arith,
      ap (λ (t : ℕ). t / suc m) is,
      add-mul-div_left D (rank m R) {y = suc m} (omega arith),
      div-eq_of_lt (digit_lt m (suc (length u))),
    )

    len : length (reverse u) ≡ suc (length u) - 1
    len = omega (arith, length-reverse u)

-- different permutations have different ranks
pub rank_injective : {n : ℕ} {xs ys : List ℕ} → IsPermutation n xs → IsPermutation n ys → rank n xs ≡ rank n ys → xs ≡ ys
rank_injective {n} {xs} {ys} o p e = sym (unrank_rank n xs o) ∙ ap (unrank n) e ∙ unrank_rank n ys p

-- ---- digits

digits_range : (n : ℕ) (xs : List ℕ) (i : ℕ) → i < n → get_or (digits n xs) i 0 < n - i
unfolding digits
digits_range zero xs i h = absurd (omega arith)
digits_range (suc m) xs zero h = omega (arith, digit_lt m (place_of (suc m) xs))
digits_range (suc m) xs (suc i) h = omega (arith, digits_range m (remaining (place_of (suc m) xs) xs) i (omega arith))

pub digits_long : (n : ℕ) (xs : List ℕ) → length (digits n xs) ≡ n
unfolding digits
digits_long zero xs = refl
digits_long (suc m) xs = ap suc (digits_long m (remaining (place_of (suc m) xs) xs))

digits_end : (m : ℕ) (xs : List ℕ) → get_or (digits (suc m) xs) m 0 ≡ 0
unfolding digits
digits_end zero xs = omega (arith, digit_lt 0 (place_of 1 xs))
digits_end (suc m) xs = digits_end m (remaining (place_of (suc (suc m)) xs) xs)

digits_last : (n : ℕ) (xs : List ℕ) → get_or (digits n xs) (n - 1) 0 ≡ 0
unfolding digits
digits_last zero xs = refl
digits_last (suc m) xs =
    let e : suc m - 1 ≡ m = omega arith in
    ap (λ (i : ℕ). get_or (digits (suc m) xs) i 0) e ∙ digits_end m xs

pub digits_rank : (n : ℕ) (xs : List ℕ) → digit_value n (digits n xs) ≡ rank n xs
unfolding digits digit_value rank
digits_rank zero xs = refl
digits_rank (suc m) xs =
    let i = place_of (suc m) xs in
    let e : suc m - 1 ≡ m = omega arith in
    ap (λ (t : ℕ). digit (suc m) i + suc m * t)
    (ap (λ (k : ℕ). digit_value k (digits m (remaining i xs))) e ∙ digits_rank m (remaining i xs))

weighted : (n : ℕ) (ds : List ℕ) → length ds ≡ n → weighted_sum n n ds ≡ digit_value n ds
weighted n ds long = weighted_value n n ds (omega arith) (omega arith) ∙ ap (digit_value n) (take_all n ds (omega arith))

weighted_rank : (n : ℕ) (xs : List ℕ) → weighted_sum n n (digits n xs) ≡ rank n xs
weighted_rank n xs = weighted n (digits n xs) (digits_long n xs) ∙ digits_rank n xs

circle : (i : ℕ) (xs : List ℕ) → remaining i xs ≡ reverse (drop i xs ++ take (i - 1) xs)
unfolding remaining
circle i xs = sym (reverse-append (drop i xs) (take (i - 1) xs))

pub ranking : (n : ℕ) → Ranking n
ranking n = record {
  below = rank_lt n;
  unrank_rank = unrank_rank n;
  rank_unrank = rank_unrank n;
  unrank_permutation = unrank_permutation n;
  circle = circle;
  digits_long = digits_long n;
  digits_range = digits_range n;
  digits_last = digits_last n;
  digits_rank = digits_rank n;
  weighted = weighted n;
  weighted_rank = weighted_rank n;
}
