-- The number of a prefix, counted one cell after another: what was counted, on the cells that are left, is the whole. Assumes nothing.
use mathlib.Core.Path.{◌≡◌, refl, ap, sym, ◌∙◌}
use mathlib.Core.Bool.{true, false}
use mathlib.Core.List.{List, [], ◌∷◌, ◌++◌}
use Prim.Native.Nat.{ℕ, zero, suc, ◌+◌, ◌-◌, ◌*◌, ◌^◌, ◌≤◌, ◌<◌}
use native.Mathlib.Nat.{mul-le-mul_left}
use native.Mathlib.Numerals.{add-one}
use native.Mathlib.Omega.{arith}
use borrow.Author.Tests.{eq-eqb}
use lib.ListN.{length, get_or, take, drop, length-drop, drop_of_length-le}
use lib.Seq.{length-take-le, take-suc, drop-cons, split_at, get_or-take}
use Rattle.theory.specs.Lists.{count, member, without, names_from, names}
use Rattle.theory.specs.Factorial.{falling}
use Rattle.theory.specs.Permutation.{IsPermutation, place_of}
use Rattle.theory.specs.Prefix.{prefix_number}
use Rattle.theory.proofs.Cases.{by_test, by_name}
use Rattle.theory.proofs.Counts.{count_append, delta_self}
use Rattle.theory.proofs.Members.{Distinct, count_none, member_count, permutation_single, member_without, distinct_without, without_none, without_without, without_one_length, entry_inside}
use Rattle.theory.proofs.Names.{names_length, names_member}
use Rattle.theory.proofs.Permutations.{inside, absent_zero}
use Rattle.theory.proofs.Places.{place_of_low}
use Rattle.theory.proofs.Factorials.{factorials, falling_pos}
use Rattle.theory.proofs.Numbering.{number_of}
use Rattle.theory.proofs.Prefixes.{names_distinct, permutation_prefix, prefix_number_number_of, numbering}
use Rattle.permutation.specs.Spots.{spot}
use Rattle.permutation.proofs.Spots.{under, under_zero, under_suc, spot_first}
use Rattle.symbols.specs.PrefixDigits.{RowSpots}

-- ---- the place of a name among those that are left without q

module _ (c : ℕ) (q : List ℕ) (single : (x : ℕ) → count x q ≤ 1) (out : member c q ≡ false) where
  -- from a on: as far past a as c is, but for the names of q between
  place_from_lem : (a k : ℕ) → a ≤ c → c < a + k → place_of c (without q (names_from a k)) + under c q + a ≡ c + 1 + under a q
  unfolding place_of
  place_from_lem a zero low high = absurd (omega arith)
  place_from_lem a (suc k) low high =
      by_name a c
      (λ r e. rw (r, out, eq-eqb c c refl) (omega arith))
      (λ ne e.
      let rest = place_from_lem (suc a) k (omega (arith, ne)) (omega arith) in
      by_test (member a q)
      (λ m. rw m (omega (arith, rest, under_suc a q, single a, member_count a q m)))
      (λ m. rw (m, e) (omega (arith, rest, under_suc a q, count_none a q m))))

-- a permutation, split at a cell: its place among the names that are left without those above it, and its spot
module _ {n : ℕ} {xs : List ℕ} (o : IsPermutation n xs) (c : ℕ) (u v : List ℕ) (e : xs ≡ u ++ c ∷ v) where
  counts : (x : ℕ) → count x u + count x (c ∷ v) ≡ count x xs
  counts x = sym (ap (count x) e ∙ count_append x u (c ∷ v))

  single : (x : ℕ) → count x u ≤ 1
  single x = omega (arith, counts x, permutation_single o x)

  bounds : (1 ≤ c) × (c ≤ n)
  bounds = inside n xs o c (omega (arith, counts c, delta_self c))

  none : count c u ≡ 0
  none = omega (arith, counts c, o.once c bounds.0 bounds.1, delta_self c)

  above : member c u ≡ false
  above = by_test (member c u) (λ m. absurd (omega (arith, none, member_count c u m))) (λ m. m)

  split_free : member c (without u (names n)) ≡ true
  split_free = cc (member_without c u (names n), names_member 1 n c bounds.0 (omega (arith, bounds.1)), above)

  split_place : place_of c (without u (names n)) + spot c xs ≡ c
  split_place =
      omega (
        arith,
        place_from_lem c u single above 1 n bounds.0 (omega (arith, bounds.1)),
        under_suc 0 u,
        under_zero u,
        counts 0,
        absent_zero o,
        ap (spot c) e ∙ spot_first c u v none,
      )

-- ---- one name after another

-- the number of a prefix, of which the first names were counted to `number`, and l are the others
abbrev whole : ℕ → List ℕ → List ℕ → ℕ
whole number free l = number * falling (length free) (length l) + number_of free l

-- the first of the others is counted too
whole_next : (number c : ℕ) (free l : List ℕ) → Distinct free → member c free ≡ true
    → whole number free (c ∷ l) ≡ whole (number * length free + (place_of c free - 1)) (without (c ∷ []) free) l
unfolding number_of
whole_next number c free l d m = rw (without_one_length c free d m) (omega arith)

-- what was counted is not above the whole
counted_low : (number : ℕ) (free l : List ℕ) → length l ≤ length free → number ≤ whole number free l
counted_low number free l h = omega (arith, mul-le-mul_left number (falling_pos (length free) (length l) h))

-- the names that are left without the first i of a permutation
abbrev free_at : ℕ → ℕ → List ℕ → List ℕ
free_at n i xs = without (take i xs) (names n)

-- the first i cells of the prefix were counted
pub record Counted (n p : ℕ) (xs : List ℕ) (i number : ℕ) : Type 0 where
  pub within : i ≤ p
  pub free : length (free_at n i xs) ≡ n - i
  pub left : whole number (free_at n i xs) (drop i (take p xs)) ≡ prefix_number n p xs

-- one turn: cell c at index i, whose spot is s, is counted too
pub record CellCounted (n p : ℕ) (xs : List ℕ) (i number c s : ℕ) : Type 0 where
  pub below : s < c
  pub fits : number * (n - i) + (c - 1 - s) < 2 ^ 64
  pub next : Counted n p xs (i + 1) (number * (n - i) + (c - 1 - s))

module _ {n p : ℕ} {xs : List ℕ} (o : IsPermutation n xs) (le : p ≤ n) where
  pub start : Counted n p xs 0 0
  start =
      let all = without_none [] (names n) (λ c m. refl) in
      record {
        within = omega arith;
        free = rw all (omega (arith, names_length 1 n));
        left = rw all (omega (arith, prefix_number_number_of n p xs (permutation_prefix p xs le o)));
      }

  prefix_long : length (take p xs) ≡ p
  prefix_long = length-take-le p xs (omega (arith, o.long))

  pub end : {i number : ℕ} → Counted n p xs i number → p ≤ i → number ≡ prefix_number n p xs
  unfolding number_of
  end {i} v h =
      let none : drop i (take p xs) ≡ [] = drop_of_length-le (take p xs) {i = i} (omega (arith, prefix_long)) in
      omega (arith, rw none at v.left)

  -- the whole fits 64 bits, and so does what is counted on the way
  fits : n ≤ 20 → prefix_number n p xs < 2 ^ 64
  fits few =
      omega (
        arith,
        ((numbering n p le).prefix_number_lem xs (permutation_prefix p xs le o)).0,
        (numbering n p le).many,
        factorials.quotient_fits n p few,
      )

  module _ {i number c s : ℕ} (v : Counted n p xs i number) (more : i < p) (is : c ≡ get_or xs i 0) (at : s ≡ spot c xs) where
    parts : xs ≡ take i xs ++ c ∷ drop (suc i) xs
    parts = rw is (split_at xs i 0 (omega (arith, o.long)))

    place : place_of c (free_at n i xs) + s ≡ c
    place = rw at (split_place o c (take i xs) (drop (suc i) xs) parts)

    distinct : Distinct (free_at n i xs)
    distinct = distinct_without (take i xs) (names n) (names_distinct n)

    here : member c (free_at n i xs) ≡ true
    here = split_free o c (take i xs) (drop (suc i) xs) parts

    next_free : without (c ∷ []) (free_at n i xs) ≡ free_at n (suc i) xs
    next_free =
        without_without (c ∷ []) (take i xs) (names n)
        ∙ ap (λ (q : List ℕ). without q (names n)) (rw is (sym (take-suc xs i 0 (omega (arith, o.long)))))

    next_left : drop i (take p xs) ≡ c ∷ drop (suc i) (take p xs)
    next_left = drop-cons (take p xs) i 0 (omega (arith, prefix_long)) ∙ rw (get_or-take, is)

    step : Counted n p xs (suc i) (number * (n - i) + (c - 1 - s))
    step =
        let digit : place_of c (free_at n i xs) - 1 ≡ c - 1 - s = omega (arith, place) in
        record {
          within = more;
          free = ap length (sym next_free) ∙ without_one_length c (free_at n i xs) distinct here ∙ omega (arith, v.free);
          left = cc (whole_next number c (free_at n i xs) (drop (suc i) (take p xs)) distinct here, next_free, next_left, v.left, v.free);
        }

    step_fits : n ≤ 20 → number * (n - i) + (c - 1 - s) < 2 ^ 64
    step_fits few =
        let l : List ℕ = drop (suc i) (take p xs) in
        let free : List ℕ = free_at n (suc i) xs in
        let room : length l ≤ length free = omega (arith, step.free, length-drop (suc i) (take p xs), prefix_long) in
        omega (arith, counted_low (number * (n - i) + (c - 1 - s)) free l room, step.left, fits few)

    turn : n ≤ 20 → CellCounted n p xs i number c s
    turn few = record {
      below = omega (arith, place, place_of_low c (free_at n i xs));
      fits = step_fits few;
      next = rw (add-one i) step;
    }

-- the turn on a row: the cell and its spot, as they are looked up
module _ {n p : ℕ} {cells spots : List ℕ} (h : RowSpots n p cells spots) {i c : ℕ} (more : i < p) (is : c ≡ get_or cells i 0) where
  cell_at : c ≡ get_or (take n cells) i 0
  cell_at = is ∙ sym (get_or-take n cells i 0 (omega (arith, h.within)))

  pub cell_bounds : (1 ≤ c) × (c ≤ n)
  cell_bounds = rw cell_at (entry_inside h.permutation i (omega (arith, h.permutation.long, h.within)))

  pub row_turn : {number s : ℕ} → Counted n p (take n cells) i number → s ≡ get_or spots c 0 → CellCounted n p (take n cells) i number c s
  row_turn v e =
      turn h.permutation h.within v more cell_at (e ∙ h.has_spots.each c cell_bounds.0 cell_bounds.1) h.many
