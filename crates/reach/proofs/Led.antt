-- A row whose first p cells lead: what is d pushes away, by the cell that comes behind them, and the row in which that cell is there. And all that is within reach,
-- distance after distance. Assumes nothing.
use mathlib.Core.Path.{◌≡◌, refl, ap, sym, ◌∙◌}
use mathlib.Core.Bool.{true, false, ◌&&◌, ◌||◌, false≢true}
use mathlib.Core.List.{List, [], ◌∷◌, ◌++◌, flat_map, flatten, append_assoc, append-nil}
use Prim.Native.Nat.{ℕ, suc, ◌+◌, ◌-◌, ◌≤◌, ◌<◌}
use native.Mathlib.Omega.{arith}
use lib.Dec.{eqb}
use lib.ListN.{length, get_or, take, drop, length-append, length-drop, take-append-drop}
use lib.Seq.{length-take-le, take-take, take_at, drop_at, take-add, drop-drop, split_at, drop-append-le}
use borrow.Author.Tests.{eq-eqb, ne_eqb}
use Rattle.theory.specs.Lists.{names_from, member, without, names}
use Rattle.theory.specs.Permutation.{IsPermutation, top, place_of}
use Rattle.theory.proofs.Cases.{by_test, by_name}
use Rattle.theory.proofs.Counts.{adds_between}
use Rattle.theory.proofs.Permutations.{moved}
use Rattle.theory.proofs.Members.{Distinct, permutation_distinct, distinct_left, distinct_drop, distinct_apart, distinct_without, member_append, member_without, without_none, without_without, without_at}
use Rattle.theory.proofs.Names.{names_length, names_member, permutation_member}
use Rattle.theory.proofs.Places.{place_of_low, place_of_high, place_of_member, place_of_get_or, cell_at_place_of}
use Rattle.theory.proofs.Rows.{Rearranged}
use Rattle.theory.proofs.Prefixes.{names_distinct}
use Rattle.theory.proofs.Storing.{others_below}
use Rattle.permutation.specs.Insert.{put_in}
use Rattle.reach.specs.Reach.{at_distance, within_reach}
use Rattle.reach.specs.Led.{starting_with, each_after, led, led_then, LedRow}
use Rattle.reach.proofs.EachAfter.{after_none, after_more, after_flat_map}
use Rattle.reach.proofs.Entries.{flat_map_same, flat_map_without}
use Rattle.reach.proofs.Branching.{Named, distance_none, distance_more}

module _ {row : List ℕ} {n p d : ℕ} (v : LedRow row n p d) where
  abbrev kept : List ℕ
  kept = take p row

  abbrev cells : List ℕ
  cells = take n row

  abbrev rest : List ℕ
  rest = drop p cells

  abbrev free : List ℕ
  free = without kept (names n)

  kept_long : length kept ≡ p
  kept_long = ap length (sym (take-take p n row v.first)) ∙ length-take-le p cells (omega (arith, v.first, v.permutation.long))

  parts : kept ++ rest ≡ cells
  parts = ap (λ (l : List ℕ). l ++ rest) (sym (take-take p n row v.first)) ∙ take-append-drop p cells

  rest_long : length rest ≡ n - p
  rest_long = length-drop p cells ∙ rw v.permutation.long

  apart : Distinct (kept ++ rest)
  apart = rw parts (permutation_distinct v.permutation)

  in_parts : (c : ℕ) → (member c kept || member c rest) ≡ member c (names n)
  in_parts c = sym (member_append c kept rest) ∙ ap (member c) parts ∙ permutation_member v.permutation c

  rest_named : Named free rest
  rest_named =
      let below : Rearranged (names n) (kept ++ free) =
      others_below (names n) (names_distinct n) kept (distinct_left kept rest apart) (λ c m. cc (in_parts c)) in
      record {
        names = distinct_without kept (names n) (names_distinct n);
        cells = record {
          distinct = distinct_drop p cells (permutation_distinct v.permutation);
          same = λ c. by_test (member c kept)
              (λ e. cc (member_without c kept (names n), distinct_apart kept rest apart c e))
              (λ e. cc (member_without c kept (names n), in_parts c));
          long = omega (arith, rest_long, kept_long, length-append kept free, below.long, names_length 1 n);
        };
      }

  -- no push: the row's own permutation
  pub led_none : d ≡ 0 → led n row p d ≡ cells
  unfolding led flatten
  led_none e = rw (e, distance_none rest rest_named) (append-nil (kept ++ rest) ∙ parts)

  -- the cell behind the first p is each name in turn
  pub led_more : 1 ≤ d → led n row p d ≡ flat_map (led_then n row p d) (names n)
  unfolding led led_then
  led_more h =
      let q : suc (d - 1) ≡ d = omega arith in
      ap (each_after kept) (rw q at (distance_more free rest (d - 1) rest_named))
      ∙ after_flat_map kept (starting_with free rest d) free
      ∙ flat_map_without kept (λ c. each_after kept (starting_with free rest d c)) (names n)

  -- cell c, at index i of the row from p on, or nowhere there where i is n
  module _ (c : ℕ) {i : ℕ} (at : i + 1 ≡ p + place_of c rest) where
    -- one of the first p
    pub then_kept : 1 ≤ c → c ≤ n → i ≡ n → led_then n row p d c ≡ []
    unfolding led_then
    then_kept low high e =
        let out : member c rest ≡ false =
        by_test (member c rest) (λ m. absurd (omega (arith, place_of_high c rest m, rest_long, v.first))) (λ m. m) in
        let named : member c (names n) ≡ true = names_member 1 n c low (omega arith) in
        let in_kept : member c kept ≡ true = by_test (member c kept) (λ m. m) (λ m. cc (in_parts c)) in
        rw in_kept

    module _ (there : i < n) where
      in_rest : member c rest ≡ true
      in_rest = place_of_member c rest (omega (arith, rest_long, v.first))

      not_kept : member c kept ≡ false
      not_kept =
          by_test (member c kept) (λ m. absurd (false≢true (sym (distinct_apart kept rest apart c m) ∙ in_rest))) (λ m. m)

      -- on top of the others, with one push left
      pub then_top : i + d ≡ p + 1 → 1 ≤ d → led_then n row p d c ≡ []
      unfolding led_then starting_with flatten
      then_top e one =
          let first : place_of c rest ≡ 1 = omega (arith, place_of_low c rest) in
          let is_top : c ≡ top rest = sym (rw first at (cell_at_place_of c rest in_rest)) in
          let last : d ≡ 1 = omega (arith, place_of_low c rest) in
          rw (not_kept, eq-eqb c (top rest) is_top, eq-eqb d 1 last)

      -- brought up behind the first p
      abbrev above : List ℕ
      above = drop p (take i row)

      abbrev below : List ℕ
      below = drop (i + 1) cells

      abbrev next : List ℕ
      next = put_in i p c row

      index : c ≡ get_or rest (i - p) 0
      index =
          let j : place_of c rest - 1 ≡ i - p = omega arith in
          sym (rw j at (cell_at_place_of c rest in_rest))

      above_is : take (i - p) rest ≡ above
      above_is =
          let sum : p + (i - p) ≡ i = omega (arith, place_of_low c rest) in
          let cut : take i row ≡ take p cells ++ take (i - p) rest =
          sym (take-take i n row (omega arith)) ∙ rw sum at (take-add p (i - p) cells) in
          sym (ap (drop p) cut ∙ drop_at (take p cells) (take (i - p) rest) p (length-take-le p cells (omega (arith, v.first, v.permutation.long))))

      below_is : drop (suc (i - p)) rest ≡ below
      below_is =
          let sum : p + suc (i - p) ≡ i + 1 = omega (arith, place_of_low c rest) in
          rw sum at (drop-drop (suc (i - p)) p cells)

      short : i - p < length rest
      short = omega (arith, rest_long, place_of_low c rest)

      cut_rest : rest ≡ above ++ c ∷ below
      cut_rest = rw (← index, above_is, below_is) at (split_at rest (i - p) 0 short)

      without_rest : without (c ∷ []) rest ≡ above ++ below
      without_rest = rw (← index, above_is, below_is) at (without_at rest (i - p) rest_named.cells.distinct short)

      front : IsPermutation n (kept ++ c ∷ (above ++ below))
      front =
          let now : cells ≡ (kept ++ above) ++ c ∷ below = sym parts ∙ rw cut_rest (sym (append_assoc kept above (c ∷ below))) in
          moved (rw (append_assoc kept above below) at (adds_between (kept ++ above) below now)) (adds_between kept (above ++ below) refl) v.permutation

      next_cells : take n next ≡ kept ++ c ∷ (above ++ below)
      next_cells =
          let past : drop (i + 1) row ≡ below ++ drop n row =
          ap (drop (i + 1)) (sym (take-append-drop n row)) ∙ drop-append-le (i + 1) cells (drop n row) (omega (arith, v.permutation.long)) in
          let whole : next ≡ (kept ++ c ∷ (above ++ below)) ++ drop n row =
          rw (past, append_assoc kept (c ∷ (above ++ below)) (drop n row), append_assoc above below (drop n row)) in
          rw whole (take_at (kept ++ c ∷ (above ++ below)) (drop n row) n front.long)

      -- the first p + 1 cells, and the others
      front_split : kept ++ c ∷ (above ++ below) ≡ (kept ++ c ∷ []) ++ (above ++ below)
      front_split = sym (append_assoc kept (c ∷ []) (above ++ below))

      one_longer : length (kept ++ c ∷ []) ≡ p + 1
      one_longer = length-append kept (c ∷ []) ∙ omega (arith, kept_long)

      next_kept : take (p + 1) next ≡ kept ++ c ∷ []
      next_kept =
          sym (take-take (p + 1) n next (omega (arith, place_of_low c rest)))
          ∙ ap (take (p + 1)) (next_cells ∙ front_split)
          ∙ take_at (kept ++ c ∷ []) (above ++ below) (p + 1) one_longer

      next_rest : drop (p + 1) (take n next) ≡ without (c ∷ []) rest
      next_rest =
          ap (drop (p + 1)) (next_cells ∙ front_split) ∙ drop_at (kept ++ c ∷ []) (above ++ below) (p + 1) one_longer ∙ sym without_rest

      next_long : length next ≡ 20
      next_long =
          omega (
            arith,
            length-append kept (c ∷ (above ++ drop (i + 1) row)),
            length-append above (drop (i + 1) row),
            length-drop (i + 1) row,
            ap length (sym above_is),
            length-take-le (i - p) rest (omega (arith, short)),
            kept_long,
            v.long,
            v.few,
            place_of_low c rest,
          )

      pub next_led : LedRow next n (p + 1) (d - 1)
      next_led = record {
        few = v.few;
        long = next_long;
        first = omega (arith, place_of_low c rest);
        most = omega (arith, v.most);
        permutation = rw next_cells front;
      }

      pub then_next : (i + d ≡ p + 1 → ⊥) → led_then n row p d c ≡ led n next (p + 1) (d - 1)
      unfolding led_then starting_with led
      then_next ne =
          let pushed : (eqb d 1 && eqb c (top rest)) ≡ false =
          by_name d 1
          (λ one e. rw e (ne_eqb c (top rest) (λ r. ne (omega (arith, one, ap (λ (b : ℕ). place_of b rest) r, place_of_get_or rest 0 rest_named.cells.distinct (omega (arith, short)))))))
          (λ more e. rw e) in
          rw (not_kept, pushed, next_kept, next_rest, ← without_without (c ∷ []) kept (names n))
          (after_more kept c (at_distance (without (c ∷ []) free) (without (c ∷ []) rest) (d - 1)))

-- ---- by distance

-- no cell leads
led_all : (n : ℕ) (row : List ℕ) (d : ℕ) → each_after [] (at_distance (names n) (take n row) d) ≡ led n row 0 d
unfolding led
led_all n row d = rw (without_none [] (names n) (λ c m. refl))

-- all distances up to r
pub within_led :
    (n : ℕ) (row : List ℕ) (r : ℕ)
    → flatten (within_reach n (take n row) r) ≡ flat_map (led n row 0) (names_from 0 (r + 1 - 0))
unfolding within_reach
within_led n row r =
    let q : r + 1 - 0 ≡ r + 1 = omega arith in
    let ds : List ℕ = names_from 0 (r + 1) in
    rw q (
    sym (after_none (flat_map (at_distance (names n) (take n row)) ds))
    ∙ after_flat_map [] (at_distance (names n) (take n row)) ds
    ∙ flat_map_same _ _ ds (λ d m. led_all n row d)
    )
