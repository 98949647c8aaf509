-- The permutation of a rank, by spots: the cells put in one after the other are the circle that `unrank` turns round at each. Assumes nothing.
use mathlib.Core.Path.{◌≡◌, refl, sym, ap, ap₂, subst, ◌∙◌}
use mathlib.Core.Bool.{Bool, true, false, not}
use mathlib.Core.List.{List, [], ◌∷◌, ◌++◌, append-nil}
use Prim.Native.Nat.{ℕ, zero, suc, ◌+◌, ◌-◌, ◌/◌, ◌%◌, ◌≤◌, ◌<◌}
use native.Mathlib.Nat.{mod-lt}
use native.Mathlib.Omega.{arith}
use borrow.Author.Tests.{ltb-true, lt-ltb, le-ltb, le-leb, lt-leb}
use lib.Dec.{ltb}
use lib.ListN.{length, take, drop, replicate, length-drop, take-append-drop}
use lib.Seq.{length-take-le, take-nil, drop-nil}
use Rattle.theory.specs.Factorial.{factorial}
use Rattle.theory.specs.Refusal.{size_of}
use Rattle.theory.proofs.Refusal.{or_else_done, tested, size_range}
use Rattle.theory.specs.Lists.{count}
use Rattle.theory.specs.Permutation.{IsPermutation}
use Rattle.theory.specs.Unrank.{place_of_digit, insert_at, unrank}
use Rattle.theory.proofs.Ranking.{place_for, unrank_permutation}
use Rattle.theory.proofs.Cases.{by_le}
use Rattle.theory.proofs.Counts.{Adds, adds_between, count_append}
use Rattle.theory.proofs.Permutations.{empty, added, absent_past}
use Rattle.theory.proofs.FilledRow.{over_row}
use Rattle.permutation.specs.Records.{record_of}
use Rattle.permutation.specs.Insert.{put_in}
use Rattle.ranking.specs.Answers.{unrank_number}
use Rattle.ranking.specs.BySpots.{passed, spot_after, cells_by_spots}
use Rattle.permutation.specs.declared.answers.Permutation.{Permutation}
use Rattle.ranking.proofs.Circle.{around, insert_around}
use Rattle.permutation.proofs.Inserting.{put_front}

-- ---- one cell: its spot and its place

-- from s on, p others are passed up to the spot j
record AtSpot (down : Bool) (m s p j : ℕ) : Type 0 where
  low : j < m
  passes : passed down m s j ≡ p

at_spot : (down : Bool) (m s p : ℕ) → s ≤ m → p < m → AtSpot down m s p (spot_after down m s p)
unfolding spot_after passed
at_spot true m s p hs hp =
    by_le m (p + s)
    (λ l. rw (le-ltb (p + s) m l) (record { low = omega arith; passes = rw (lt-leb s (p + s - m) (omega arith)) (omega arith) }))
    (λ l. rw (lt-ltb (p + s) m l) (record { low = omega arith; passes = rw (le-leb s (p + s) (omega arith)) (omega arith) }))
at_spot false m s p hs hp =
    by_le s p
    (λ l. rw (le-ltb p s l) (record { low = omega arith; passes = rw (le-ltb (s + m - 1 - p) s (omega arith)) (omega arith) }))
    (λ l. rw (lt-ltb p s l) (record { low = omega arith; passes = rw (lt-ltb (s - 1 - p) s (omega arith)) (omega arith) }))

-- ---- all cells

cells_permutation : (down : Bool) (m s r : ℕ) → IsPermutation m (cells_by_spots down m s r)
unfolding cells_by_spots
cells_permutation down zero s r = empty
cells_permutation down (suc m) s r =
    let j = spot_after down (suc m) s (place_of_digit (suc m) (r % suc m) - 1) in
    let q = cells_by_spots (not down) m j (r / suc m) in
    added (subst (λ (l : List ℕ). Adds (suc m) l (take j q ++ suc m ∷ drop j q)) (take-append-drop j q) (adds_between (take j q) (drop j q) refl))
    (cells_permutation (not down) m j (r / suc m))

-- cell m + 1, put in at index j of the smaller cells
insert_spot : (down : Bool) (m j s : ℕ) (q : List ℕ) → IsPermutation m q → j ≤ m → s ≤ suc m
    → insert_at (suc m) (passed down (suc m) s j + 1) (around (not down) j q) ≡ around down s (take j q ++ suc m ∷ drop j q)
insert_spot down m j s q o hj hs =
    let at : length (take j q) ≡ j = length-take-le j q (omega (arith, o.long)) in
    let none = sym (count_append (suc m) (take j q) (drop j q)) ∙ ap (count (suc m)) (take-append-drop j q) ∙ absent_past o (suc m) (omega arith) in
    let sizes : length (take j q) + length (drop j q) ≡ m = omega (arith, at, length-drop j q, o.long) in
    rw (at, take-append-drop j q) at (insert_around down m (take j q) (drop j q) (omega (arith, none)) (omega (arith, none)) sizes s hs)

empty_around : (down : Bool) (s : ℕ) → [] ≡ around down s []
unfolding around
empty_around true s = rw (take-nil s, drop-nil s)
empty_around false s = rw (take-nil s, drop-nil s)

-- read from any gap s on, either way
unrank_around : (down : Bool) (m r s : ℕ) → s ≤ m → unrank m r ≡ around down s (cells_by_spots down m s r)
unfolding unrank cells_by_spots
unrank_around down zero r s h = empty_around down s
unrank_around down (suc m) r s h =
    let i = place_of_digit (suc m) (r % suc m) in
    let bounds = place_for m (r % suc m) (mod-lt r (omega arith)) in
    let j = spot_after down (suc m) s (i - 1) in
    let reached = at_spot down (suc m) s (i - 1) h (omega (arith, bounds)) in
    let low : j ≤ m = omega (arith, reached.low) in
    ap₂ (insert_at (suc m)) (omega (arith, bounds, reached.passes)) (unrank_around (not down) m (r / suc m) j low)
    ∙ insert_spot down m j s (cells_by_spots (not down) m j (r / suc m)) (cells_permutation (not down) m j (r / suc m)) low h

unrank_spots : (n r : ℕ) → unrank n r ≡ cells_by_spots true n 0 r
unfolding around
unrank_spots n r = unrank_around true n r 0 (omega arith) ∙ append-nil (cells_by_spots true n 0 r)

-- ---- the row that is filled: the first m places get the cells of the rank

pub fill_none : (down : Bool) (m s r : ℕ) (xs : List ℕ) → m ≤ 0 → xs ≡ cells_by_spots down m s r ++ drop m xs
unfolding cells_by_spots
fill_none down zero s r xs h = refl
fill_none down (suc m) s r xs h = absurd (omega arith)

-- the cells below m are in, and m is put in at its spot
pub fill_more : (down : Bool) (m s r p j : ℕ) (xs row : List ℕ) → 0 < m → p + 1 ≡ place_of_digit m (r % m) → (j ≡ spot_after down m s p) × (j < m)
    → row ≡ cells_by_spots (not down) (m - 1) j (r / m) ++ drop (m - 1) xs → put_in (m - 1) j m row ≡ cells_by_spots down m s r ++ drop m xs
unfolding cells_by_spots
fill_more down zero s r p j xs row pos place spot e = absurd (omega arith)
fill_more down (suc m) s r p j xs row pos place spot e =
    let q : suc m - 1 ≡ m = omega arith in
    let here : spot_after down (suc m) s (place_of_digit (suc m) (r % suc m) - 1) ≡ j = ap (spot_after down (suc m) s) (omega arith) ∙ sym spot.0 in
    rw (here, e, q)
    (put_front (cells_by_spots (not down) m j (r / suc m)) xs m j (suc m) (cells_permutation (not down) m j (r / suc m)).long (omega (arith, spot.1)))

-- a row of zeros, filled
pub unrank_record : (n r : ℕ) (row : List ℕ) → n ≤ 20 → row ≡ cells_by_spots true n 0 r ++ drop n (replicate 20 0)
    → ◌≡◌ {A = Permutation} (record { n = n; cells = row }) (record_of (unrank n r))
unrank_record n r row few e =
    let long = (unrank_permutation n r).long in
    ap₂ (λ (k : ℕ) (l : List ℕ). record { n = k; cells = l }) (sym long)
    (e ∙ ap (λ (l : List ℕ). l ++ drop n (replicate 20 0)) (sym (unrank_spots n r)) ∙ over_row 20 0 (unrank n r) long few)

-- a rank that is not refused: n is at most 20, and the rank below n!
pub unrank_taken : (n r : ℕ) → 0 ≡ unrank_number n r → (n ≤ 20) × (r < factorial n)
unfolding unrank_number
unrank_taken n r e =
    let b = or_else_done (size_of n) _ (sym e) in
    ((size_range n b.0).1, ltb-true r (factorial n) (tested (ltb r (factorial n)) (λ z. omega arith) b.1))
