-- The place of a cell: where it lies, that the cell stands there, and that it is the only place of a cell that stands once. Assumes nothing.
use mathlib.Core.Path.{◌≡◌, refl, sym}
use mathlib.Core.Bool.{true, false, false≢true}
use mathlib.Core.List.{List, [], ◌∷◌}
use Prim.Native.Nat.{ℕ, zero, suc, ◌-◌, ◌≤◌, ◌<◌}
use native.Mathlib.Nat.{le_of_suc-le-suc}
use native.Mathlib.Omega.{arith}
use lib.Dec.{eqb}
use lib.ListN.{length, get_or}
use borrow.Author.Tests.{eq-eqb, ne_eqb}
use Rattle.theory.specs.Lists.{member}
use Rattle.theory.specs.Permutation.{cell_at, top, place_of}
use Rattle.theory.proofs.Cases.{by_test, by_name, eqb_sym}
use Rattle.theory.proofs.Members.{Distinct, distinct_head, distinct_tail, member_differs, member_get_or}

pub place_of_low : (c : ℕ) (xs : List ℕ) → 1 ≤ place_of c xs
unfolding place_of
place_of_low c [] = omega arith
place_of_low c (x ∷ xs) = by_test (eqb x c) (λ e. rw e (omega arith)) (λ e. rw e (omega arith))

pub place_of_high : (c : ℕ) (xs : List ℕ) → member c xs ≡ true → place_of c xs ≤ length xs
unfolding place_of
place_of_high c [] m = absurd (false≢true m)
place_of_high c (x ∷ xs) m =
    by_test (eqb x c)
    (λ e. rw e (omega arith))
    (λ e. rw e (omega (arith, place_of_high c xs (cc (eqb_sym x c)))))

-- a cell whose place is one of the list's stands there
pub place_of_member : (c : ℕ) (xs : List ℕ) → place_of c xs ≤ length xs → member c xs ≡ true
unfolding place_of
place_of_member c [] h = absurd (omega arith)
place_of_member c (x ∷ xs) h =
    by_name c x
    (λ q e. cc)
    (λ q e. rw e (place_of_member c xs (omega (arith, rw (ne_eqb x c (λ r. q (sym r))) at h))))

pub cell_at_place_of : (c : ℕ) (xs : List ℕ) → member c xs ≡ true → cell_at (place_of c xs) xs ≡ c
unfolding place_of
cell_at_place_of c [] m = absurd (false≢true m)
cell_at_place_of c (x ∷ xs) m =
    by_name x c
    (λ q e. rw e q)
    (λ ne e.
    let p : suc (place_of c xs) - 1 ≡ suc (place_of c xs - 1) = omega (arith, place_of_low c xs) in
    rw (e, p) (cell_at_place_of c xs (cc (eqb_sym x c))))

-- it is 2 or more where another cell is on top
pub place_of_lower : (c : ℕ) (xs : List ℕ) → member c xs ≡ true → eqb (top xs) c ≡ false → 2 ≤ place_of c xs
unfolding place_of
place_of_lower c [] m e = absurd (false≢true m)
place_of_lower c (x ∷ xs) m e = rw e (omega (arith, place_of_low c xs))

-- the place of the cell at an index
pub place_of_get_or : (xs : List ℕ) (i : ℕ) → Distinct xs → i < length xs → place_of (get_or xs i 0) xs ≡ suc i
unfolding place_of
place_of_get_or [] i d h = absurd (omega arith)
place_of_get_or (x ∷ xs) zero d h = cc (eq-eqb x x refl)
place_of_get_or (x ∷ xs) (suc i) d h =
    let c : ℕ = get_or xs i 0 in
    let ne : eqb c x ≡ false = member_differs c x xs (distinct_head x xs d) (member_get_or xs i (le_of_suc-le-suc h)) in
    cc (eqb_sym x c, place_of_get_or xs i (distinct_tail x xs d) (le_of_suc-le-suc h))
