-- Spots: the row of them, and that of a split list's cell. Assumes nothing.
use mathlib.Core.Path.{◌≡◌, refl, ◌∙◌}
use mathlib.Core.Bool.{cond}
use mathlib.Core.List.{List, [], ◌∷◌, ◌++◌}
use Prim.Native.Nat.{ℕ, suc, ◌+◌, ◌≤◌}
use native.Mathlib.Omega.{arith}
use borrow.Author.Tests.{eq-eqb, lt-ltb, le-ltb}
use lib.Dec.{ltb}
use lib.ListN.{length, get_or}
use Rattle.theory.specs.Lists.{count, member}
use Rattle.theory.specs.Permutation.{IsPermutation}
use Rattle.theory.proofs.Cases.{by_test, by_name, by_order}
use Rattle.theory.proofs.Counts.{delta_eq, delta_ne}
use Rattle.theory.proofs.Members.{cell_member}
use Rattle.theory.proofs.Names.{names_map_at}
use Rattle.permutation.specs.Spots.{spot, spot_row, HasSpots}

-- ---- the row of spots

pub spot_row_at : (xs : List ℕ) (c : ℕ) → c ≤ 20 → get_or (spot_row xs) c 0 ≡ cond (member c xs) (spot c xs) 20
unfolding spot_row
spot_row_at xs c h = names_map_at 0 (λ c. cond (member c xs) (spot c xs) 20) 0 21 c c (omega arith) (omega arith)

pub spot_row_length : (xs : List ℕ) → length (spot_row xs) ≡ 21
unfolding spot_row
spot_row_length xs = refl

pub row_has_spots : {n : ℕ} {xs : List ℕ} → n ≤ 20 → IsPermutation n xs → HasSpots xs n (spot_row xs)
row_has_spots {n} {xs} few o = record {
  each = λ c low high. spot_row_at xs c (omega arith) ∙ rw (cell_member o c (low, high));
}

-- ---- how many names below c stand in a list
unfoldable pub under : ℕ → List ℕ → ℕ
under c [] = 0
under c (x ∷ xs) = cond (ltb x c) 1 0 + under c xs

pub under_le : (c : ℕ) (xs : List ℕ) → under c xs ≤ length xs
unfolding under
under_le c [] = omega arith
under_le c (x ∷ xs) =
    by_test (ltb x c) (λ e. rw e (omega (arith, under_le c xs))) (λ e. rw e (omega (arith, under_le c xs)))

pub under_snoc : (c x : ℕ) (xs : List ℕ) → under c (xs ++ x ∷ []) ≡ cond (ltb x c) 1 0 + under c xs
unfolding under
under_snoc c x [] = refl
under_snoc c x (y ∷ xs) = omega (arith, under_snoc c x xs)

pub under_suc : (c : ℕ) (xs : List ℕ) → under (suc c) xs ≡ under c xs + count c xs
unfolding under
under_suc c [] = refl
under_suc c (x ∷ xs) =
    by_order x c
    (λ l. rw (lt-ltb x c l, lt-ltb x (suc c) (omega arith)) (omega (arith, under_suc c xs, delta_ne x c (λ e. omega arith))))
    (λ l. rw (le-ltb x c (omega arith), le-ltb x (suc c) l) (omega (arith, under_suc c xs, delta_ne x c (λ e. omega arith))))
    (λ e. rw (le-ltb x c (omega arith), lt-ltb x (suc c) (omega arith)) (omega (arith, under_suc c xs, delta_eq x c e)))

pub under_zero : (xs : List ℕ) → under 0 xs ≡ 0
unfolding under
under_zero [] = refl
under_zero (x ∷ xs) = rw (le-ltb x 0 (omega arith)) (omega (arith, under_zero xs))

-- ---- the spot of a cell, in a list that is split at it
pub spot_first : (c : ℕ) (u v : List ℕ) → count c u ≡ 0 → spot c (u ++ c ∷ v) ≡ under c u
unfolding spot under
spot_first c [] v h = rw (eq-eqb c c refl)
spot_first c (x ∷ u) v h =
    by_name x c
    (λ q e. absurd (omega (arith, delta_eq x c q)))
    (λ ne e. rw e (omega (arith, spot_first c u v (omega (arith, delta_ne x c ne)))))
