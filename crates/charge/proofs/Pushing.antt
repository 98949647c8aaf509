-- The cell that stands at a place of the sorted row, its push on the levels, and its jump. Assumes nothing.
use mathlib.Core.Path.{◌≡◌, ap, ◌∙◌}
use mathlib.Core.List.{List}
use Prim.Native.Nat.{ℕ, ◌+◌, ◌-◌, ◌≤◌}
use native.Mathlib.Omega.{arith}
use lib.ListN.{length, get_or, set}
use Rattle.theory.specs.Permutation.{row, cell_at}
use Rattle.theory.specs.Levels.{highest, permutation_of, push_level, jump}
use Rattle.theory.proofs.Padding.{row_at_lem}
use Rattle.theory.proofs.Members.{entry_inside}
use Rattle.theory.proofs.Reading.{pushed_jump}
use Rattle.theory.proofs.Sorting.{permutation_of_permutation, permutation_of_length}

-- c is the cell at place i
pub record PlacedCell (L : List ℕ) (i c : ℕ) : Type 0 where
  pub is : c ≡ cell_at i (permutation_of L)
  pub low : 1 ≤ c
  pub high : c ≤ length L

pub placed_cell : (L : List ℕ) (i : ℕ) {cells : List ℕ} {c : ℕ} → 1 ≤ i → i ≤ length L → cells ≡ row (permutation_of L) → c ≡ cell_at i cells
    → PlacedCell L i c
placed_cell L i {cells} {c} low high row_is e =
    let size = permutation_of_length L in
    let is : c ≡ cell_at i (permutation_of L) =
    e ∙ ap (cell_at i) row_is ∙ row_at_lem (permutation_of L) (i - 1) (omega arith) in
    let b = entry_inside (permutation_of_permutation L) (i - 1) (omega arith) in
    record { is = is; low = rw is b.0; high = rw is b.1 }

pub placed_push : {L : List ℕ} {i c t : ℕ} → PlacedCell L i c → t ≡ highest L → set L (c - 1) (t + 1) ≡ push_level (cell_at i (permutation_of L)) L
unfolding push_level
placed_push s e = rw (s.is, e)

-- its jump, by the level that it had
pub placed_jump : {L : List ℕ} {i c t : ℕ} → PlacedCell L i c → t ≡ highest L
    → (get_or L (c - 1) 0 ≤ t + 1) × (t + 1 - get_or L (c - 1) 0 ≡ jump (cell_at i (permutation_of L)) L)
placed_jump {L} {i} {c} s e =
    let j = pushed_jump L c s.low s.high in
    rw (← s.is) (omega (arith, e, j), omega (arith, e, j))
