-- Cells are above others in every choice exactly where they are so at their lowest, the others at their highest. Assumes nothing.
use mathlib.Core.Path.{◌≡◌, refl, sym, ap, ◌∙◌}
use mathlib.Core.Bool.{true, false≢true}
use mathlib.Core.List.{List, ◌∷◌}
use Prim.Native.Nat.{ℕ, suc, ◌-◌, ◌≤◌, ◌<◌}
use native.Mathlib.Omega.{arith}
use lib.ListN.{length, get_or, set, drop, length-set}
use lib.Seq.{get_or-set_same, get_or-set_other, drop-cons}
use Rattle.theory.specs.Lists.{member}
use Rattle.theory.specs.Permutation.{IsPermutation}
use Rattle.theory.specs.Levels.{level}
use Rattle.theory.proofs.Cases.{by_name}
use Rattle.theory.proofs.Permutations.{inside}
use Rattle.theory.proofs.Members.{Distinct, distinct_head, distinct_drop, member_count, member_drop, permutation_distinct, entry_inside}
use Rattle.bands.specs.Bands.{Bands, Choice}
use Rattle.bands.proofs.Above.{Above}

-- ---- the cells of a permutation, by index
module _ {n : ℕ} {xs : List ℕ} (o : IsPermutation n xs) (j : ℕ) where
  pub cell_here : j < n → (1 ≤ get_or xs j 0) × (get_or xs j 0 ≤ n)
  cell_here h = entry_inside o j (omega (arith, o.long))

  module _ (c : ℕ) (m : member c (drop (suc j) xs) ≡ true) where
    pub cell_after : (1 ≤ c) × (c ≤ n)
    cell_after = inside n xs o c (member_count c xs (member_drop c (suc j) xs m))

    -- a cell after an index is not the one there
    pub cell_other : j < n → c ≡ get_or xs j 0 → ⊥
    cell_other h e =
        let x : ℕ = get_or xs j 0 in
        let d : Distinct (x ∷ drop (suc j) xs) = rw (drop-cons xs j 0 (omega (arith, o.long))) at (distinct_drop j xs (permutation_distinct o)) in
        false≢true (sym (distinct_head x (drop (suc j) xs) d) ∙ rw e at m)

module _ {low high : List ℕ} (b : Bands low high) where
  pub lowest_choice : Choice low high low
  lowest_choice = record { long = refl; from = λ c l h. omega arith; to = b.upward }

  -- ---- the choice of all highest levels but for one cell's, which is its lowest
  module _ (x : ℕ) (l : 1 ≤ x) (h : x ≤ length low) where
    abbrev lowered : List ℕ
    lowered = set high (x - 1) (level low x)

    lowered_self : level lowered x ≡ level low x
    lowered_self = get_or-set_same high (x - 1) (level low x) 0 (omega (arith, b.same))

    lowered_other : (c : ℕ) → 1 ≤ c → (c ≡ x → ⊥) → level lowered c ≡ level high c
    lowered_other c k ne = get_or-set_other high (x - 1) (c - 1) (level low x) 0 (λ e. ne (omega arith))

    lowered_choice : Choice low high lowered
    lowered_choice = record {
      long = length-set high (x - 1) (level low x) ∙ b.same;
      from = λ c low' high'.
          by_name c x
          (λ q e. omega (arith, lowered_self, ap (level low) q, ap (level lowered) q))
          (λ ne e. omega (arith, lowered_other c low' ne, b.upward c low' high'));
      to = λ c low' high'.
          by_name c x
          (λ q e. omega (arith, lowered_self, ap (level high) q, ap (level lowered) q, b.upward x l h))
          (λ ne e. omega (arith, lowered_other c low' ne));
    }

  -- ---- all choices
  module _ {xs : List ℕ} (o : IsPermutation (length low) xs) (p : ℕ) (fits : p ≤ length low) where
    pub above_choices : Above low high p xs → (L : List ℕ) → Choice low high L → Above L L p xs
    above_choices a L k j c less m =
        let x = cell_here o j (omega arith) in
        let d = cell_after o j c m in
        omega (arith, a j c less m, k.from (get_or xs j 0) x.0 x.1, k.to c d.0 d.1)

    pub choices_above : ((L : List ℕ) → Choice low high L → Above L L p xs) → Above low high p xs
    choices_above a j c less m =
        let within : j < length low = omega arith in
        let x = cell_here o j within in
        let L : List ℕ = lowered (get_or xs j 0) x.0 x.1 in
        omega (
          arith,
          a L (lowered_choice (get_or xs j 0) x.0 x.1) j c less m,
          lowered_self (get_or xs j 0) x.0 x.1,
          lowered_other (get_or xs j 0) x.0 x.1 c (cell_after o j c m).0 (cell_other o j c m within),
        )
