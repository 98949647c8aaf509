-- What changing one arrangement into another costs, and the levels that it leaves. Assumes nothing.
use Rattle.std.specs.Prelude.{cond, List, [], ◌∷◌, map, ℕ, ◌+◌, ℤ, pos, nat_abs, ◌-ℤ◌}
use Rattle.std.specs.Int.Signed.{lt_z}

-- "old level less new level over all cells": "Those differences can be negative"
abbrev pub differences : List ℕ → List ℕ → List ℤ
differences [] new = []
differences (o ∷ old) [] = []
differences (o ∷ old) (n ∷ new) = (pos o -ℤ pos n) ∷ differences old new

abbrev pub maxℤ : ℤ → ℤ → ℤ
maxℤ a b = cond (lt_z a b) b a

-- the largest of m and some more, as a running maximum
abbrev pub largest_from : ℤ → List ℤ → ℤ
largest_from m [] = m
largest_from m (d ∷ ds) = largest_from (maxℤ m d) ds

-- "the largest"; of none, which can't arise, it is 0
abbrev pub largest : List ℤ → ℤ
largest [] = pos 0
largest (d ∷ ds) = largest_from d ds

-- "the largest of old level less new level over all cells"; it can't be negative (`LeastRaise` of `specs/Claims`), so that this is its natural number
unfoldable pub cost_of : List ℕ → List ℕ → ℕ
cost_of old new = nat_abs (largest (differences old new))

-- "the raised levels, each cell's new level plus the cost"
abbrev pub raised_levels : ℕ → List ℕ → List ℕ
raised_levels cost new = map (λ v. v + cost) new
