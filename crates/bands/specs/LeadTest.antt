-- The test that code runs in place of all choices. `SureOrder` and `SureLead` are what is believed: the clauses `exactly` of the contracts tie it to them, both ways.
-- Assumes nothing.
use Rattle.std.specs.Prelude.{Bool, true, ◌&&◌, List, [], ◌∷◌, map, ℕ, zero, suc, ltb}
use Rattle.theory.specs.Levels.{level, highest, permutation_of}

-- of the first p cells of xs, which has more, is the lowest level of each above the highest level of every cell after it?
unfoldable pub lead_test : List ℕ → List ℕ → ℕ → List ℕ → Bool
lead_test low high zero xs = true
lead_test low high (suc p) [] = true
lead_test low high (suc p) (x ∷ xs) = ltb (highest (map (level high) xs)) (level low x) && lead_test low high p xs

-- the test of the cells sorted by lowest level
abbrev pub sure_test : List ℕ → List ℕ → ℕ → Bool
sure_test low high p = lead_test low high p (permutation_of low)
