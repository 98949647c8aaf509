-- Rewriting to a target permutation by the fewest pushes. Assumes nothing.
use Rattle.std.specs.Prelude.{Bool, true, false, cond, List, [], ◌∷◌, reverse, ℕ, eqb, length, take, drop}
use Rattle.theory.specs.Least.{least}

-- do the cells of s stand in xs in that same relative sequence? It goes along xs and crosses off the cells of s
abbrev pub in_sequence : List ℕ → List ℕ → Bool
in_sequence xs [] = true
in_sequence [] (c ∷ s) = false
in_sequence (x ∷ xs) (c ∷ s) = cond (eqb c x) (in_sequence xs s) (in_sequence xs (c ∷ s))

-- "r is the smallest number for which the last n - r cells of the target stand in that same relative sequence now"
unfoldable pub rewrite_count : List ℕ → List ℕ → ℕ
rewrite_count xs target = least (λ r. in_sequence xs (drop r target)) (length target)

-- "The target's cells r, r-1, ..., 1 are pushed."
unfoldable pub rewrite_pushes : List ℕ → List ℕ → List ℕ
rewrite_pushes xs target = reverse (take (rewrite_count xs target) target)
