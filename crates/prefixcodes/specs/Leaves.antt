-- How many permutations prefixes lead. Only inner contracts and proofs cite this. Assumes nothing.
use Rattle.std.specs.Prelude.{List, [], ◌∷◌, ℕ, ◌+◌, ◌-◌}
use Rattle.theory.specs.Factorial.{factorial}

-- how many permutations of n cells begin with prefixes of these lengths, none the start of another: (n - l)! with each
abbrev pub leaves : ℕ → List ℕ → ℕ
leaves n [] = 0
leaves n (l ∷ ls) = factorial (n - l) + leaves n ls
