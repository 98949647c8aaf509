-- Document 02, request 9, "Which rule chose the step": how often the next step tested, and the size of the group at which its answer fell. Assumes nothing.
use Rattle.std.specs.Prelude.{cond, List, ℕ, zero, suc, ◌+◌, eqb, leb}
use Rattle.theory.specs.Factorial.{factorial}
use Rattle.theory.specs.Permutation.{top}
use Rattle.theory.specs.Successor.{smaller}
use Rattle.theory.specs.Run.{steps}

-- "how many times "is the largest cell on top" was tested [..] The tests equal those of document 001's function, so n = 2 has none."
unfoldable pub tests : ℕ → List ℕ → ℕ
tests zero xs = 0
tests (suc m) xs = cond (leb (suc m) 2) 0 (1 + cond (eqb (top xs) (suc m)) (tests m (smaller xs)) 0)

-- "the size of the shrunken group at which the answer fell: the first whose largest cell is not on top, or 2"
unfoldable pub deciding_size : ℕ → List ℕ → ℕ
deciding_size zero xs = 2
deciding_size (suc m) xs = cond (leb (suc m) 2) 2 (cond (eqb (top xs) (suc m)) (deciding_size m (smaller xs)) (suc m))

-- the group, shrunk j times
unfoldable pub shrunk : ℕ → List ℕ → List ℕ
shrunk zero xs = xs
shrunk (suc j) xs = shrunk j (smaller xs)

-- the tests of k steps, each on the permutation that the last one left
unfoldable pub total_tests : ℕ → ℕ → List ℕ → ℕ
total_tests n zero xs = 0
total_tests n (suc k) xs = total_tests n k xs + tests n (steps n k xs)

-- "the sum of i! for i from 3 to n"
abbrev pub factorial_sum : ℕ → ℕ
factorial_sum zero = 0
factorial_sum (suc m) = factorial_sum m + cond (leb 3 (suc m)) (factorial (suc m)) 0
