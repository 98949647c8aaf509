-- The rank of a permutation and its digits, the b-factoradic of document 001. Assumes nothing.
use Rattle.std.specs.Prelude.{List, [], ◌∷◌, ◌++◌, reverse, ℕ, zero, suc, ◌+◌, ◌-◌, ◌*◌, ◌/◌, ◌%◌, get_or, take, drop}
use Rattle.theory.specs.Factorial.{factorial}
use Rattle.theory.specs.Permutation.{place_of}

-- "The digit is (i - 2) modulo n, from 0 to n - 1." Here n is added first, which changes nothing modulo n and keeps the difference a natural number
unfoldable pub digit : ℕ → ℕ → ℕ
digit n i = (i + n - 2) % n

-- "The remaining order takes places i-1 down to 1, then places n down to i+1."
unfoldable pub remaining : ℕ → List ℕ → List ℕ
remaining i xs = reverse (take (i - 1) xs) ++ reverse (drop i xs)

-- "Let cell n stand at place i. [..] Rank = digit + n × rank of the remaining order; one cell has rank 0", which the rule gives it from no cells
unfoldable pub rank : ℕ → List ℕ → ℕ
rank zero xs = 0
rank (suc m) xs = digit (suc m) (place_of (suc m) xs) + suc m * rank m (remaining (place_of (suc m) xs) xs)

-- "Digits b0 first, n of them"
unfoldable pub digits : ℕ → List ℕ → List ℕ
digits zero xs = []
digits (suc m) xs = digit (suc m) (place_of (suc m) xs) ∷ digits m (remaining (place_of (suc m) xs) xs)

-- the number that a row of digits of n cells stands for
unfoldable pub digit_value : ℕ → List ℕ → ℕ
digit_value n [] = 0
digit_value n (d ∷ ds) = d + n * digit_value (n - 1) ds

-- document 02, request 10: "the sum of digit bi times n!/(n-i)!, lowest digit first"; the second number tells how many digits
unfoldable pub weighted_sum : ℕ → ℕ → List ℕ → ℕ
weighted_sum n zero ds = 0
weighted_sum n (suc i) ds = weighted_sum n i ds + get_or ds i 0 * (factorial n / factorial (n - i))
