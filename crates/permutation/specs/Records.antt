-- The record of a permutation: which list it holds, and when it is none. Assumes nothing.
use Rattle.std.specs.Prelude.{Bool, true, cond, ◌&&◌, List, [], ◌∷◌, ℕ, zero, suc, eqb, length, take, drop}
use Rattle.theory.specs.Reasons.{done, muddle}
use Rattle.theory.specs.Refusal.{or_else, size_of}
use Rattle.theory.specs.Lists.{count}
use Rattle.theory.specs.Permutation.{row}
use Rattle.permutation.specs.declared.answers.Permutation.{Permutation}

-- "An order is a record of n and a row of twenty cell names": the names in its first n places
abbrev pub list_of : Permutation → List ℕ
list_of p = take p.n p.cells

-- the record of a list of at most twenty names; that of none is "an order record [..] of zeros"
abbrev pub record_of : List ℕ → Permutation
record_of xs = record { n = length xs; cells = row xs }

-- "The first n places hold each of 1 to n once"
unfoldable pub once_each : ℕ → List ℕ → Bool
once_each zero xs = true
once_each (suc m) xs = eqb (count (suc m) xs) 1 && once_each m xs

-- "all places past n hold 0"
unfoldable pub all_zero : List ℕ → Bool
all_zero [] = true
all_zero (x ∷ xs) = eqb x 0 && all_zero xs

-- why a job on a record is refused: size, then muddle, "an order record is not as described above"
unfoldable pub record_number : Permutation → ℕ
record_number p = or_else (size_of p.n) (cond (once_each p.n (list_of p) && all_zero (drop p.n p.cells)) done muddle)
