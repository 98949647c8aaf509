-- The weights that the code keeps. Only inner contracts cite these. Assumes nothing.
use Rattle.std.specs.Prelude.{List, map, ℕ}
use Rattle.theory.specs.Lists.{names_from}
use Rattle.theory.specs.Factorial.{falling}

-- the weights of n cells: n!/(n-i)! "in 21 places each, with 0 past i = n", which is what `falling` says (`Factorials.quotient`, `.past`)
unfoldable pub weight_row : ℕ → List ℕ
weight_row n = map (falling n) (names_from 0 21)

-- document 02, request 10: "The 420 weights, for n from 1 to 20"
unfoldable pub weight_table : List (List ℕ)
weight_table = map weight_row (names_from 1 20)
