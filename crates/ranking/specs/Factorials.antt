-- The factorials that the code keeps. Assumes nothing.
use Rattle.std.specs.Prelude.{cond, List, map, ℕ, leb}
use Rattle.theory.specs.Lists.{names_from}
use Rattle.theory.specs.Factorial.{factorial}

-- "The code keeps the factorials from 0 to 20 as a table."
unfoldable pub factorial_table : List ℕ
factorial_table = map factorial (names_from 0 21)

-- n! where the table has it, and 0 past it
abbrev pub factorial_within : ℕ → ℕ
factorial_within n = cond (leb n 20) (factorial n) 0
