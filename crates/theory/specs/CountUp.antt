-- Count up by k on levels: the steps, and the answer of a call, refusals included. Assumes nothing.
use Rattle.std.specs.Prelude.{cond, List, ℕ, zero, suc, ◌+◌, leb, length}
use Rattle.theory.specs.Reasons.{done, ceiling, max_level}
use Rattle.theory.specs.Refusal.{given, or_else}
use Rattle.theory.specs.Permutation.{cell_at}
use Rattle.theory.specs.Successor.{successor}
use Rattle.theory.specs.Levels.{highest, read_number, permutation_of, push_level}

-- the cell that the next step of the permutation read from the levels pushes
unfoldable pub next_cell : List ℕ → ℕ
next_cell L = cell_at (successor (length L) (permutation_of L)) (permutation_of L)

-- "k next steps, each a push on the levels"
unfoldable pub count_up : ℕ → List ℕ → List ℕ
count_up zero L = L
count_up (suc k) L = count_up k (push_level (next_cell L) L)

-- done or ceiling, for k pushes on L: "top level plus the job's pushes exceeds 65,535"
abbrev pub ceiling_of : List ℕ → ℕ → ℕ
ceiling_of L k = cond (leb (highest L + k) max_level) done ceiling

-- the number of a call with k: "done, with number 0 and k pushes, exactly when the top standing then plus k is at most 65,535"; size and tie come first
unfoldable pub call_number : ℕ → List ℕ → ℕ
call_number k L = or_else (read_number L) (ceiling_of L k)

-- "Otherwise it gives number 6 and 0 pushes, and the list stays as it was." So it is of size and tie
unfoldable pub call_pushes : ℕ → List ℕ → ℕ
call_pushes k L = given (call_number k L) k 0

unfoldable pub call_levels : ℕ → List ℕ → List ℕ
call_levels k L = given (call_number k L) (count_up k L) L
