-- Document 01, "Runs of steps": k steps, push counts, the levels that steps leave, and lists of count-up calls. Assumes nothing.
use Rattle.std.specs.Prelude.{List, ℕ, zero, suc, ◌+◌}
use Rattle.theory.specs.Lists.{delta}
use Rattle.theory.specs.Permutation.{top}
use Rattle.theory.specs.Successor.{step}
use Rattle.theory.specs.Levels.{push_level}
use Rattle.theory.specs.InTurn.{left_by, answers_to, added_up}
use Rattle.theory.specs.CountUp.{call_number, call_pushes, call_levels}

-- the permutation after k steps: "The following step gets the record which that push returned."
unfoldable pub steps : ℕ → ℕ → List ℕ → List ℕ
steps n zero xs = xs
steps n (suc k) xs = step n (steps n k xs)

-- "A cell's push count after k steps is how many of those k pushes moved it to place 1."
unfoldable pub push_count : ℕ → ℕ → ℕ → List ℕ → ℕ
push_count n c zero xs = 0
push_count n c (suc k) xs = push_count n c k xs + delta (top (steps n (suc k) xs)) c

-- "the levels [..] that K steps from the start's order leave, each push made on the levels too"
unfoldable pub step_levels : ℕ → ℕ → List ℕ → List ℕ → List ℕ
step_levels n zero xs L = L
step_levels n (suc k) xs L = push_level (top (steps n (suc k) xs)) (step_levels n k xs L)

-- a list of count-up calls, by their counts: "Each count-up call gets the list as the last one left it"
unfoldable pub after_calls : List ℕ → List ℕ → List ℕ
after_calls ks L = left_by call_levels ks L

-- the number that each call gets
unfoldable pub call_numbers : List ℕ → List ℕ → List ℕ
call_numbers ks L = answers_to call_number call_levels ks L

-- "Let K be the sum of k over the calls done."
unfoldable pub steps_done : List ℕ → List ℕ → ℕ
steps_done ks L = added_up call_pushes call_levels ks L
