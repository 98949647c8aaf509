-- Document 02, request 3, "Charge spent": what pushes on levels spend. Assumes nothing.
use Rattle.std.specs.Prelude.{◌≡◌, List, [], ◌∷◌, ℕ, zero, suc, ◌+◌}
use Rattle.theory.specs.Refusal.{given}
use Rattle.theory.specs.Levels.{push_level, jump}
use Rattle.theory.specs.InTurn.{added_up}
use Rattle.theory.specs.CountUp.{next_cell, call_number, call_levels}

-- "the sum of all levels"
abbrev pub level_sum : List ℕ → ℕ
level_sum [] = 0
level_sum (a ∷ L) = a + level_sum L

-- "The total equals the sum of all levels afterwards less the sum before": what led from L to L' spent this charge
abbrev pub Spends : List ℕ → List ℕ → ℕ → Type 0
Spends L L' charge = level_sum L' ≡ level_sum L + charge

-- "the total of their jumps": the charge of a row of pushes of cells, each on the levels that the last one left
abbrev pub charge_of : List ℕ → List ℕ → ℕ
charge_of [] L = 0
charge_of (c ∷ cs) L = jump c L + charge_of cs (push_level c L)

-- the cells that count up by k pushes, in turn
unfoldable pub count_up_pushes : ℕ → List ℕ → List ℕ
count_up_pushes zero L = []
count_up_pushes (suc k) L = next_cell L ∷ count_up_pushes k (push_level (next_cell L) L)

-- a count-up call: the charge of its pushes, "and 0 when sent back"
unfoldable pub call_charge : ℕ → List ℕ → ℕ
call_charge k L = given (call_number k L) (charge_of (count_up_pushes k L) L) 0

-- a list of count-up calls, each on the levels that the last one left
unfoldable pub calls_charge : List ℕ → List ℕ → ℕ
calls_charge ks L = added_up call_charge call_levels ks L
