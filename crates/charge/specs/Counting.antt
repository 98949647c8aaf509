-- What a count-up call is judged by, and what its steps start from and lead to. Only inner contracts cite these. Assumes nothing.
use Rattle.std.specs.Prelude.{◌≡◌, false, List, ℕ, ◌+◌, ◌≤◌, length, Result}
use Rattle.theory.specs.Reasons.{max_level}
use Rattle.theory.specs.Permutation.{row}
use Rattle.theory.specs.Levels.{highest, tied, permutation_of}
use Rattle.theory.specs.CountUp.{count_up, call_number}
use Rattle.theory.specs.Spent.{charge_of, count_up_pushes}
use Rattle.theory.specs.Refusal.{given}
use Rattle.permutation.specs.Refusals.{number_in, given_in}
use Rattle.permutation.specs.declared.reasons.Refusal.{Refusal}

-- what a count-up call is judged by: its number and, where that is 0, the highest level
pub record Call : Type 0 where
  pub number : ℕ
  pub top : ℕ

abbrev pub as_call : Result ℕ Refusal → Call
as_call r = record { number = number_in r; top = given_in 0 r }

-- the number of a call with k, and the highest level beside a 0
unfoldable pub call_judged : List ℕ → ℕ → Call
call_judged L k = record { number = call_number k L; top = given (call_number k L) (highest L) 0 }

-- k steps from the levels L, whose permutation stands in the row, have room
pub record Ready (L cells : List ℕ) (top k : ℕ) : Type 0 where
  pub few : 2 ≤ length L
  pub many : length L ≤ 20
  pub untied : tied L ≡ false
  pub cells_are : cells ≡ row (permutation_of L)
  pub top_is : top ≡ highest L
  pub room : top + k ≤ max_level

-- k steps led from L to L', and spent this charge
pub record Counted (k : ℕ) (L L' : List ℕ) (charge : ℕ) : Type 0 where
  pub levels : L' ≡ count_up k L
  pub charge_is : charge ≡ charge_of (count_up_pushes k L) L
