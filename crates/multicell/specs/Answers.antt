-- What the job answers, and the lent list that it leaves, for all inputs. Assumes nothing.
use Rattle.std.specs.Prelude.{◌≡◌, cond, ◌&&◌, List, ℕ, ◌*◌, eqb, length, Result}
use Rattle.theory.specs.Reasons.{done, size, fit, muddle}
use Rattle.theory.specs.Refusal.{given, or_else}
use Rattle.multicell.specs.Arrangement.{used_each, in_range}
use Rattle.multicell.specs.Cost.{cost_of, raised_levels}
use Rattle.multicell.specs.Claims.{LeastRaise}
use Rattle.permutation.specs.Refusals.{number_in, given_in}
use Rattle.permutation.specs.declared.reasons.Refusal.{Refusal}
use Rattle.multicell.specs.declared.answers.Rearranged.{Rearranged}

-- the job's cost as C gets it: a number, and 0 where that is not 0
abbrev pub as_rearranged : Result ℕ Refusal → Rearranged
as_rearranged r = record { number = number_in r; cost = given_in 0 r }

-- "Sizes outside the ranges are size"
abbrev pub rearrange_size : ℕ → ℕ → ℕ
rearrange_size q z = cond (in_range q z) done size

-- "then lists without q × z entries are fit": all three; `room` is the length of the list for the raised levels
abbrev pub rearrange_fit : ℕ → ℕ → List ℕ → List ℕ → ℕ → ℕ
rearrange_fit q z old new room = cond (eqb (length old) (q * z) && eqb (length new) (q * z) && eqb room (q * z)) done fit

-- "then a wrong arrangement is muddle"
abbrev pub rearrange_muddle : ℕ → ℕ → List ℕ → List ℕ → ℕ
rearrange_muddle q z old new = cond (used_each q z old && used_each q z new) done muddle

unfoldable pub rearrange_number : ℕ → ℕ → List ℕ → List ℕ → ℕ → ℕ
rearrange_number q z old new room = or_else (rearrange_size q z) (or_else (rearrange_fit q z old new room) (rearrange_muddle q z old new))

-- "Give the cost"
unfoldable pub rearrange_answer : ℕ → ℕ → List ℕ → List ℕ → ℕ → Rearranged
rearrange_answer q z old new room = record {
  number = rearrange_number q z old new room;
  cost = given (rearrange_number q z old new room) (cost_of old new) 0;
}

-- "and the raised levels [..] into a lent list"
unfoldable pub rearrange_list : ℕ → ℕ → List ℕ → List ℕ → List ℕ → List ℕ
rearrange_list q z old new list = given (rearrange_number q z old new (length list)) (raised_levels (cost_of old new) new) list

-- what the list then has, where the job is done
abbrev pub RaiseOf : ℕ → List ℕ → List ℕ → Rearranged → List ℕ → Type 0
RaiseOf q old new a list = a.number ≡ 0 → LeastRaise q old new a.cost list
