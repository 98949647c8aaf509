-- What the job answers, and the lent list that it leaves, for all inputs. Assumes nothing.
use Rattle.std.specs.Prelude.{◌≡◌, cond, ◌&&◌, ℕ, ◌-◌, ◌*◌, ◌/◌, leb, length, drop, Result}
use mathlib.Core.List.{List, ◌++◌, flatten}
use Rattle.theory.specs.Reasons.{done, fit, value}
use Rattle.theory.specs.Refusal.{given, or_else}
use Rattle.theory.specs.Factorial.{factorial}
use Rattle.theory.specs.Levels.{read_number, permutation_of}
use Rattle.reach.specs.Reach.{within_reach}
use Rattle.reach.specs.Claims.{Reaching, entry_of}
use Rattle.permutation.specs.Refusals.{number_in, given_in}
use Rattle.permutation.specs.declared.reasons.Refusal.{Refusal}
use Rattle.reach.specs.declared.answers.Reached.{Reached}

-- how many the job listed as C gets it: a number, and 0 where that is not 0
abbrev pub as_reached : Result ℕ Refusal → Reached
as_reached r = record { number = number_in r; permutations = given_in 0 r }

-- "how many there are, n!/(n-r)!"
abbrev pub reach_count : ℕ → ℕ → ℕ
reach_count n r = factorial n / factorial (n - r)

-- the bytes of the listing, "n names apiece"
abbrev pub reach_bytes : ℕ → ℕ → ℕ
reach_bytes n r = reach_count n r * n

-- "A value of r above n - 1, or a list that would exceed 65,536 bytes, is value"
abbrev pub reach_value : ℕ → ℕ → ℕ
reach_value n r = cond (leb r (n - 1) && leb (reach_bytes n r) 65536) done value

-- "a lent list shorter than the listing is fit"; `room` is the lent list's length
abbrev pub reach_fit : ℕ → ℕ → ℕ → ℕ
reach_fit n r room = cond (leb (reach_bytes n r) room) done fit

-- size, tie, value, and fit, "judged here after value"
unfoldable pub reach_number : List ℕ → ℕ → ℕ → ℕ
reach_number L r room = or_else (read_number L) (or_else (reach_value (length L) r) (reach_fit (length L) r room))

-- "The job gives how many there are"
unfoldable pub reach_answer : List ℕ → ℕ → ℕ → Reached
reach_answer L r room = record {
  number = reach_number L r room;
  permutations = given (reach_number L r room) (reach_count (length L) r) 0;
}

-- "List into lent bytes every order [..] from the present one, read from the levels"; "Bytes past the last order keep their values."
unfoldable pub reach_list : List ℕ → ℕ → List ℕ → List ℕ
reach_list L r list =
    given (reach_number L r (length list))
    (flatten (within_reach (length L) (permutation_of L) r) ++ drop (reach_bytes (length L) r) list)
    list

-- what the list then has, where the job is done: entry by entry, what is within reach of the levels' permutation
abbrev pub ReachOf : List ℕ → ℕ → Reached → List ℕ → Type 0
ReachOf L r a list = a.number ≡ 0 → Reaching (length L) (permutation_of L) r a.permutations (entry_of (length L) list)
