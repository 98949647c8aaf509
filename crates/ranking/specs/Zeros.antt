-- Document 02, request 7: "A group now carries its zero: old, or new." Its permutation, values on it, and a zero as a number. Assumes nothing.
use Rattle.std.specs.Prelude.{◌≡◌, cond, List, map, ℕ, eqb, leb, Result}
use Rattle.theory.specs.Reasons.{done, value}
use Rattle.theory.specs.Lists.{names_from}
use Rattle.theory.specs.Rank.{rank}
use Rattle.theory.specs.Zero.{value_from, permutation_from, old_zero, new_zero}
use Rattle.permutation.specs.Refusals.{number_in, given_in}
use Rattle.permutation.specs.declared.reasons.Refusal.{Refusal}
use Rattle.ranking.specs.declared.zero.Zero.{Zero}
use Rattle.ranking.specs.declared.zero.Zero.TheVariants.{Old, New}

abbrev pub zero_permutation : Zero → ℕ → List ℕ
zero_permutation Old n = old_zero n
zero_permutation New n = new_zero n

-- the value of xs, and the permutation of a value
abbrev pub value_on : Zero → ℕ → List ℕ → ℕ
value_on z n xs = value_from n (zero_permutation z n) xs

abbrev pub permutation_on : Zero → ℕ → ℕ → List ℕ
permutation_on z n v = permutation_from n (zero_permutation z n) v

-- a zero as a number, for C and in lists: 0 is old and 1 is new; one that is neither is value
unfoldable pub zero_number : ℕ → ℕ
zero_number k = cond (leb k 1) done value

-- the zero of such a number; what another number gives plays no part, since the job is refused
unfoldable pub numbered_zero : ℕ → Zero
numbered_zero k = cond (eqb k 0) Old New

-- what a number gives: its zero, or a refusal with the number of value
abbrev pub zero_gives : ℕ → Result Zero Refusal → Type 0
zero_gives k r = (number_in r ≡ zero_number k) × (given_in New r ≡ numbered_zero k)

-- the ranks of [1,2,...,n] that the code keeps, for n from 0 to 20
unfoldable pub new_zero_ranks : List ℕ
new_zero_ranks = map (λ n. rank n (new_zero n)) (names_from 0 21)
