-- What the public functions answer, for all inputs. "A job sent back gives the number, 0 for every other number, an order record or digit row of zeros".
-- Assumes nothing.
use Rattle.std.specs.Prelude.{cond, List, [], ℕ, ltb, Result}
use Rattle.theory.specs.Reasons.{done, value}
use Rattle.theory.specs.Factorial.{factorial}
use Rattle.theory.specs.Permutation.{row}
use Rattle.theory.specs.Rank.{rank, digits}
use Rattle.theory.specs.Unrank.{unrank}
use Rattle.permutation.specs.Records.{list_of, record_number}
use Rattle.permutation.specs.Refusals.{number_in, given_in}
use Rattle.permutation.specs.declared.reasons.Refusal.{Refusal}
use Rattle.theory.specs.Refusal.{given, or_else, size_of}
use Rattle.permutation.specs.Answers.{permuted}
use Rattle.permutation.specs.declared.answers.Permutation.{Permutation}
use Rattle.permutation.specs.declared.answers.Permuted.{Permuted}
use Rattle.ranking.specs.declared.answers.Digits.{Digits}
use Rattle.ranking.specs.declared.answers.Ranked.{Ranked}
use Rattle.ranking.specs.declared.answers.Valued.{Valued}
use Rattle.ranking.specs.declared.zero.Zero.{Zero}
use Rattle.ranking.specs.Zeros.{value_on, permutation_on, zero_number, numbered_zero}

-- what a job gives, as C gets it: a number, and zeros where it is not 0
abbrev pub as_digits : Result (List ℕ) Refusal → Digits
as_digits r = record { number = number_in r; row = given_in (row []) r }

abbrev pub as_ranked : Result ℕ Refusal → Ranked
as_ranked r = record { number = number_in r; rank = given_in 0 r }

abbrev pub as_valued : Result ℕ Refusal → Valued
as_valued r = record { number = number_in r; value = given_in 0 r }

-- "Digits b0 first, n of them, the last always 0, in a row of twenty with 0 past n."
unfoldable pub digits_answer : Permutation → Digits
digits_answer p = record { number = record_number p; row = row (given (record_number p) (digits p.n (list_of p)) []) }

-- "Rank = digit + n × rank of the remaining order"
unfoldable pub rank_answer : Permutation → Ranked
rank_answer p = record { number = record_number p; rank = given (record_number p) (rank p.n (list_of p)) 0 }

-- "rank at or above n!" is value
unfoldable pub unrank_number : ℕ → ℕ → ℕ
unrank_number n r = or_else (size_of n) (cond (ltb r (factorial n)) done value)

-- "order of a rank"
unfoldable pub unrank_answer : ℕ → ℕ → Permuted
unrank_answer n r = permuted (unrank_number n r) (unrank n r)

-- a job that gives a value, or 0 beside the number of a refusal
abbrev pub valued : ℕ → ℕ → Valued
valued number v = record { number = number; value = given number v 0 }

-- document 02, request 7: "Its value is the rank less the rank of its zero order, modulo n!"
unfoldable pub value_answer : Permutation → Zero → Valued
value_answer p z = valued (record_number p) (value_on z p.n (list_of p))

-- the way back. A value is refused as a rank is: "each value from 0 to n! - 1 belongs to exactly one order"
unfoldable pub permutation_of_value_answer : ℕ → ℕ → Zero → Permuted
permutation_of_value_answer n v z = permuted (unrank_number n v) (permutation_on z n v)

-- with the zero as a number: one that is neither is value, after the reasons of the job itself
unfoldable pub value_by_number_answer : Permutation → ℕ → Valued
value_by_number_answer p k = valued (or_else (record_number p) (zero_number k)) (value_on (numbered_zero k) p.n (list_of p))

unfoldable pub permutation_by_number_answer : ℕ → ℕ → ℕ → Permuted
permutation_by_number_answer n v k = permuted (or_else (unrank_number n v) (zero_number k)) (permutation_on (numbered_zero k) n v)
