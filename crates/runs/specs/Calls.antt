-- A list of count-up calls: its answer and what it leaves, and demand 3 of it. Assumes nothing.
use Rattle.std.specs.Prelude.{◌≡◌, ℕ, suc, ◌+◌, ◌%◌, ◌<◌, ◌≤◌, cond, List, [], ◌∷◌, ◌++◌, length, take, drop, ◌==◌, nat_le, slice_index}
use Rattle.theory.specs.Reasons.{done, fit}
use Rattle.theory.specs.Factorial.{factorial}
use Rattle.theory.specs.Permutation.{IsPermutation, top}
use Rattle.theory.specs.Rank.{rank}
use Rattle.theory.specs.Levels.{highest, top_less_bottom, Gapless, permutation_of, jump}
use Rattle.theory.specs.CountUp.{count_up, call_levels}
use Rattle.theory.specs.Run.{steps, push_count, after_calls, call_numbers, steps_done}
use Rattle.theory.specs.Spent.{calls_charge}
use Rattle.theory.specs.Demand3.{Done, Refused}
use Rattle.theory.specs.Refusal.{given}
use Rattle.ranking.specs.declared.zero.Zero.{Zero}
use Rattle.charge.specs.Answers.{pushes_of}
use Rattle.charge.specs.declared.answers.Pushes.{Pushes}
use Rattle.runs.specs.Steps.{RunOf}
use Rattle.runs.specs.LevelSteps.{levels_after, value_read}

-- done, whatever numbers the calls get, where there is a place for each of those numbers; otherwise fit, before anything else is judged
abbrev pub calls_number : List ℕ → List ℕ → ℕ
calls_number ks numbers = cond (nat_le (length ks) (length numbers)) done fit

-- the pushes of all calls together, and their charge
unfoldable pub calls_answer : List ℕ → List ℕ → List ℕ → Pushes
calls_answer L ks numbers = pushes_of (calls_number ks numbers) (steps_done ks L) (calls_charge ks L)

-- "Each count-up call gets the list as the last one left it"
unfoldable pub called_levels : List ℕ → List ℕ → List ℕ → List ℕ
called_levels L ks numbers = given (calls_number ks numbers) (after_calls ks L) L

-- each call's number at its place, and past them the bytes that stood there
unfoldable pub called_numbers : List ℕ → List ℕ → List ℕ → List ℕ
called_numbers L ks numbers = given (calls_number ks numbers) (call_numbers ks L ++ drop (length ks) numbers) numbers

-- "Let K be the sum of k over the calls done": those whose number is 0
abbrev pub sum_done : List ℕ → List ℕ → ℕ
sum_done [] numbers = 0
sum_done (k ∷ ks) [] = 0
sum_done (k ∷ ks) (number ∷ numbers) = cond (number == done) k 0 + sum_done ks numbers

-- demand 3 on levels, of calls with counts ks that led from L to L' with these numbers and K pushes in all. It renders the clauses of theory's `Demand3`
-- that speak of levels. Calls are numbered from 0, and `after_calls (take i ks) L` are the levels that call i gets
pub record CallsOf (L ks L' numbers : List ℕ) (K : ℕ) : Type 0 where
  pub sum : K ≡ sum_done ks numbers
  -- "the levels are those that K steps from the start's order leave [..]; the top is the start's plus K"
  pub levels : L' ≡ levels_after K L
  pub highest_level : highest L' ≡ highest L + K
  -- "what demand 3 says of orders, ranks and push counts holds of the levels with K for k". No rank and no push counts are returned: the rank read from L'
  -- and the counts of the K steps stand here
  pub start : IsPermutation (length L) (permutation_of L)
  pub run :
      RunOf (length L) (permutation_of L) K (permutation_of L') (rank (length L) (permutation_of L'))
      (λ c. push_count (length L) c K (permutation_of L))
  -- document 02, request 7: so the value read from L' is the start's plus K, modulo n!, on the old zero and on the new
  pub value_read_lem : (z : Zero) → value_read L' z ≡ record { number = 0; value = ((value_read L z).value + K) % factorial (length L) }
  -- call i is "done, with number 0 and k pushes, exactly when the top standing then plus k is at most 65,535. Otherwise it gives number 6 and 0 pushes,
  -- and the list stays as it was"
  pub call_done :
      (i : ℕ) → i < length ks → highest (after_calls (take i ks) L) + slice_index ks i ≤ 65535
      → (slice_index numbers i ≡ 0) × Done (slice_index ks i) (after_calls (take i ks) L)
  pub call_refused :
      (i : ℕ) → i < length ks → 65535 < highest (after_calls (take i ks) L) + slice_index ks i
      → (slice_index numbers i ≡ 6) × Refused (slice_index ks i) (after_calls (take i ks) L)
  -- "Each count-up call gets the list as the last one left it", and the top standing then is told by the numbers before it
  pub between : (i : ℕ) → i < length ks → after_calls (take (suc i) ks) L ≡ call_levels (slice_index ks i) (after_calls (take i ks) L)
  pub top_then : (i : ℕ) → highest (after_calls (take i ks) L) ≡ highest L + sum_done (take i ks) numbers
  -- inside a call too, the levels are those of the steps done so far
  pub inside :
      (i j : ℕ) → count_up j (after_calls (take i ks) L) ≡ levels_after (sum_done (take i ks) numbers + j) L
  -- from levels without a gap, top less bottom of the levels left is at most n
  pub gap_left : Gapless L → top_less_bottom L' ≤ length L
  -- "The bounds on gaps and jumps speak of every one of the K steps"
  pub gap :
      Gapless L → (k : ℕ) → k ≤ K
      → top_less_bottom (levels_after k L) ≤ length L
  pub jumps :
      Gapless L → (k : ℕ) → k < K
      → jump (top (steps (length L) (suc k) (permutation_of L))) (levels_after k L) ≤ length L + 1
