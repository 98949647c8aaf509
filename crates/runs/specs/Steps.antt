-- A run of steps: its answer, and demand 3 of it. Assumes nothing.
use Rattle.std.specs.Prelude.{◌≡◌, ℕ, ◌+◌, ◌-◌, ◌%◌, ◌^◌, ◌<◌, ◌≤◌, ◌⊎◌, List, [], map, ◌≢◌, slice_index, Result, Ok, Err}
use Rattle.theory.specs.Reasons.{done}
use Rattle.theory.specs.Lists.{names}
use Rattle.theory.specs.Factorial.{factorial}
use Rattle.theory.specs.Permutation.{IsPermutation, row}
use Rattle.theory.specs.Rank.{rank}
use Rattle.theory.specs.Zero.{value_from}
use Rattle.theory.specs.Run.{steps, push_count}
use Rattle.theory.specs.Deciding.{total_tests, factorial_sum}
use Rattle.permutation.specs.Records.{list_of, record_of, record_number}
use Rattle.theory.specs.Refusal.{given}
use Rattle.permutation.specs.declared.answers.Permutation.{Permutation}
use Rattle.ranking.specs.Answers.{value_answer}
use Rattle.ranking.specs.declared.zero.Zero.{Zero}
use Rattle.permutation.specs.Refusals.{number_of}
use Rattle.permutation.specs.Answers.{no_record}
use Rattle.permutation.specs.declared.reasons.Refusal.{Refusal}
use Rattle.runs.specs.declared.answers.Ran as given_answer

-- what a run answers: its number and, beside another than 0, zeros
pub record Ran : Type 0 where
  pub number : ℕ
  pub permutation : Permutation
  pub rank : ℕ
  pub counts : List ℕ
  pub tests : ℕ

abbrev pub as_ran : Result given_answer.Ran Refusal → Ran
as_ran (Ok a) = record { number = done; permutation = a.permutation; rank = a.rank; counts = a.counts; tests = a.tests }
as_ran (Err e) = record { number = number_of e; permutation = no_record; rank = 0; counts = row []; tests = 0 }

-- the push counts of the cells 1 to n after k steps
abbrev pub push_counts : ℕ → ℕ → List ℕ → List ℕ
push_counts n k xs = map (λ c. push_count n c k xs) (names n)

-- "The first record is any order, so no step is sent back." A record that is none is refused with its number: size or muddle, and zeros beside it
unfoldable pub run_answer : Permutation → ℕ → Ran
run_answer p k = record {
  number = record_number p;
  permutation = record_of (given (record_number p) (steps p.n k (list_of p)) []);
  rank = given (record_number p) (rank p.n (steps p.n k (list_of p))) 0;
  counts = row (given (record_number p) (push_counts p.n k (list_of p)) []);
  tests = given (record_number p) (total_tests p.n k (list_of p) % 2 ^ 64) 0;
}

-- the count of cell c in a list of counts by name
abbrev pub count_in : List ℕ → ℕ → ℕ
count_in counts c = slice_index counts (c - 1)

-- demand 3 on permutations, of n cells and a run of k steps that led from xs to ys, of rank r, with these push counts. It renders the clauses of theory's
-- `Demand3` that speak of permutations: of ys, r and the counts, and of the way there in `different`, `round` and `even`
pub record RunOf (n : ℕ) (xs : List ℕ) (k : ℕ) (ys : List ℕ) (r : ℕ) (counts : ℕ → ℕ) : Type 0 where
  pub run : ys ≡ steps n k xs
  pub permutation : IsPermutation n ys
  pub rank_now : r ≡ rank n ys
  pub ranks : r ≡ (rank n xs + k) % factorial n
  -- document 02, request 7: "Any k steps add k to the value modulo n!", with any zero z; and so of what the job `value` answers for the records of xs and ys, on the
  -- old zero and on the new
  pub values : (z : List ℕ) → value_from n z ys ≡ (value_from n z xs + k) % factorial n
  pub value_answers :
      (z : Zero) → value_answer (record_of ys) z ≡ record { number = 0; value = ((value_answer (record_of xs) z).value + k) % factorial n }
  pub different : (i j : ℕ) → i < j → j ≤ k → j < factorial n → steps n i xs ≢ steps n j xs
  pub return : k ≡ factorial n → ys ≡ xs
  pub pushes : (c : ℕ) → 1 ≤ c → c ≤ n → counts c ≡ push_count n c k xs
  pub shares : k ≡ factorial n → (c : ℕ) → 1 ≤ c → c ≤ n → counts c ≡ factorial (n - 1)
  pub balance : (c d : ℕ) → 1 ≤ c → c ≤ n → 1 ≤ d → d ≤ n → counts c ≤ counts d + 2
  -- a run of n! steps or more goes through a whole round, and every run is balanced after each of its steps. `return`, `shares` and `balance` are what
  -- these say of the end, in the values returned
  pub round :
      factorial n ≤ k
      → (steps n (factorial n) xs ≡ xs) × ((c : ℕ) → 1 ≤ c → c ≤ n → push_count n c (factorial n) xs ≡ factorial (n - 1))
  pub even : (j c d : ℕ) → j ≤ k → 1 ≤ c → c ≤ n → 1 ≤ d → d ≤ n → push_count n c j xs ≤ push_count n d j xs + 2

-- document 02, request 9, of n cells and a run of k steps from xs that had these tests, in 64 bits
pub record TestsOf (n : ℕ) (xs : List ℕ) (k tests : ℕ) : Type 0 where
  pub total : tests ≡ total_tests n k xs % 2 ^ 64
  -- within a round, and in any run of fewer than 2^59 steps, they are all of them
  pub exact : (k ≤ factorial n) ⊎ (k < 2 ^ 59) → tests ≡ total_tests n k xs
  -- "Summed over a whole round of n! steps from any order, they are the sum of i! for i from 3 to n"
  pub round : k ≡ factorial n → tests ≡ factorial_sum n
