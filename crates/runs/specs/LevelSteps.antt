-- A run of steps on levels: its answer, and demand 3 of it. Assumes nothing.
use Rattle.std.specs.Prelude.{◌≡◌, ℕ, zero, suc, ◌+◌, ◌%◌, ◌≤◌, max, List, [], length, Result, Ok, Err}
use Rattle.theory.specs.Reasons.{done}
use Rattle.theory.specs.Factorial.{factorial}
use Rattle.theory.specs.Permutation.{IsPermutation, row, top}
use Rattle.theory.specs.Rank.{rank}
use Rattle.theory.specs.Levels.{highest, top_less_bottom, Gapless, permutation_of, jump}
use Rattle.theory.specs.CountUp.{count_up, call_number, call_pushes}
use Rattle.theory.specs.Run.{steps, step_levels}
use Rattle.theory.specs.Spent.{call_charge}
use Rattle.theory.specs.Refusal.{given}
use Rattle.ranking.specs.Answers.{value_answer}
use Rattle.ranking.specs.declared.answers.Valued.{Valued}
use Rattle.ranking.specs.declared.zero.Zero.{Zero}
use Rattle.charge.specs.Answers.{read_answer}
use Rattle.runs.specs.Steps.{push_counts, count_in, RunOf}
use Rattle.permutation.specs.Refusals.{number_of}
use Rattle.permutation.specs.declared.reasons.Refusal.{Refusal}
use Rattle.runs.specs.declared.answers.RanLevels as given_answer

-- what a run on levels answers: its number and, beside another than 0, zeros
pub record RanLevels : Type 0 where
  pub number : ℕ
  pub pushes : ℕ
  pub charge : ℕ
  pub counts : List ℕ
  pub widest : ℕ
  pub largest : ℕ
  pub rank : ℕ

-- the levels after k steps from L, "each push made on the levels too"
abbrev pub levels_after : ℕ → List ℕ → List ℕ
levels_after k L = step_levels (length L) k (permutation_of L) L

-- what the job `value` answers for what the job `read` gives of L
abbrev pub value_read : List ℕ → Zero → Valued
value_read L z = value_answer (read_answer L).permutation z

-- the widest top less bottom after any of the steps 1 to k
unfoldable pub widest : ℕ → List ℕ → ℕ
widest zero L = 0
widest (suc k) L = max (widest k L) (top_less_bottom (levels_after (suc k) L))

-- the largest raise of any of the k pushes: "a push raises a cell by its new level less its old"
unfoldable pub largest_raise : ℕ → List ℕ → ℕ
largest_raise zero L = 0
largest_raise (suc k) L = max (largest_raise k L) (jump (top (steps (length L) (suc k) (permutation_of L))) (levels_after k L))

-- zeros beside the number of a refusal
abbrev pub no_run : ℕ → RanLevels
no_run number = record { number = number; pushes = 0; charge = 0; counts = row []; widest = 0; largest = 0; rank = 0 }

abbrev pub as_ran_levels : Result given_answer.RanLevels Refusal → RanLevels
as_ran_levels (Ok a) = record {
  number = done;
  pushes = a.pushes;
  charge = a.charge;
  counts = a.counts;
  widest = a.widest;
  largest = a.largest;
  rank = a.rank;
}
as_ran_levels (Err e) = no_run (number_of e)

-- refused as a count-up call by k is
unfoldable pub level_run_answer : List ℕ → ℕ → RanLevels
level_run_answer L k = record {
  number = call_number k L;
  pushes = call_pushes k L;
  charge = call_charge k L;
  counts = row (given (call_number k L) (push_counts (length L) k (permutation_of L)) []);
  widest = given (call_number k L) (widest k L) 0;
  largest = given (call_number k L) (largest_raise k L) 0;
  rank = given (call_number k L) (rank (length L) (permutation_of (count_up k L))) 0;
}

-- demand 3 on levels, of k steps that led from L to L' and were answered by r. It renders the clauses of theory's `Demand3` on values that were returned
pub record LevelsOf (L : List ℕ) (k : ℕ) (L' : List ℕ) (r : RanLevels) : Type 0 where
  pub pushes : r.pushes ≡ k
  -- the levels are those of count up by k, and those of k steps
  pub levels : L' ≡ count_up k L
  pub stepped : L' ≡ levels_after k L
  pub highest_level : highest L' ≡ highest L + k
  -- the permutation read from them, its rank, and the push counts
  pub start : IsPermutation (length L) (permutation_of L)
  pub run : RunOf (length L) (permutation_of L) k (permutation_of L') r.rank (count_in r.counts)
  -- document 02, request 7: so the value read from L' is the start's plus k, modulo n!, on the old zero and on the new
  pub value_read_lem : (z : Zero) → value_read L' z ≡ record { number = 0; value = ((value_read L z).value + k) % factorial (length L) }
  -- from levels without a gap, over all k steps: top less bottom is at most n, and no push raises a cell by more than n + 1
  pub gap : Gapless L → r.widest ≤ length L
  pub jumps : Gapless L → r.largest ≤ length L + 1
