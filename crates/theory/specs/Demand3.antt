-- Demand 3: the one claim over whole runs of n cells. Each field is a clause of it. Assumes nothing.
use Rattle.std.specs.Prelude.{◌≡◌, false, List, [], ◌∷◌, ◌++◌, ℕ, suc, ◌+◌, ◌-◌, ◌%◌, ◌≤◌, ◌<◌, length}
use Rattle.theory.specs.Factorial.{factorial}
use Rattle.theory.specs.Permutation.{IsPermutation, cell_at, top}
use Rattle.theory.specs.Successor.{successor}
use Rattle.theory.specs.Rank.{rank}
use Rattle.theory.specs.Zero.{value_from}
use Rattle.theory.specs.Levels.{highest, top_less_bottom, tied, Gapless, permutation_of, jump}
use Rattle.theory.specs.CountUp.{count_up, call_number, call_pushes, call_levels}
use Rattle.theory.specs.Run.{steps, push_count, step_levels, after_calls, call_numbers, steps_done}

-- "On levels the start is any lent list of 2 to 20 levels without a tie."
pub record Start (n : ℕ) (L : List ℕ) : Type 0 where
  pub few : n ≤ 20
  pub long : length L ≡ n
  pub untied : tied L ≡ false

-- a call with k that is done: number 0 and k pushes, on the levels that k steps leave
pub record Done (k : ℕ) (L : List ℕ) : Type 0 where
  pub number : call_number k L ≡ 0
  pub pushes : call_pushes k L ≡ k
  pub levels : call_levels k L ≡ count_up k L

-- a call with k that is refused: number 6 and 0 pushes, "and the list stays as it was"
pub record Refused (k : ℕ) (L : List ℕ) : Type 0 where
  pub number : call_number k L ≡ 6
  pub pushes : call_pushes k L ≡ 0
  pub levels : call_levels k L ≡ L

pub record Demand3 (n : ℕ) : Type 0 where
  -- On permutations. "The first record is any order [..] and k is any whole number from 0."
  pub permutation : (xs : List ℕ) → IsPermutation n xs → (k : ℕ) → IsPermutation n (steps n k xs)
  pub ranks : (xs : List ℕ) → IsPermutation n xs → (k : ℕ) → rank n (steps n k xs) ≡ (rank n xs + k) % factorial n
  -- the start and the permutations after steps 1 to n! - 1 are pairwise different
  pub different :
      (xs : List ℕ) → IsPermutation n xs → (i j : ℕ) → i < j → j < factorial n → steps n i xs ≡ steps n j xs → ⊥
  pub return : (xs : List ℕ) → IsPermutation n xs → steps n (factorial n) xs ≡ xs
  -- "how many of those k pushes moved it to place 1": a step counts for the cell that stands at the successor's place before it, and for no other. All other
  -- clauses would hold as well of a count of the cells on top before the steps
  pub counts_pushed : (xs : List ℕ) → push_count n (cell_at (successor n xs) xs) 1 xs ≡ 1
  pub counts_others : (xs : List ℕ) (c : ℕ) → (c ≡ cell_at (successor n xs) xs → ⊥) → push_count n c 1 xs ≡ 0
  -- step k + 1 adds what that one step counts
  pub counts_step : (xs : List ℕ) (k c : ℕ) → push_count n c (suc k) xs ≡ push_count n c k xs + push_count n c 1 (steps n k xs)
  -- each cell is pushed (n - 1)! times in those n! steps, and at all times push counts are at most 2 apart
  pub shares :
      (xs : List ℕ) → IsPermutation n xs → (c : ℕ) → 1 ≤ c → c ≤ n → push_count n c (factorial n) xs ≡ factorial (n - 1)
  pub balance :
      (xs : List ℕ) → IsPermutation n xs → (k c d : ℕ) → 1 ≤ c → c ≤ n → 1 ≤ d → d ≤ n
      → push_count n c k xs ≤ push_count n d k xs + 2
  -- On levels. The permutation read from the start is one that the clauses above speak of
  pub level_start : (L : List ℕ) → Start n L → IsPermutation n (permutation_of L)
  -- "After any list of calls, an empty one too, the levels are those that K steps from the start's order leave"
  pub levels :
      (L : List ℕ) → Start n L → (ks : List ℕ) → after_calls ks L ≡ step_levels n (steps_done ks L) (permutation_of L) L
  pub highest_level : (L : List ℕ) → Start n L → (ks : List ℕ) → highest (after_calls ks L) ≡ highest L + steps_done ks L
  pub read : (L : List ℕ) → Start n L → (ks : List ℕ) → permutation_of (after_calls ks L) ≡ steps n (steps_done ks L) (permutation_of L)
  pub level_ranks :
      (L : List ℕ) → Start n L → (ks : List ℕ)
      → rank n (permutation_of (after_calls ks L)) ≡ (rank n (permutation_of L) + steps_done ks L) % factorial n
  -- document 02, request 7: "Any k steps add k to the value modulo n!", with any zero z; of steps alone it is `Valuing.counted`
  pub level_values :
      (z L : List ℕ) → Start n L → (ks : List ℕ)
      → value_from n z (permutation_of (after_calls ks L)) ≡ (value_from n z (permutation_of L) + steps_done ks L) % factorial n
  -- "A call with k is done [..] exactly when the top standing then plus k is at most 65,535." ks are the calls before it
  pub call_done : (L : List ℕ) → Start n L → (ks : List ℕ) (k : ℕ) → highest (after_calls ks L) + k ≤ 65535 → Done k (after_calls ks L)
  pub call_refused :
      (L : List ℕ) → Start n L → (ks : List ℕ) (k : ℕ) → 65535 < highest (after_calls ks L) + k → Refused k (after_calls ks L)
  -- the number of each call in a list is its number on the levels that the calls before it left
  pub call_number_lem :
      (L : List ℕ) → (ks : List ℕ) (k : ℕ) (later : List ℕ)
      → call_numbers (ks ++ k ∷ later) L ≡ call_numbers ks L ++ call_number k (after_calls ks L) ∷ call_numbers later (after_calls (ks ++ k ∷ []) L)
  -- the levels j steps into a call that follows the calls ks are those of K + j steps
  pub inside :
      (L : List ℕ) → Start n L → (ks : List ℕ) (j : ℕ)
      → count_up j (after_calls ks L) ≡ step_levels n (steps_done ks L + j) (permutation_of L) L
  -- From levels without a gap, after every step: top less bottom is at most n; and no push raises a cell by more than n + 1
  pub gap :
      (L : List ℕ) → length L ≡ n → Gapless L → (k : ℕ)
      → top_less_bottom (step_levels n k (permutation_of L) L) ≤ n
  pub jumps :
      (L : List ℕ) → length L ≡ n → Gapless L → (k : ℕ)
      → jump (top (steps n (suc k) (permutation_of L))) (step_levels n k (permutation_of L) L) ≤ n + 1
