-- Lists of count-up calls on levels without a tie: the levels that they leave are those of a run of steps. Assumes nothing.
use mathlib.Core.Path.{◌≡◌, refl, sym, ap, ◌∙◌}
use mathlib.Core.Bool.{false}
use mathlib.Core.List.{List, [], ◌∷◌, ◌++◌}
use Prim.Native.Nat.{ℕ, ◌+◌, ◌≤◌, ◌<◌}
use native.Mathlib.Omega.{arith}
use borrow.Author.Tests.{le-leb, lt-leb, ne_eqb}
use lib.ListN.{length}
use Rattle.theory.specs.Levels.{highest, ReadsAs, tied, read_number}
use Rattle.theory.specs.CountUp.{call_number, call_pushes, call_levels}
use Rattle.theory.specs.Run.{steps, step_levels, after_calls, call_numbers, steps_done}
use Rattle.theory.specs.Claims.{Calling}
use Rattle.theory.specs.Demand3.{Done, Refused}
use Rattle.theory.proofs.Cases.{by_le}
use Rattle.theory.proofs.Refusal.{size_large, size_done}
use Rattle.theory.proofs.InTurn.{left_append, answers_append}
use Rattle.theory.proofs.Sorting.{reads_untied}
use Rattle.theory.proofs.LevelRun.{run_length, run_reads, step_levels_add, count_up_run}

-- ---- one call

pub calling : (k : ℕ) (L : List ℕ) → Calling k L
unfolding call_number call_pushes call_levels read_number
calling k L = record {
  too_few = λ h. rw (lt-leb 2 (length L) h);
  too_many = λ h. rw (← size_large (length L) h);
  tie = λ low high t. rw (size_done (length L) low high, t);
  ceiling = λ low high t h. rw (size_done (length L) low high, t, lt-leb);
  done = λ low high t h. rw (size_done (length L) low high, t, le-leb);
  counted = λ e. rw e (refl, refl);
  unchanged = λ ne. rw (ne_eqb (call_number k L) 0 ne) (refl, refl);
}

module _ (k : ℕ) (L : List ℕ) (low : 2 ≤ length L) (high : length L ≤ 20) (untied : tied L ≡ false) where
  pub call_done : highest L + k ≤ 65535 → Done k L
  call_done h =
      let number : call_number k L ≡ 0 = (calling k L).done low high untied h in
      let answer = (calling k L).counted number in
      record { number = number; pushes = answer.0; levels = answer.1 }

  pub call_refused : 65535 < highest L + k → Refused k L
  call_refused h =
      let number : call_number k L ≡ 6 = (calling k L).ceiling low high untied h in
      let answer = (calling k L).unchanged (λ e. omega arith) in
      record { number = number; pushes = answer.0; levels = answer.1 }

-- ---- a list of calls

pub calls_run : (n : ℕ) → 2 ≤ n → n ≤ 20 → (ks L xs : List ℕ) → length L ≡ n → ReadsAs L xs
    → after_calls ks L ≡ step_levels n (steps_done ks L) xs L
unfolding after_calls steps_done step_levels
calls_run n low high [] L xs size r = refl
calls_run n low high (k ∷ ks) L xs size r =
    by_le (highest L + k) 65535
    (λ h.
    let d : Done k L = call_done k L (omega arith) (omega arith) (reads_untied r) h in
    let M : List ℕ = step_levels n k xs L in
    let here : call_levels k L ≡ M = d.levels ∙ count_up_run n low k L xs size r in
    rw (here, d.pushes)
    (calls_run n low high ks M (steps n k xs) (run_length n low L xs size r k) (run_reads n low L xs size r k)
    ∙ step_levels_add n k (steps_done ks M) xs L))
    (λ h.
    let d : Refused k L = call_refused k L (omega arith) (omega arith) (reads_untied r) h in
    let e : steps_done ks L ≡ 0 + steps_done ks L = omega arith in
    rw (d.levels, d.pushes) (calls_run n low high ks L xs size r ∙ ap (λ (i : ℕ). step_levels n i xs L) e))

-- the number of each call is that of the call on the levels which the calls before it left
pub call_number_lem : (L ks : List ℕ) (k : ℕ) (later : List ℕ)
    → call_numbers (ks ++ k ∷ later) L ≡ call_numbers ks L ++ call_number k (after_calls ks L) ∷ call_numbers later (after_calls (ks ++ k ∷ []) L)
unfolding call_numbers after_calls
call_number_lem L ks k later =
    answers_append call_levels call_number ks (k ∷ later) L
    ∙ ap (λ (M : List ℕ). call_numbers ks L ++ call_number k (after_calls ks L) ∷ call_numbers later M) (sym (left_append call_levels ks (k ∷ []) L))
