-- Demand 3 holds for every n from 2 on, and of count-up calls for n up to 20. Assumes nothing.
use mathlib.Core.Path.{◌≡◌, sym, ap, ◌∙◌, subst}
use mathlib.Core.List.{List}
use Prim.Native.Nat.{ℕ, ◌+◌, ◌≤◌}
use native.Mathlib.Omega.{arith}
use lib.ListN.{length}
use Rattle.theory.specs.Permutation.{IsPermutation}
use Rattle.theory.specs.Rank.{rank}
use Rattle.theory.specs.Zero.{value_from}
use Rattle.theory.specs.Levels.{highest, permutation_of, ReadsAs}
use Rattle.theory.specs.CountUp.{count_up}
use Rattle.theory.specs.Run.{steps, step_levels, after_calls, steps_done}
use Rattle.theory.specs.Demand3.{Start, Demand3}
use Rattle.theory.proofs.Cycle.{
  run_permutation,
  run_rank,
  run_different,
  run_return,
  count_pushed,
  count_others,
  count_step,
  run_balance,
  run_shares,
}
use Rattle.theory.proofs.Zero.{value_counted}
use Rattle.theory.proofs.Sorting.{reads_permutation_of, reads_untied, reads_is}
use Rattle.theory.proofs.LevelRun.{run_length, run_reads, run_highest, run_gap, run_jump, step_levels_add, count_up_run}
use Rattle.theory.proofs.Calls.{call_done, call_refused, calls_run, call_number_lem}

module _ (n : ℕ) (low : 2 ≤ n) (L : List ℕ) (s : Start n L) where
  xs : List ℕ
  xs = permutation_of L

  start_reads : ReadsAs L xs
  unfolding xs
  start_reads = reads_permutation_of L s.untied

  start_permutation : IsPermutation n xs
  start_permutation = subst (λ (m : ℕ). IsPermutation m xs) s.long start_reads.permutation

  module _ (ks : List ℕ) where
    K : ℕ
    K = steps_done ks L

    after : after_calls ks L ≡ step_levels n K xs L
    unfolding K
    after = calls_run n low s.few ks L xs s.long start_reads

    after_length : length (after_calls ks L) ≡ n
    after_length = ap length after ∙ run_length n low L xs s.long start_reads K

    after_reads : ReadsAs (after_calls ks L) (steps n K xs)
    after_reads = subst (λ (M : List ℕ). ReadsAs M (steps n K xs)) (sym after) (run_reads n low L xs s.long start_reads K)

    after_inside : (j : ℕ) → count_up j (after_calls ks L) ≡ step_levels n (K + j) xs L
    after_inside j =
        count_up_run n low j (after_calls ks L) (steps n K xs) after_length after_reads
        ∙ ap (step_levels n j (steps n K xs)) after ∙ step_levels_add n K j xs L

pub demand3 : (n : ℕ) → 2 ≤ n → Demand3 n
unfolding xs K
demand3 n low = record {
  permutation = run_permutation n low;
  ranks = run_rank n low;
  different = run_different n low;
  return = run_return n low;
  counts_pushed = count_pushed n;
  counts_others = count_others n;
  counts_step = count_step n;
  shares = run_shares n low;
  balance = run_balance n low;
  level_start = start_permutation n low;
  levels = after n low;
  highest_level = λ L s ks.
      ap highest (after n low L s ks)
      ∙ run_highest n low L (permutation_of L) s.long (start_reads n low L s) (steps_done ks L);
  read = λ L s ks. reads_is (after_reads n low L s ks);
  level_ranks = λ L s ks.
      ap (rank n) (reads_is (after_reads n low L s ks))
      ∙ run_rank n low (permutation_of L) (start_permutation n low L s) (steps_done ks L);
  level_values = λ z L s ks.
      ap (value_from n z) (reads_is (after_reads n low L s ks))
      ∙ value_counted n z low (permutation_of L) (start_permutation n low L s) (steps_done ks L);
  call_done = λ L s ks k.
      let size = after_length n low L s ks in
      call_done k (after_calls ks L) (omega arith) (omega (arith, s.few)) (reads_untied (after_reads n low L s ks));
  call_refused = λ L s ks k.
      let size = after_length n low L s ks in
      call_refused k (after_calls ks L) (omega arith) (omega (arith, s.few)) (reads_untied (after_reads n low L s ks));
  call_number_lem = call_number_lem;
  inside = after_inside n low;
  gap = λ L size g. run_gap n low L (permutation_of L) size (reads_permutation_of L g.untied) g;
  jumps = λ L size g. run_jump n low L (permutation_of L) size (reads_permutation_of L g.untied) g;
}
