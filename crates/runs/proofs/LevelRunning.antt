-- A run of steps on levels: what holds when some of them were done, their charge too, and demand 3 of the whole. Assumes nothing.
use Rattle.std.proofs.Common.{◌≡◌, ℕ, zero, suc, ◌+◌, ◌-◌, ◌%◌, ◌<◌, ◌≤◌, max, List, length, get_or, set, replicate, sym, refl, ap, ◌∙◌, ap₂, add-one, arith, ne_eqb}
use Rattle.theory.specs.Factorial.{factorial}
use Rattle.theory.specs.Permutation.{IsPermutation, row, top}
use Rattle.theory.specs.Rank.{rank}
use Rattle.theory.specs.Levels.{highest, top_less_bottom, Gapless, read_number, permutation_of, ReadsAs, push_level, jump}
use Rattle.theory.specs.CountUp.{next_cell, count_up, ceiling_of, call_number, call_levels}
use Rattle.theory.specs.Run.{steps, step_levels}
use Rattle.theory.specs.Spent.{level_sum, Spends, call_charge}
use Rattle.theory.specs.Demand3.{Demand3}
use Rattle.theory.proofs.Sorting.{permutation_of_permutation, reads_permutation_of, reads_untied, reads_is}
use Rattle.theory.proofs.LevelRun.{run_length, run_reads, run_highest, next_top, count_up_run}
use Rattle.theory.proofs.Calls.{calling}
use Rattle.theory.proofs.Spent.{sum_fits, step_sum, spending}
use Rattle.theory.proofs.Demand3.{demand3}
use Rattle.ranking.specs.Answers.{rank_answer}
use Rattle.permutation.specs.declared.answers.Permutation.{Permutation}
use Rattle.permutation.specs.declared.answers.Permuted.{Permuted}
use Rattle.ranking.specs.declared.answers.Ranked.{Ranked}
use Rattle.ranking.specs.declared.zero.Zero.{Zero}
use Rattle.ranking.proofs.Values.{ranked_record}
use Rattle.charge.specs.Answers.{read_answer}
use Rattle.charge.proofs.ReadLevels.{number_is}
use Rattle.theory.proofs.Refusal.{or_else_done, Readable, readable, read_done, ceiling_room}
use Rattle.runs.specs.Steps.{push_counts, count_in, RunOf}
use Rattle.runs.specs.LevelSteps.{RanLevels, levels_after, value_read, widest, largest_raise, no_run, level_run_answer, LevelsOf}
use Rattle.runs.proofs.PushCounts.{Tallied, tallied, counts_none, counts_at}
use Rattle.runs.proofs.Running.{run_of}
use Rattle.runs.proofs.OneStep.{reading_record}

-- `done` steps from L left these levels, with these counts, this charge and these bounds on the way
pub record RunningLevels (L : List ℕ) (done : ℕ) (levels counts : List ℕ) (charge wide large : ℕ) : Type 0 where
  pub levels_are : levels ≡ levels_after done L
  pub counted : counts ≡ row (push_counts (length L) done (permutation_of L))
  pub widest_is : wide ≡ widest done L
  pub largest_is : large ≡ largest_raise done L
  pub spent : Spends L levels charge

-- the values of what is read before and after a run
pub run_values : {L : List ℕ} {k : ℕ} {L' : List ℕ} {r : ℕ} {counts : ℕ → ℕ} → Readable L → Readable L'
    → RunOf (length L) (permutation_of L) k (permutation_of L') r counts
    → (z : Zero) → value_read L' z ≡ record { number = 0; value = ((value_read L z).value + k) % factorial (length L) }
run_values before after run z = rw (reading_record before, reading_record after) (run.value_answers z)

-- a call by k would be done on L
module _ (L : List ℕ) (k : ℕ) (g : call_number k L ≡ 0) where
  past : (read_number L ≡ 0) × (ceiling_of L k ≡ 0)
  unfolding call_number
  past = or_else_done (read_number L) (ceiling_of L k) g

  few : 2 ≤ length L
  few = (readable past.0).few

  many : length L ≤ 20
  many = (readable past.0).many

  reads : ReadsAs L (permutation_of L)
  reads = reads_permutation_of L (readable past.0).untied

  d : Demand3 (length L)
  d = demand3 (length L) few

  start : IsPermutation (length L) (permutation_of L)
  start = reads.permutation

  pub levels_none : RunningLevels L 0 L (replicate 20 0) 0 0 0
  unfolding step_levels widest largest_raise
  levels_none = record {
    levels_are = refl;
    counted = counts_none (length L) few many (permutation_of L);
    widest_is = refl;
    largest_is = refl;
    spent = omega arith;
  }

  -- the levels after some of the steps
  module _ (done : ℕ) where
    long : length (levels_after done L) ≡ length L
    long = run_length (length L) few L (permutation_of L) refl reads done

    reads_after : ReadsAs (levels_after done L) (steps (length L) done (permutation_of L))
    reads_after = run_reads (length L) few L (permutation_of L) refl reads done

    highest_after : highest (levels_after done L) ≡ highest L + done
    highest_after = run_highest (length L) few L (permutation_of L) refl reads done

    pushed_next : next_cell (levels_after done L) ≡ top (steps (length L) (suc done) (permutation_of L))
    unfolding steps
    pushed_next = next_top long reads_after

  module _ (done : ℕ) (levels counts : List ℕ) (charge wide large : ℕ) (v : RunningLevels L done levels counts charge wide large) where
    pub levels_long : length levels ≡ length L
    levels_long = ap length v.levels_are ∙ long done

    -- a step more has room
    pub step_granted : done < k → call_number 1 levels ≡ 0
    step_granted more = rw v.levels_are
        (let size = long done in
        (calling 1 (levels_after done L)).done (omega (arith, few)) (omega (arith, many)) (reads_untied (reads_after done))
        (omega (arith, highest_after done, ceiling_room L k past.1)))

    pub charge_fits : done ≤ k → charge ≤ 1310700
    charge_fits within = omega (
      arith,
      v.spent,
      sum_fits levels (omega (arith, many, levels_long))
          (omega (arith, ap highest v.levels_are, highest_after done, ceiling_room L k past.1)),
    )

    -- by what the step did, and the levels that it left
    module _ (cell raise spread : ℕ) (levels' : List ℕ) (cell_is : cell ≡ next_cell levels) (raise_is : raise ≡ jump (next_cell levels) levels)
        (spread_is : spread ≡ top_less_bottom levels') (left : levels' ≡ push_level (next_cell levels) levels) where
      next_is : next_cell levels ≡ top (steps (length L) (suc done) (permutation_of L))
      next_is = ap next_cell v.levels_are ∙ pushed_next done

      step_tallied : Tallied (length L) (permutation_of L) done counts cell
      step_tallied = tallied (length L) few many (permutation_of L) done counts v.counted start cell (cell_is ∙ next_is)

      pub step_inside : (1 ≤ cell) × (cell ≤ 20) × (get_or counts (cell - 1) 0 ≤ done)
      step_inside = let t = step_tallied in (t.low, omega (arith, t.high, many), t.fits)

      left_is : levels' ≡ levels_after (suc done) L
      unfolding step_levels
      left_is = left ∙ ap₂ push_level next_is v.levels_are

      pub levels_more :
          RunningLevels L (done + 1) levels' (set counts (cell - 1) (get_or counts (cell - 1) 0 + 1)) (charge + raise) (max wide spread) (max large raise)
      unfolding widest largest_raise
      levels_more = rw (add-one done) (record {
        levels_are = left_is;
        counted = step_tallied.counted;
        widest_is = ap₂ max v.widest_is (spread_is ∙ ap top_less_bottom left_is);
        largest_is = ap₂ max v.largest_is (raise_is ∙ ap₂ jump next_is v.levels_are);
        spent = rw left (omega (arith, v.spent, raise_is, step_sum levels (omega (arith, few, levels_long))));
      })

  -- from levels without a gap
  widest_bound : Gapless L → (j : ℕ) → widest j L ≤ length L
  unfolding widest
  widest_bound gapless zero = omega arith
  widest_bound gapless (suc j) = omega (arith, widest_bound gapless j, d.gap L refl gapless (suc j))

  largest_bound : Gapless L → (j : ℕ) → largest_raise j L ≤ length L + 1
  unfolding largest_raise
  largest_bound gapless zero = omega arith
  largest_bound gapless (suc j) = omega (arith, largest_bound gapless j, d.jumps L refl gapless j)

  -- ---- all k steps were done; p is read from the levels, and r is its rank
  module _ (levels counts : List ℕ) (charge wide large : ℕ) (v : RunningLevels L k levels counts charge wide large) where
    still : Readable levels
    still = rw v.levels_are
        (let size = long k in
        record { few = omega (arith, few); many = omega (arith, many); untied = reads_untied (reads_after k) })

    -- neither the reading nor the rank is refused
    pub read_given : {a : Permuted} → a ≡ read_answer levels → a.number ≡ 0
    read_given e = number_is levels e ∙ read_done still

    ranked : (p : Permutation) → p ≡ (read_answer levels).permutation
        → rank_answer p ≡ record { number = 0; rank = rank (length levels) (permutation_of levels) }
    ranked p stands =
        ap rank_answer (stands ∙ reading_record still)
        ∙ ranked_record (length levels) (permutation_of levels) still.few still.many (permutation_of_permutation levels)

    pub rank_given : (p : Permutation) → p ≡ (read_answer levels).permutation → {a : Ranked} → a ≡ rank_answer p → a.number ≡ 0
    rank_given p stands e = ap (λ (a : Ranked). a.number) (e ∙ ranked p stands)

    module _ (p : Permutation) (r : ℕ) (stands : p ≡ (read_answer levels).permutation) (ranks : r ≡ (rank_answer p).rank) where
      is : r ≡ rank (length L) (permutation_of levels)
      is =
          ranks ∙ ap (λ (a : Ranked). a.rank) (ranked p stands)
          ∙ ap (λ (n : ℕ). rank n (permutation_of levels)) (levels_long k levels counts charge wide large v)

      counted_up : levels ≡ count_up k L
      counted_up = v.levels_are ∙ sym (count_up_run (length L) few k L (permutation_of L) refl reads)

      pub levels_left : levels ≡ call_levels k L
      levels_left = counted_up ∙ sym ((calling k L).counted g).1

      abbrev answer : RanLevels
      answer = record { number = 0; pushes = k; charge = charge; counts = counts; widest = wide; largest = large; rank = r }

      charge_is : charge ≡ call_charge k L
      charge_is = omega (arith, v.spent, ap level_sum levels_left, (spending L).call k)

      pub ran_levels_left : answer ≡ level_run_answer L k
      unfolding level_run_answer
      ran_levels_left = rw (charge_is, g, ((calling k L).counted g).0, v.counted, v.widest_is, v.largest_is, is, counted_up)

      ran : RunOf (length L) (permutation_of L) k (permutation_of levels) r (count_in counts)
      ran =
          run_of (length L) few many (permutation_of L) start k (permutation_of levels) r (count_in counts)
          (ap permutation_of v.levels_are ∙ reads_is (reads_after k)) is (counts_at (length L) few many (permutation_of L) k counts v.counted)

      pub levels_of_lem : LevelsOf L k levels answer
      levels_of_lem = record {
        pushes = refl;
        levels = counted_up;
        stepped = v.levels_are;
        highest_level = ap highest v.levels_are ∙ highest_after k;
        start = start;
        run = ran;
        value_read_lem = run_values (readable past.0) still ran;
        gap = λ gapless. rw v.widest_is (widest_bound gapless k);
        jumps = λ gapless. rw v.largest_is (largest_bound gapless k);
      }

-- a run that is refused
pub ran_levels_refused : (L : List ℕ) (k : ℕ) {a : RanLevels} {number : ℕ} → a ≡ no_run number → number ≡ call_number k L → (number ≡ 0 → ⊥)
    → (a ≡ level_run_answer L k) × ((L ≡ call_levels k L) × Spends L L a.charge)
unfolding level_run_answer
ran_levels_refused L k {number = number} is e h =
    let u = (calling k L).unchanged (λ z. h (e ∙ z)) in
    (is ∙ rw (u.0, (spending L).refused k (λ z. h (e ∙ z)), ← e, ne_eqb number 0 h), (sym u.1, rw is (omega arith)))
