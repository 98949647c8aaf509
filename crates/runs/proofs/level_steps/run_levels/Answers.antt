-- `runs::level_steps::run_levels` meets its contract. The loop's invariant: levels, counts, charge and bounds are those of the steps done. Assumes nothing.
use Rattle.std.proofs.Common.{◌≡◌, ℕ, ◌+◌, ◌-◌, ◌≤◌, max, get_or, set, sym, refl, ap, subst, arith, rules}
use Rattle.std.proofs.lemmas.Result.{err_from_is_err_and}
use Rattle.permutation.specs.declared.answers.Permuted.{Permuted}
use Rattle.permutation.proofs.Refusals.{not_done}
use Rattle.ranking.specs.declared.answers.Ranked.{Ranked}
use Rattle.charge.specs.Counting.{Call, call_judged}
use Rattle.runs.proofs.LevelRunning.{RunningLevels, levels_none, step_granted, charge_fits, step_inside, levels_more}
use Rattle.runs.proofs.LevelRunning.{read_given, rank_given, ran_levels_left, levels_left, levels_of_lem, ran_levels_refused}
use Rattle.runs.proofs.level_steps.run_levels.Goals as goal
use Rattle.runs.proofs.level_steps.run_levels.Goals.{After-step_levels-stepped, After-read}

pub returns-in_err-judge_call : goal.returns-in_err-judge_call
unfolding call_judged
returns-in_err-judge_call c =
    let p = err_from_is_err_and c.from_residual.result c.from_residual.ensures.1 in
    let r = ran_levels_refused c.args.levels.now c.args.k refl (ap (λ (a : Call). a.number) c.in_err-judge_call.ensures) (not_done c.in_err-judge_call.field-0.0) in
    rw (p.1, p.2) (record { answer = r.0; levels_left = r.1.0; spent = r.1.1; demand3 = tt })

pub loop-init : goal.loop-init
unfolding call_judged
loop-init c =
    let g = sym (ap (λ (a : Call). a.number) c.in_ok-judge_call.ensures) in
    (g, levels_none _ _ g)

pub step_levels-stepped-requires : goal.step_levels-stepped-requires
step_levels-stepped-requires c = let inv = c.loop.invariant in step_granted _ _ inv.0 _ _ _ _ _ _ inv.1 (omega arith)

-- the step that a turn does
counted : (c : After-step_levels-stepped)
    → let cell = c.step_levels-stepped.result.cell in
    (1 ≤ cell) × (cell ≤ 20) × (get_or c.loop.counts (cell - 1) 0 ≤ c.loop.counter)
counted c =
    let inv = c.loop.invariant in
    let e = c.step_levels-stepped.ensures in
    step_inside _ _ inv.0 _ _ _ _ _ _ inv.1 _ _ _ _ e.cell_pushed e.raised_by e.spread_left e.levels_left

pub overflow_sub-counts : goal.overflow_sub-counts
overflow_sub-counts c = (counted (goal.at.overflow_sub-counts c).After-step_levels-stepped).0

pub offset_bounds-counts-stepped : goal.offset_bounds-counts-stepped
offset_bounds-counts-stepped c = omega (arith, (counted (goal.at.offset_bounds-counts-stepped c).After-step_levels-stepped).1)

pub bounds-counts-stepped : goal.bounds-counts-stepped
bounds-counts-stepped c = let b = counted (goal.at.bounds-counts-stepped c).After-step_levels-stepped in omega (arith, b.0, b.1)

pub overflow_add-counts : goal.overflow_add-counts
overflow_add-counts c = omega (arith, (counted (goal.at.overflow_add-counts c).After-step_levels-stepped).2)

pub bounds-counts-stepped-in-loop : goal.bounds-counts-stepped-in-loop
bounds-counts-stepped-in-loop c = let b = counted (goal.at.bounds-counts-stepped-in-loop c).After-step_levels-stepped in omega (arith, b.0, b.1)

-- what the turn leaves
stepped : (c : After-step_levels-stepped)
    → let e = c.step_levels-stepped in let l = c.loop in
    let cell = e.result.cell in
    RunningLevels c.args.levels.now (l.counter + 1) e.new.levels (set l.counts (cell - 1) (get_or l.counts (cell - 1) 0 + 1))
    (l.charge + e.result.raise) (max l.widest e.result.spread) (max l.largest e.result.raise)
stepped c =
    let inv = c.loop.invariant in
    let e = c.step_levels-stepped.ensures in
    levels_more _ _ inv.0 _ _ _ _ _ _ inv.1 _ _ _ _ e.cell_pushed e.raised_by e.spread_left e.levels_left

pub overflow_add-charge : goal.overflow_add-charge
overflow_add-charge c =
    let fits = charge_fits _ _ c.loop.invariant.0 _ _ _ _ _ _ (stepped (goal.at.overflow_add-charge c).After-step_levels-stepped) (omega arith) in
    omega (arith, fits, c.from-charge.ensures)

pub loop-preserved : goal.loop-preserved
loop-preserved c =
    let more = stepped (goal.at.loop-preserved c).After-step_levels-stepped in
    let wide : c.max-widest.result ≡ max c.loop.widest c.step_levels-stepped.result.spread = search rules in
    let large : c.max-largest.result ≡ max c.loop.largest c.step_levels-stepped.result.raise = search rules in
    (c.loop.invariant.0, rw (wide, large, c.from-charge.ensures) more)

-- past the loop all steps were done
ran : (c : After-read) → let l = c.loop in RunningLevels c.args.levels.now c.args.k l.levels l.counts l.charge l.widest l.largest
ran c =
    let l = c.loop in
    let all : l.counter ≡ c.args.k = omega arith in
    subst (λ (j : ℕ). RunningLevels c.args.levels.now j l.levels l.counts l.charge l.widest l.largest) all l.invariant.1

pub returns-in_err-standing : goal.returns-in_err-standing
returns-in_err-standing c =
    absurd (not_done c.in_err-standing.field-0.0
    (read_given _ _ c.loop.invariant.0 _ _ _ _ _ (ran (goal.at.returns-in_err-standing c).After-read) c.in_err-standing.ensures))

pub returns-in_err-rank : goal.returns-in_err-rank
returns-in_err-rank c =
    let stands = ap (λ (a : Permuted). a.permutation) c.in_ok-standing.ensures in
    absurd (not_done c.in_err-rank.field-0.0
    (rank_given _ _ c.loop.invariant.0 _ _ _ _ _ (ran (goal.at.returns-in_err-rank c).After-read) _ stands c.in_err-rank.ensures))

pub returns : goal.returns
returns c =
    let g = c.loop.invariant.0 in
    let v = ran (goal.at.returns c).After-read in
    let stands = ap (λ (a : Permuted). a.permutation) c.in_ok-standing.ensures in
    let ranks = ap (λ (a : Ranked). a.rank) c.in_ok-rank.ensures in
    record {
      answer = ran_levels_left _ _ g _ _ _ _ _ v _ _ stands ranks;
      levels_left = levels_left _ _ g _ _ _ _ _ v _ _ stands ranks;
      spent = v.spent;
      demand3 = levels_of_lem _ _ g _ _ _ _ _ v _ _ stands ranks;
    }
