-- `runs::steps::run_steps` meets its contract. The loop's invariant: the record, the counts and the tests are those of the steps done. Assumes nothing.
use Rattle.std.proofs.Common.{◌≡◌, ℕ, refl, sym, ap, subst, arith, rules}
use Rattle.std.proofs.lemmas.Result.{err_from_is_err_and}
use Rattle.permutation.specs.Records.{list_of}
use Rattle.permutation.specs.Answers.{successor_answer}
use Rattle.permutation.specs.declared.answers.Permuted.{Permuted}
use Rattle.permutation.specs.declared.answers.Placed.{Placed}
use Rattle.ranking.specs.declared.answers.Ranked.{Ranked}
use Rattle.permutation.proofs.Refusals.{not_done}
use Rattle.permutation.proofs.Records.{sound}
use Rattle.runs.proofs.PushCounts.{Tallied}
use Rattle.runs.proofs.Running.{Running, running_none, asked_done, pushed_done, ranked_done, step_tallied, running_more, ran_done, run_record, run_tests, ran_refused}
use Rattle.runs.proofs.steps.run_steps.Goals as goal
use Rattle.runs.proofs.steps.run_steps.Goals.{After-from-cell}

pub returns-in_err-successor : goal.returns-in_err-successor
unfolding successor_answer
returns-in_err-successor c =
    let p = err_from_is_err_and c.from_residual.result c.from_residual.ensures.1 in
    let number = ap (λ (a : Placed). a.number) c.in_err-successor.ensures in
    rw (p.1, p.2) (record {
      answer = ran_refused c.args.permutation c.args.k _ number (not_done c.in_err-successor.field-0.0);
      demand3 = tt;
      tests = tt;
    })

pub loop-init : goal.loop-init
unfolding successor_answer
loop-init c =
    let s = sound c.args.permutation (search rules) (sym (ap (λ (a : Placed). a.number) c.in_ok-successor.ensures)) in
    (s, running_none c.args.permutation s)

-- no job of the run is refused
pub returns-in_err-next : goal.returns-in_err-next
returns-in_err-next c =
    let v = c.loop.invariant in
    absurd (not_done c.in_err-next.field-0.0 (asked_done c.args.permutation v.0 _ _ _ _ v.1 c.in_err-next.ensures))

pub returns-in_err-current : goal.returns-in_err-current
returns-in_err-current c =
    let v = c.loop.invariant in
    absurd (not_done c.in_err-current.field-0.0 (pushed_done c.args.permutation v.0 _ _ _ _ v.1 _ c.in_ok-next.ensures c.in_err-current.ensures))

pub returns-in_err-rank : goal.returns-in_err-rank
returns-in_err-rank c =
    let v = c.loop.invariant in
    absurd (not_done c.in_err-rank.field-0.0 (ranked_done c.args.permutation v.0 _ _ _ _ v.1 c.in_err-rank.ensures))

-- the step that the turn does
counted : (c : After-from-cell)
    → let p = c.args.permutation in
    Tallied p.n (list_of p) c.loop.counter c.loop.counts c.from-cell.result
counted c =
    let v = c.loop.invariant in
    step_tallied c.args.permutation v.0 _ _ _ _ v.1 _ c.in_ok-next.ensures
    _ (ap (λ (a : Permuted). a.permutation) c.in_ok-current.ensures) _ c.from-cell.ensures

pub overflow_sub-counts : goal.overflow_sub-counts
overflow_sub-counts c = (counted (goal.at.overflow_sub-counts c).After-from-cell).low

pub bounds-counts-cell : goal.bounds-counts-cell
bounds-counts-cell c =
    let t = counted (goal.at.bounds-counts-cell c).After-from-cell in omega (arith, t.low, t.high, c.loop.invariant.0.many)

pub overflow_add-counts : goal.overflow_add-counts
overflow_add-counts c = let t = counted (goal.at.overflow_add-counts c).After-from-cell in omega (arith, t.fits)

pub bounds-counts-cell-in-loop : goal.bounds-counts-cell-in-loop
bounds-counts-cell-in-loop c =
    let t = counted (goal.at.bounds-counts-cell-in-loop c).After-from-cell in omega (arith, t.low, t.high, c.loop.invariant.0.many)

pub loop-preserved : goal.loop-preserved
loop-preserved c =
    let v = c.loop.invariant in (
      v.0,
      running_more c.args.permutation v.0 _ _ _ _ v.1 _ c.in_ok-next.ensures
          _ (ap (λ (a : Permuted). a.permutation) c.in_ok-current.ensures) _ c.from-cell.ensures _ refl,
    )

pub returns : goal.returns
returns c =
    let p = c.args.permutation in
    let s = c.loop.invariant.0 in
    let is = ap (λ (a : Ranked). a.rank) c.in_ok-rank.ensures in
    let done : c.loop.counter ≡ c.args.k = omega arith in
    let v = subst (λ (j : ℕ). Running p j c.loop.current c.loop.counts c.loop.tests) done c.loop.invariant.1 in
    record { answer = ran_done p s _ _ _ _ v _ is; demand3 = run_record p s _ _ _ _ v _ is; tests = run_tests p s _ _ _ _ v _ is }
