-- `multicell::rearrange::rearrange` meets its contract: refused, nothing is altered; otherwise the new levels are raised by the least cost. Assumes nothing.
use mathlib.Core.Path.{◌≡◌, sym}
use lib.ListN.{length}
use Rattle.std.proofs.lemmas.Result.{err_from_is_err_and}
use Rattle.permutation.proofs.Refusals.{not_done}
use Rattle.multicell.specs.Answers.{rearrange_number}
use Rattle.multicell.proofs.Judging.{Judged, judged, job_refused, job_priced, job_raisable, job_done}
use Rattle.multicell.proofs.rearrange.rearrange.Goals as goal
use Rattle.multicell.proofs.rearrange.rearrange.Goals.{In_ok-judge}

pub returns-in_err-judge : goal.returns-in_err-judge
returns-in_err-judge c =
    let p = err_from_is_err_and c.from_residual.result c.from_residual.ensures.1 in
    let r = job_refused _ _ _ _ _ c.in_err-judge.ensures (not_done c.in_err-judge.field-0.0) in
    rw (p.1, p.2) (record { answer = r.0; list_left = r.1.0; least = r.1.1 })

-- past the test, the number is 0
none :
    (c : In_ok-judge) → let a = c.args in
    rearrange_number a.q a.z a.old.now a.new.now (length a.list.now) ≡ 0
none c = sym c.in_ok-judge.ensures

faultless :
    (c : In_ok-judge) → let a = c.args in
    Judged a.q a.z a.old.now a.new.now (length a.list.now)
faultless c = judged _ _ _ _ _ (none c)

pub cost_of-cost-requires : goal.cost_of-cost-requires
cost_of-cost-requires c = job_priced _ _ _ _ c.args.list.now (faultless (goal.at.cost_of-cost-requires c).In_ok-judge)

pub raise_levels-requires : goal.raise_levels-requires
raise_levels-requires c = job_raisable _ _ _ _ _ (faultless (goal.at.raise_levels-requires c).In_ok-judge) c.cost_of-cost.ensures

pub returns : goal.returns
returns c =
    let p = goal.at.returns c in
    let r = job_done _ _ _ _ _ (faultless p.In_ok-judge) c.cost_of-cost.ensures (none p.In_ok-judge) c.raise_levels.ensures in
    record { answer = r.0; list_left = r.1.0; least = r.1.1 }
