-- `charge::count_up::count_up` meets its contract: the call is judged, and where it is done the steps are. Assumes nothing.
use mathlib.Core.Path.{refl, ap}
use native.Mathlib.Omega.{arith}
use Rattle.std.proofs.lemmas.Result.{err_from_is_err_and}
use Rattle.theory.specs.CountUp.{count_up, call_levels}
use Rattle.theory.specs.Spent.{charge_of, count_up_pushes}
use Rattle.permutation.proofs.Refusals.{not_done}
use Rattle.charge.specs.Answers.{done_pushes, call_answer}
use Rattle.charge.specs.Counting.{Call, call_judged}
use Rattle.charge.proofs.Sorting.{sorted_row}
use Rattle.charge.proofs.Numbers.{Granted, judged_granted, pushes_refused, pushes_done, with_spent, call_spends}
use Rattle.charge.proofs.count_up.count_up.Goals as goal
use Rattle.charge.proofs.count_up.count_up.Goals.{In_ok-top}

-- past the test the call is done
call : (c : In_ok-top)
    → let a = c.args in Granted a.k a.levels.now c.in_ok-top.top
call c = judged_granted _ _ c.in_ok-top.ensures refl

pub returns-in_err-top : goal.returns-in_err-top
unfolding call_judged call_answer call_levels
returns-in_err-top c =
    let a = c.args in
    let p = with_spent a.levels.now (call_spends a.k a.levels.now)
    (pushes_refused a.k (charge_of (count_up_pushes a.k a.levels.now) a.levels.now) a.levels.now (count_up a.k a.levels.now) refl
    (ap (λ (a : Call). a.number) c.in_err-top.ensures) (not_done c.in_err-top.field-0.0)) in
    let e = err_from_is_err_and c.from_residual.result c.from_residual.ensures.1 in
    rw (e.1, e.2) (record { answer = p.0; levels_left = p.1.0; spent = p.1.1 })

pub sort_cells-requires : goal.sort_cells-requires
sort_cells-requires c = (call (goal.at.sort_cells-requires c).In_ok-top).faultless.many

pub overflow_cast-k : goal.overflow_cast-k
overflow_cast-k c = record { fits = omega (arith, (call (goal.at.overflow_cast-k c).In_ok-top).room) }

pub count_steps-charge-requires : goal.count_steps-charge-requires
count_steps-charge-requires c =
    let g = call (goal.at.count_steps-charge-requires c).In_ok-top in
    record {
      few = g.faultless.few;
      many = g.faultless.many;
      untied = g.faultless.untied;
      cells_are = sorted_row _ g.faultless.many c.sort_cells.ensures;
      top_is = g.top_is;
      room = g.room;
    }

pub returns : goal.returns
unfolding call_answer call_levels
returns c =
    let a = c.args in
    let counted = c.count_steps-charge.ensures in
    let p = with_spent a.levels.now (call_spends a.k a.levels.now)
    (pushes_done a.k _ _ (count_up a.k a.levels.now) (ap (done_pushes a.k) counted.charge_is)
    (call (goal.at.returns c).In_ok-top).number counted.levels) in
    record { answer = p.0; levels_left = p.1.0; spent = p.1.1 }
