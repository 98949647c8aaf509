-- `runs::calls::run_calls` meets its contract. The loop's invariant: levels, numbers, pushes and charge are those of the calls made. Assumes nothing.
use Rattle.std.proofs.Common.{◌≡◌, ◌+◌, ◌≤◌, set, refl, sym, ◌∙◌, arith}
use Rattle.charge.specs.Answers.{as_pushes}
use Rattle.runs.proofs.Given.{pushes_number}
use Rattle.runs.proofs.Calling.{Made, made_none, made_more, called_done, calls_of, called_refused}
use Rattle.runs.proofs.calls.run_calls.Goals as goal
use Rattle.runs.proofs.calls.run_calls.Goals.{After-number_in, in-Ok, in_default}

pub returns-then-numbers-counts : goal.returns-then-numbers-counts
returns-then-numbers-counts c =
    let b = called_refused c.args.levels.now c.args.counts.now c.args.numbers.now refl c.if-numbers-counts.true in
    record { answer = b.0; levels_left = b.1.0; numbers_left = b.1.1.0; spent = b.1.1.1; demand3 = tt }

pub loop-i-init : goal.loop-i-init
loop-i-init c = made_none c.if-numbers-counts.false

-- the call that a turn makes, as C gets it
made : (c : After-number_in)
    → let a = c.args in
    let answer = as_pushes c.count_up-call.result in
    (c.loop-i.pushes + answer.pushes ≤ 65535)
    × (c.loop-i.charge + answer.charge ≤ 1310700)
    × Made a.levels.now a.counts.now a.numbers.now (c.loop-i.i + 1) c.count_up-call.new.levels
    (set c.loop-i.numbers c.loop-i.i c.number_in.result) (c.loop-i.pushes + answer.pushes) (c.loop-i.charge + answer.charge)
made c =
    let call = c.count_up-call in
    let number : c.number_in.result ≡ (as_pushes call.result).number = c.number_in.ensures ∙ sym (pushes_number call.result) in
    rw number (made_more c.loop-i.invariant c.loop-i-test.true (as_pushes call.result) _ call.ensures.answer call.ensures.levels_left)

pub overflow_add-pushes : goal.overflow_add-pushes
overflow_add-pushes c = let m = rw c.in-Ok.is at (made (goal.at.overflow_add-pushes c).After-number_in) in omega (arith, m.0)

pub overflow_add-charge : goal.overflow_add-charge
overflow_add-charge c = let m = rw c.in-Ok.is at (made (goal.at.overflow_add-charge c).After-number_in) in omega (arith, m.1)

pub loop-i-preserved : goal.loop-i-preserved
loop-i-preserved c =
    let l = c.loop-i in
    let next = (made (goal.at.loop-i-preserved c).After-number_in).2 in
    let same : l.pushes + 0 ≡ l.pushes = omega arith in
    let free : l.charge + 0 ≡ l.charge = omega arith in
    elim c.match-call.branch [
      | in-Ok w ↦ rw (w.pushes-is, w.charge-is) (rw w.in-Ok.is at next)
      | in_default w ↦ rw (w.pushes-is, w.charge-is) (rw (same, free) at (rw w.in_default.is at next))
    ]

pub returns : goal.returns
returns c =
    let v = c.loop-i.invariant in
    let all = c.loop-i-test.false in
    let b = called_done v all refl in
    record { answer = b.0; levels_left = b.1.0; numbers_left = b.1.1.0; spent = b.1.1.1; demand3 = calls_of v all }
