-- `runs::calls::run_calls` meets its contract. The loop's invariant: levels, numbers, pushes and charge are those of the calls made. Assumes nothing.
use Rattle.runs.proofs.Calling.{Made}
use Rattle.runs.proofs.calls.run_calls.Given as goal

abbrev pub invariant-loop-i : goal.invariant-loop-i
invariant-loop-i l = Made l.initial.levels l.counts l.initial.numbers l.i l.levels l.numbers l.pushes l.charge
