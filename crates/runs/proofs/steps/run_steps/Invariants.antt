-- `runs::steps::run_steps` meets its contract. The loop's invariant: the record, the counts and the tests are those of the steps done. Assumes nothing.
use Rattle.permutation.proofs.Records.{Sound}
use Rattle.runs.proofs.Running.{Running}
use Rattle.runs.proofs.steps.run_steps.Given as goal

abbrev pub invariant-loop : goal.invariant-loop
invariant-loop l = Sound l.initial.current × Running l.initial.current l.counter l.current l.counts l.tests
