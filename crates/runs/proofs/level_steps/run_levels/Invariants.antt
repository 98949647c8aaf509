-- `runs::level_steps::run_levels` meets its contract. The loop's invariant: levels, counts, charge and bounds are those of the steps done. Assumes nothing.
use Rattle.std.proofs.Common.{◌≡◌}
use Rattle.theory.specs.CountUp.{call_number}
use Rattle.runs.proofs.LevelRunning.{RunningLevels}
use Rattle.runs.proofs.level_steps.run_levels.Given as goal

abbrev pub invariant-loop : goal.invariant-loop
invariant-loop l = (call_number l.k l.initial.levels ≡ 0) × RunningLevels l.initial.levels l.counter l.levels l.counts l.charge l.widest l.largest
