-- `charge::count_up::few_steps` meets its contract: the charge is what the levels have more than at first. Assumes nothing.
use mathlib.Core.Path.{◌≡◌}
use Prim.Native.Nat.{◌+◌}
use Rattle.theory.specs.Spent.{level_sum}
use Rattle.charge.proofs.Counting.{Counting}
use Rattle.charge.proofs.count_up.few_steps.Given as goal

abbrev pub invariant-loop-level : goal.invariant-loop-level
invariant-loop-level l =
    Counting l.initial.levels l.k (l.top + l.k) l.levels l.cells l.level × (level_sum l.levels ≡ level_sum l.initial.levels + l.charge)
