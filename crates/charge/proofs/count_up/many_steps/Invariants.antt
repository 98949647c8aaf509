-- `charge::count_up::many_steps` meets its contract: the levels have grown by the charge. Assumes nothing.
use Prim.Native.Nat.{◌+◌}
use Rattle.charge.proofs.Counting.{Counting}
use Rattle.charge.proofs.count_up.many_steps.Given as goal

abbrev pub invariant-loop-level : goal.invariant-loop-level
invariant-loop-level l = Counting l.initial.levels l.k (l.top + l.k) l.levels l.cells l.level
