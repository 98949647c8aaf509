-- `charge::judge::tied` meets its contract: the levels have a tie where those ahead have one. Assumes nothing.
use mathlib.Core.Path.{◌≡◌}
use lib.ListN.{drop}
use Rattle.theory.specs.Levels.{tied}
use Rattle.charge.proofs.judge.tied.Given as goal

abbrev pub invariant-loop-i : goal.invariant-loop-i
invariant-loop-i l = tied l.levels ≡ tied (drop l.i l.levels)
