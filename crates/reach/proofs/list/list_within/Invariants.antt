-- `reach::list::list_within` meets its contract: what is listed, and then what is left, is the whole. Assumes nothing.
use mathlib.Core.List.{flatten}
use Prim.Native.Nat.{◌+◌}
use lib.ListN.{take}
use Rattle.reach.specs.Reach.{within_reach}
use Rattle.reach.specs.Led.{led}
use Rattle.reach.proofs.Pieces.{NumbersLeft}
use Rattle.reach.proofs.list.list_within.Given as goal

abbrev pub invariant-loop-d : goal.invariant-loop-d
invariant-loop-d l = NumbersLeft (led l.n l.cells 0) l.initial.list 0 (flatten (within_reach l.n (take l.n l.cells) l.r)) (l.r + 1) l.list l.at l.d
