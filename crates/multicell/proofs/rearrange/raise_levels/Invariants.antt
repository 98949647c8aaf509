-- `multicell::rearrange::raise_levels` meets its contract: the list is filled from its front. Assumes nothing.
use lib.ListN.{length}
use Rattle.theory.proofs.FilledRow.{Filled}
use Rattle.multicell.specs.Cost.{raised_levels}
use Rattle.multicell.proofs.rearrange.raise_levels.Given as goal

abbrev pub invariant-loop-i : goal.invariant-loop-i
invariant-loop-i l = Filled l.initial.list (raised_levels l.cost l.new) (length l.new) l.list l.i
