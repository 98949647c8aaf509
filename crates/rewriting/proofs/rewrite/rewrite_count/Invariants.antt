-- `rewriting::rewrite::rewrite_count` meets its contract: the cells gone through leave r of the target's. Assumes nothing.
use lib.ListN.{length}
use Rattle.rewriting.proofs.Sequence.{Crossing}
use Rattle.rewriting.proofs.rewrite.rewrite_count.Given as goal

abbrev pub invariant-loop-i : goal.invariant-loop-i
invariant-loop-i l = Crossing l.cells l.target (length l.cells) l.r l.i
