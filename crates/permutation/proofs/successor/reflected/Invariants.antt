-- `permutation::successor::reflected` meets its contract: each turn puts the next name from the last into the row. Assumes nothing.
use lib.ListN.{replicate}
use Rattle.theory.specs.Successor.{smaller}
use Rattle.theory.proofs.FilledRow.{Filled}
use Rattle.permutation.proofs.successor.reflected.Given as goal

abbrev pub invariant-loop-i : goal.invariant-loop-i
invariant-loop-i l = Filled (replicate 20 0) (smaller l.names) l.n l.cells l.i
