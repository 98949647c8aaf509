-- `symbols::store::levels_along` meets its contract: the row is filled with the levels of the cells in their sequence. Assumes nothing.
use mathlib.Core.List.{map}
use lib.ListN.{length, take, replicate}
use Rattle.theory.specs.Levels.{level}
use Rattle.theory.proofs.FilledRow.{Filled}
use Rattle.symbols.proofs.store.levels_along.Given as goal

abbrev pub invariant-loop-i : goal.invariant-loop-i
invariant-loop-i l = Filled (replicate 20 0) (map (level l.levels) (take (length l.levels) l.cells)) (length l.levels) l.along l.i
