-- `sheet::groups::levels_at` meets its contract: the row holds the first i levels. Assumes nothing.
use lib.ListN.{replicate}
use Rattle.theory.proofs.FilledRow.{Filled}
use Rattle.sheet.specs.Parts.{numbers}
use Rattle.sheet.proofs.groups.levels_at.Given as goal

abbrev pub invariant-loop-i : goal.invariant-loop-i
invariant-loop-i l = Filled (replicate 20 0) (numbers 2 l.n l.s l.from) l.n l.levels l.i
