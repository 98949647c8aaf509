-- `reader::read_sheet::sizes_of` meets its contract: the row holds the numbers of cells of the groups passed. Assumes nothing.
use mathlib.Core.List.{map}
use lib.ListN.{length, replicate}
use Rattle.theory.proofs.FilledRow.{Filled}
use Rattle.sheet.specs.Held.{groups_in}
use Rattle.reader.proofs.read_sheet.sizes_of.Given as goal

abbrev pub invariant-loop-g : goal.invariant-loop-g
invariant-loop-g l = Filled (replicate 64 0) (map length (groups_in l.groups)) l.groups.count l.sizes l.g
