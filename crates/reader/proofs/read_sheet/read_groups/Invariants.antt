-- `reader::read_sheet::read_groups` meets its contract: the first i groups are in the row, and the rest is read from `at` on. Assumes nothing.
use Rattle.sheet.specs.Sheet.{group}
use Rattle.sheet.specs.Held.{group_of, no_group}
use Rattle.reader.proofs.Loops.{Turns}
use Rattle.reader.proofs.read_sheet.read_groups.Given as goal

abbrev pub invariant-loop-place : goal.invariant-loop-place
invariant-loop-place l = Turns group_of l.count no_group (group l.s) l.count 1 l.place-items l.at l.place-index
