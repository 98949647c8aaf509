-- `layout::lines::put_levels` meets its contract: the fields of the levels up to i were put, none longer than 6 bytes. Assumes nothing.
use Rattle.layout.specs.Text.{fields}
use Rattle.sheet.proofs.Putting.{Row}
use Rattle.layout.proofs.lines.put_levels.Given as goal

abbrev pub invariant-loop-level : goal.invariant-loop-level
invariant-loop-level l = Row fields l.levels 6 l.initial.text l.at l.text l.end l.level-index
