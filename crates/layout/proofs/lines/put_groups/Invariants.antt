-- `layout::lines::put_groups` meets its contract: the lines of the groups up to g were put. Assumes nothing.
use Rattle.sheet.proofs.Putting.{Row}
use Rattle.layout.proofs.Pieces.{valued_lines, groups_valued}
use Rattle.layout.proofs.lines.put_groups.Given as goal

abbrev pub invariant-loop-g : goal.invariant-loop-g
invariant-loop-g l = Row (valued_lines 0) (groups_valued l.outcome) 146 l.initial.text l.from l.text l.at l.g
