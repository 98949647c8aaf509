-- `layout::lines::put_commands` meets its contract: the lines of the commands up to i were put. Assumes nothing.
use lib.ListN.{take}
use Rattle.layout.specs.Text.{command_lines}
use Rattle.sheet.proofs.Putting.{Row}
use Rattle.layout.proofs.lines.put_commands.Given as goal

abbrev pub invariant-loop-i : goal.invariant-loop-i
invariant-loop-i l = Row (command_lines 1) (take l.fn.outcome.count l.fn.outcome.answers) 22 l.initial.text 0 l.text l.at l.i
