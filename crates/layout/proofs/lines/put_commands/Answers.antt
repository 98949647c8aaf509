-- `layout::lines::put_commands` meets its contract: the lines of the commands up to i were put. Assumes nothing.
use Rattle.sheet.proofs.Putting.{row_start, row_next}
use Rattle.layout.proofs.Pieces.{commands_grow}
use Rattle.layout.proofs.lines.put_commands.Goals as goal

pub loop-i-init : goal.loop-i-init
loop-i-init c = row_start commands_grow _ _ _ _

pub loop-i-preserved : goal.loop-i-preserved
loop-i-preserved c =
    row_next commands_grow _ _ _ _ c.loop-i.invariant c.loop-i-test.true _ c.put_command-at.ensures.puts c.put_command-at.ensures.short
