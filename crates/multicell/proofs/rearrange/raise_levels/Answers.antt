-- `multicell::rearrange::raise_levels` meets its contract: the list is filled from its front. Assumes nothing.
use mathlib.Core.Path.{sym}
use Rattle.theory.proofs.FilledRow.{filled_more}
use Rattle.multicell.proofs.Changing.{raised_at}
use Rattle.multicell.proofs.rearrange.raise_levels.Goals as goal

pub loop-i-preserved : goal.loop-i-preserved
loop-i-preserved c =
    let more = c.loop-i-test.true in
    filled_more c.loop-i.invariant more 0 (sym (raised_at c.args.cost c.args.new.now c.loop-i.i more))
