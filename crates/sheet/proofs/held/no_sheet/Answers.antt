-- `sheet::held::no_sheet` meets its contract: its rows are blank. Assumes nothing.
use Rattle.sheet.specs.Held.{held_of}
use Rattle.sheet.proofs.held.no_sheet.Goals as goal

pub returns : goal.returns
unfolding held_of
returns c = rw (c.no_groups.ensures, c.old_zeros.ensures, c.no_entries.ensures)
