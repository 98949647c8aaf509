-- `listing::lists::entries_in` meets its contract: the first i commands are in their row. Assumes nothing.
use Rattle.sheet.specs.Held.{no_entry}
use Rattle.listing.proofs.ListRows.{row_cut, rows_none, rows_more, rows_all}
use Rattle.listing.proofs.lists.entries_in.Goals as goal

pub loop-i-init : goal.loop-i-init
loop-i-init c = rows_none 1000 no_entry _ _ c.no_entries-entries.ensures

pub loop-i-preserved : goal.loop-i-preserved
loop-i-preserved c =
    rows_more c.loop-i.invariant c.within-i-end.ensures c.loop-i-test.true (rw (c.command_of.ensures, c.copy_from_slice.ensures.after, row_cut c.loop-i.i c.args.names.now))

pub returns : goal.returns
returns c = rows_all c.loop-i.invariant c.within-i-end.ensures c.loop-i-test.false
