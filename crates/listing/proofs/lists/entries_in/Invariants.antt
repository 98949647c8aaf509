-- `listing::lists::entries_in` meets its contract: the first i commands are in their row. Assumes nothing.
use lib.ListN.{length}
use Rattle.sheet.specs.Held.{no_entry}
use Rattle.listing.specs.LentLists.{entry_at}
use Rattle.listing.proofs.ListRows.{RowsFilled}
use Rattle.listing.proofs.lists.entries_in.Given as goal

abbrev pub invariant-loop-i : goal.invariant-loop-i
invariant-loop-i l = RowsFilled 1000 no_entry (entry_at l.kinds l.groups l.numbers l.names) (length l.kinds) l.entries l.i
