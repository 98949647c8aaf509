-- `listing::lists::groups_in` meets its contract: the first i groups are in their row. Assumes nothing.
use lib.ListN.{length}
use Rattle.sheet.specs.Held.{no_group}
use Rattle.listing.specs.LentLists.{group_at}
use Rattle.listing.proofs.ListRows.{RowsFilled}
use Rattle.listing.proofs.lists.groups_in.Given as goal

abbrev pub invariant-loop-i : goal.invariant-loop-i
invariant-loop-i l = RowsFilled 64 no_group (group_at l.sizes l.levels) (length l.sizes) l.list l.i
