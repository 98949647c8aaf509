-- `listing::zeros::zeros_in` meets its contract: the first i zeros are in their row. Assumes nothing.
use Rattle.ranking.specs.declared.zero.Zero.TheVariants.{Old}
use Rattle.listing.specs.LentLists.{zero_in}
use Rattle.listing.proofs.ListRows.{RowsFilled}
use Rattle.listing.proofs.zeros.zeros_in.Given as goal

abbrev pub invariant-loop-i : goal.invariant-loop-i
invariant-loop-i l = RowsFilled 64 Old (zero_in l.zeros) l.fn.total l.row l.i
