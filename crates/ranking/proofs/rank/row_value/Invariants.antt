-- `ranking::rank::row_value` meets its contract. The loop's invariant: the sum is that of the digits read so far. Assumes nothing.
use lib.ListN.{length}
use Rattle.ranking.proofs.Values.{Summed}
use Rattle.ranking.proofs.rank.row_value.Given as goal

abbrev pub invariant-loop-digit : goal.invariant-loop-digit
invariant-loop-digit l = Summed l.fn.row l.n (length l.yielded) l.rank
