-- `permutation::validity::spots_into` meets its contract. The loop's invariant: the names of the first places were met. Assumes nothing.
use lib.ListN.{length, take}
use Rattle.permutation.proofs.Meeting.{Met}
use Rattle.permutation.proofs.validity.spots_into.Given as goal

abbrev pub invariant-loop-name : goal.invariant-loop-name
invariant-loop-name l = Met (length l.names) (take l.name-index l.names) l.spots l.seen
