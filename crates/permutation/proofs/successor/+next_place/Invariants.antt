-- `permutation::successor::next_place`, which calls itself, meets its contract; its measure is how many names there are. Assumes nothing.
use lib.ListN.{length}
use Rattle.permutation.proofs.successor.+next_place.Given as goal

abbrev pub decreases-next_place : goal.decreases-next_place
decreases-next_place l = length l.names.now
