-- `permutation::successor::decide`, which calls itself, meets its contract; its measure is how many names there are. Assumes nothing.
use lib.ListN.{length}
use Rattle.permutation.proofs.successor.+decide.Given as goal

abbrev pub decreases-decide : goal.decreases-decide
decreases-decide l = length l.names.now
