-- `uneven::lengths::Search::plan_lengths` meets its contract. Its measure is h and the symbols left. Assumes nothing.
use Prim.Native.Nat.{◌+◌, ◌-◌}
use lib.ListN.{length}
use Rattle.uneven.proofs.lengths.Search.+plan_lengths.Given as goal

abbrev pub decreases-plan_lengths : goal.decreases-plan_lengths
decreases-plan_lengths l = l.h + (length l.self.now.heavy.now - l.k)
