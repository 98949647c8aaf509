-- `uneven::lengths::tail_sums` meets its contract: the sums from the last weight on. Assumes nothing.
use mathlib.Core.Path.{◌≡◌}
use Rattle.uneven.proofs.Tails.{TailsLeft}
use Rattle.uneven.proofs.lengths.tail_sums.Given as goal

abbrev pub invariant-loop-i : goal.invariant-loop-i
invariant-loop-i l = TailsLeft l.heavy l.tails l.i-iterator.iter.iter.rest.now × (l.i-iterator.iter.count ≡ 0)
