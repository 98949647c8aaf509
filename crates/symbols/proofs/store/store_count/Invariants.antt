-- `symbols::store::store_count` meets its contract: the cells gone up are above all that come after them. Assumes nothing.
use mathlib.Core.Path.{◌≡◌}
use Rattle.symbols.proofs.Leading.{Going}
use Rattle.symbols.proofs.store.store_count.Given as goal

abbrev pub invariant-loop-i : goal.invariant-loop-i
invariant-loop-i l = Going l.along l.p l.bound l.i-iterator.iter.iter.rest.now × (l.i-iterator.iter.count ≡ 0)
