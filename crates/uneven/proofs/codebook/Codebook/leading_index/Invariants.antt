-- `uneven::codebook::Codebook::leading_index` meets its contract. Assumes nothing.
use Prim.Native.Nat.{◌≤◌}
use Rattle.uneven.proofs.Totals.{Led}
use Rattle.uneven.proofs.codebook.Codebook.leading_index.Given as goal

abbrev pub invariant-loop-k : goal.invariant-loop-k
invariant-loop-k l = Led l.n l.self.lengths l.m l.led l.k × (l.led ≤ l.number)
