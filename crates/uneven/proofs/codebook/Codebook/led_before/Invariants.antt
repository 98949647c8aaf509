-- `uneven::codebook::Codebook::led_before` meets its contract. Assumes nothing.
use Rattle.uneven.proofs.Totals.{Led}
use Rattle.uneven.proofs.codebook.Codebook.led_before.Given as goal

abbrev pub invariant-loop-length : goal.invariant-loop-length
invariant-loop-length l = Led l.n l.self.lengths l.k l.led l.length-index
