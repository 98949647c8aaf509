-- `encoding::little::put_little` meets its contract: the low i bytes were put, and `left` is spelled by the others. Assumes nothing.
use Rattle.encoding.proofs.Spelling.{Spelling}
use Rattle.encoding.proofs.little.put_little.Given as goal

abbrev pub invariant-loop-byte : goal.invariant-loop-byte
invariant-loop-byte l = Spelling l.k l.x l.byte-items l.left l.byte-index
