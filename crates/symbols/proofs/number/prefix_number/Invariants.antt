-- `symbols::number::prefix_number` meets its contract. The loop's invariant: what was counted, on the cells that are left, is the whole number.
-- Assumes nothing.
use lib.ListN.{take}
use Rattle.symbols.proofs.PrefixDigits.{Counted}
use Rattle.symbols.proofs.number.prefix_number.Given as goal

abbrev pub invariant-loop-i : goal.invariant-loop-i
invariant-loop-i l = Counted l.n l.p (take l.n l.cells) l.i l.number
