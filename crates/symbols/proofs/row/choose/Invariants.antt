-- `symbols::row::choose` meets its contract: each turn takes one digit of s and puts the name that it chooses behind those chosen before.
-- Assumes nothing.
use Rattle.symbols.proofs.Choosing.{Choosing}
use Rattle.symbols.proofs.row.choose.Given as goal

abbrev pub invariant-loop-i : goal.invariant-loop-i
invariant-loop-i l = Choosing l.n l.p l.s l.initial.cells l.cells l.weight l.rest l.i
