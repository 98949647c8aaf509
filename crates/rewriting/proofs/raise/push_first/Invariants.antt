-- `rewriting::raise::push_first` meets its contract: the cells left to push, on the present levels, give what all of them give. Assumes nothing.
use Rattle.rewriting.proofs.Raising.{Raising}
use Rattle.rewriting.proofs.raise.push_first.Given as goal

abbrev pub invariant-loop-i : goal.invariant-loop-i
invariant-loop-i l = Raising l.initial.levels l.cells l.r l.top l.levels l.had l.i
