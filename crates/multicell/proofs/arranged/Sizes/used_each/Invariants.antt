-- `multicell::arranged::Sizes::used_each` meets its contract: the pass keeps the tally of the cells that it met. Assumes nothing.
use Rattle.multicell.proofs.Tally.{Tally}
use Rattle.multicell.proofs.arranged.Sizes.used_each.Given as goal

abbrev pub invariant-loop-cell : goal.invariant-loop-cell
invariant-loop-cell l = Tally l.self.q l.self.z l.cells l.met l.cell-index
