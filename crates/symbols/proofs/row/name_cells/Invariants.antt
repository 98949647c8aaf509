-- `symbols::row::name_cells` meets its contract: each turn writes one more name over the row. Assumes nothing.
use Rattle.theory.specs.Lists.{names}
use Rattle.theory.proofs.FilledRow.{Filled}
use Rattle.symbols.proofs.row.name_cells.Given as goal

abbrev pub invariant-loop-i : goal.invariant-loop-i
invariant-loop-i l = Filled l.initial.cell-items (names l.n) l.n l.cell-items l.i
