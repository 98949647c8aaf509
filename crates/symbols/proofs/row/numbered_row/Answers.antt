-- `symbols::row::numbered_row` meets its contract: the names, then the prefix chosen among them. Assumes nothing.
use Rattle.symbols.proofs.PrefixRows.{chosen_row}
use Rattle.symbols.proofs.row.numbered_row.Goals as goal

pub returns : goal.returns
returns c =
    let pre = c.requires in
    chosen_row pre.0 c.name_cells.ensures _ _ (rw (← pre.2) pre.3) c.choose.ensures
