-- `sheet::commands::names_at` meets its contract: the names are copied over the first of twenty zeros. Assumes nothing.
use Rattle.theory.proofs.FilledRow.{over_row}
use Rattle.sheet.specs.Parts.{numbers}
use Rattle.sheet.proofs.ByteNumbers.{names_copied, numbers_length}
use Rattle.sheet.proofs.commands.names_at.Goals as goal

pub returns : goal.returns
returns c =
    let a = c.args in
    let names = names_copied a.s.now a.from a.n c.requires.1 in
    rw (c.copy_from_slice.ensures.after, names)
    (over_row 20 0 (numbers 1 a.n a.s.now a.from) (numbers_length a.s.now 1 a.n a.from) c.requires.0)
