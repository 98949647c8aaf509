-- `symbols::prefix::prefix` meets its contract: the symbol's row, cleared past its prefix. Assumes nothing.
use mathlib.Core.Path.{refl}
use Rattle.std.proofs.lemmas.Result.{err_from_is_err_and}
use Rattle.symbols.proofs.Prefixing.{row_lengths, row_cleared}
use Rattle.symbols.proofs.prefix.prefix.Goals as goal

pub alone-requires : goal.alone-requires
alone-requires c = (row_lengths _ _ _ c.in_ok-prefix_row.ensures).0

pub returns-in_err-prefix_row : goal.returns-in_err-prefix_row
returns-in_err-prefix_row c =
    let p = err_from_is_err_and c.from_residual.result c.from_residual.ensures.1 in
    rw (p.1, p.2) (row_cleared _ _ _ c.in_err-prefix_row.ensures refl)

pub returns : goal.returns
returns c = rw c.alone.ensures (row_cleared _ _ _ c.in_ok-prefix_row.ensures refl)
