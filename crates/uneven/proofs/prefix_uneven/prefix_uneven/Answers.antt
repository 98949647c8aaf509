-- `uneven::prefix_uneven::prefix_uneven` meets its contract: the symbol's row, cleared past its prefix. Assumes nothing.
use mathlib.Core.Path.{refl}
use Rattle.std.proofs.lemmas.Result.{err_from_is_err_and}
use Rattle.uneven.proofs.UnevenRows.{row_lengths, row_cleared, prefix_by}
use Rattle.uneven.proofs.prefix_uneven.prefix_uneven.Goals as goal

pub returns-in_err-uneven_row : goal.returns-in_err-uneven_row
returns-in_err-uneven_row c =
    let a = c.args in
    let p = err_from_is_err_and c.from_residual.result c.from_residual.ensures.1 in
    rw (p.1, p.2) (record { answer = row_cleared a.n a.weights.now a.m a.symbol c.in_err-uneven_row.ensures refl; by_code = tt })

pub alone-requires : goal.alone-requires
alone-requires c = (row_lengths _ _ _ _ c.in_ok-uneven_row.ensures).0

pub returns : goal.returns
returns c =
    let a = c.args in
    let answer = row_cleared a.n a.weights.now a.m a.symbol c.in_ok-uneven_row.ensures refl in
    rw c.alone.ensures (record { answer = answer; by_code = prefix_by a.n a.weights.now a.m a.symbol answer refl })
