-- `uneven::row::uneven_row` meets its contract: each test decides the number, and past them the symbol's prefix leads the row. Assumes nothing.
use mathlib.Core.Path.{◌≡◌, sym}
use lib.ListN.{length}
use native.Mathlib.Omega.{arith}
use Rattle.std.proofs.lemmas.Result.{err_from_is_err_and}
use Rattle.permutation.proofs.Refusals.{not_done}
use Rattle.uneven.specs.Answers.{misfit, range_of}
use Rattle.uneven.proofs.Ranges.{Fitting, fitting, no_range, no_such_symbol, symbol_done, has_code}
use Rattle.uneven.proofs.UnevenRows.{row_refused, row_misfit, row_value, row_done}
use Rattle.uneven.proofs.row.uneven_row.Goals as goal
use Rattle.uneven.proofs.row.uneven_row.Goals.{In_ok-misfit, In_ok-range_number}

-- past the first test
fits : (c : In_ok-misfit) → let a = c.args in misfit a.n (length a.weights.now) a.m ≡ 0
fits c = sym c.in_ok-misfit.ensures

-- past the second
ranges : (c : In_ok-range_number) → let a = c.args in range_of a.n a.m ≡ 0
ranges c = sym c.in_ok-range_number.ensures

pub returns-in_err-misfit : goal.returns-in_err-misfit
returns-in_err-misfit c =
    let a = c.args in
    let p = err_from_is_err_and c.from_residual.result c.from_residual.ensures.1 in
    let ne = not_done c.in_err-misfit.field-0.0 in
    rw (p.1, p.2) (row_refused a.n a.weights.now a.m a.symbol (row_misfit a.n a.weights.now a.m a.symbol c.in_err-misfit.ensures ne) ne)

pub range_number-requires : goal.range_number-requires
range_number-requires c = let v : Fitting c.args.n c.args.weights.now c.args.m = fitting (fits (goal.at.range_number-requires c).In_ok-misfit) in omega (arith, v.many)

pub returns-in_err-range_number : goal.returns-in_err-range_number
returns-in_err-range_number c =
    let a = c.args in
    let p = err_from_is_err_and c.from_residual-in_err-range_number.result c.from_residual-in_err-range_number.ensures.1 in
    let ne = not_done c.in_err-range_number.field-0.0 in
    rw (p.1, p.2) (row_refused a.n a.weights.now a.m a.symbol
    (row_value a.n a.weights.now a.m a.symbol (fits (goal.at.returns-in_err-range_number c).In_ok-misfit) (no_range _ _ _ c.in_err-range_number.ensures ne)) ne)

pub returns-then-m-symbol : goal.returns-then-m-symbol
returns-then-m-symbol c =
    let a = c.args in
    row_refused a.n a.weights.now a.m a.symbol
    (row_value a.n a.weights.now a.m a.symbol (fits (goal.at.returns-then-m-symbol c).In_ok-misfit) (no_such_symbol _ _ _ (ranges (goal.at.returns-then-m-symbol c).In_ok-range_number) (omega (arith, c.if-m-symbol.true)))) (λ z. omega arith)

pub symbol_row-requires : goal.symbol_row-requires
symbol_row-requires c =
    let v : Fitting c.args.n c.args.weights.now c.args.m = fitting (fits (goal.at.symbol_row-requires c).In_ok-misfit) in
    (has_code v (ranges (goal.at.symbol_row-requires c).In_ok-range_number), omega (arith, v.entries, c.if-m-symbol.false))

pub returns : goal.returns
returns c =
    let a = c.args in
    row_done a.n a.weights.now a.m a.symbol (fits (goal.at.returns c).In_ok-misfit) (symbol_done _ _ _ (ranges (goal.at.returns c).In_ok-range_number) (omega (arith, c.if-m-symbol.false))) c.symbol_row.ensures
