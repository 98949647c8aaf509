-- `symbols::row::prefix_row` meets its contract: each test decides the number, and past them the symbol's prefix leads the row. Assumes nothing.
use mathlib.Core.Path.{◌≡◌, sym}
use mathlib.Core.Logic.{inl, inr}
use native.Mathlib.Omega.{arith}
use Rattle.std.proofs.lemmas.Result.{err_from_is_err_and}
use Rattle.theory.specs.Refusal.{size_of}
use Rattle.theory.proofs.Refusal.{size_range}
use Rattle.permutation.proofs.Refusals.{not_done}
use Rattle.symbols.specs.Answers.{code_number}
use Rattle.symbols.proofs.Prefixing.{Coded, row_refused, size_reason, too_large, no_symbol, short, fits, row_done}
use Rattle.symbols.proofs.row.prefix_row.Goals as goal
use Rattle.symbols.proofs.row.prefix_row.Goals.{In_ok-size_within, Else-m-symbol}

pub returns-in_err-size_within : goal.returns-in_err-size_within
returns-in_err-size_within c =
    let p = err_from_is_err_and c.from_residual.result c.from_residual.ensures.1 in
    let ne = not_done c.in_err-size_within.field-0.0 in
    rw (p.1, p.2) (row_refused _ _ _ (size_reason _ _ _ c.in_err-size_within.ensures.number ne) ne)

-- past the first test n is in its range
sized : (c : In_ok-size_within) → size_of c.args.n ≡ 0
sized c = sym c.in_ok-size_within.ensures.number

pub returns-then-small_factorial-m : goal.returns-then-small_factorial-m
returns-then-small_factorial-m c =
    let a = c.args in
    let size = sized (goal.at.returns-then-small_factorial-m c).In_ok-size_within in
    let value : 5 ≡ code_number a.n a.m a.symbol = elim c.then-small_factorial-m.either [
      | inl many ↦ too_large _ _ _ size (omega (arith, c.small_factorial.ensures))
      | inr none ↦ no_symbol _ _ _ size none.1
    ] in
    row_refused _ _ _ value (λ z. omega arith)

-- past the tests
codes : (c : Else-m-symbol) → let a = c.args in Coded a.n a.m a.symbol
codes c =
    let range = size_range _ (sized (goal.at.Else-m-symbol c).In_ok-size_within) in
    record { few = range.0; many = range.1; most = omega (arith, c.if-small_factorial-m.false, c.small_factorial.ensures); below = omega arith }

pub falling_factorial-count-requires : goal.falling_factorial-count-requires
falling_factorial-count-requires c =
    let v = codes (goal.at.falling_factorial-count-requires c).Else-m-symbol in
    (v.many, short v c.prefix_length-length.ensures)

pub numbered_row-cells-requires : goal.numbered_row-cells-requires
numbered_row-cells-requires c =
    let v = codes (goal.at.numbered_row-cells-requires c).Else-m-symbol in
    let e = c.prefix_length-length.ensures in
    (v.many, short v e, c.falling_factorial-count.ensures, rw c.falling_factorial-count.ensures (fits v e))

pub returns : goal.returns
returns c = row_done (codes (goal.at.returns c).Else-m-symbol) c.prefix_length-length.ensures c.numbered_row-cells.ensures
