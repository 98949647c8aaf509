-- `symbols::read_symbol::leading_symbol` meets its contract: the prefix's number is the symbol, or it is idle. Assumes nothing.
use mathlib.Core.Path.{◌≡◌, ◌∙◌}
use native.Mathlib.Omega.{arith}
use borrow.Author.Rules.{rules}
use Rattle.theory.specs.Prefix.{symbol_of}
use Rattle.permutation.specs.Records.{list_of}
use Rattle.permutation.proofs.Records.{sound}
use Rattle.permutation.proofs.Refusals.{not_done}
use Rattle.permutation.proofs.Checking.{check_number}
use Rattle.symbols.proofs.Symbols.{row_spots, code_short, symbol_is, code_read_idle, code_read_done}
use Rattle.symbols.proofs.read_symbol.leading_symbol.Goals as goal
use Rattle.symbols.proofs.read_symbol.leading_symbol.Goals.{After-prefix_number-symbol}

-- the check of a permutation is not refused
pub returns-in_err-spots : goal.returns-in_err-spots
returns-in_err-spots c = absurd (not_done c.in_err-spots.field-0.0 (check_number _ c.in_err-spots.ensures ∙ c.requires.0))

pub prefix_number-symbol-requires : goal.prefix_number-symbol-requires
prefix_number-symbol-requires c =
    row_spots (sound c.args.permutation (search rules) c.requires.0) (search rules) c.in_ok-spots.ensures (code_short _ _ c.requires.1 c.requires.2)

found : (c : After-prefix_number-symbol)
    → let a = c.args in
    c.prefix_number-symbol.result ≡ symbol_of a.permutation.n a.m (list_of a.permutation)
found c = symbol_is _ _ _ c.prefix_number-symbol.ensures c.requires.2

pub returns-then-m-symbol : goal.returns-then-m-symbol
returns-then-m-symbol c = code_read_idle _ _ _ (found (goal.at.returns-then-m-symbol c).After-prefix_number-symbol) (omega (arith, c.if-m-symbol.true))

pub returns : goal.returns
returns c = code_read_done _ _ _ (found (goal.at.returns c).After-prefix_number-symbol) (omega (arith, c.if-m-symbol.false))
