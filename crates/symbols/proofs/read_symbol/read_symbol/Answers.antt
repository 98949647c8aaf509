-- `symbols::read_symbol::read_symbol` meets its contract: each test decides the number, and past them the permutation is read by the code. Assumes nothing.
use mathlib.Core.Path.{◌≡◌, refl, sym, ◌∙◌}
use lib.ListN.{length}
use Rattle.std.proofs.lemmas.Result.{err_from_is_err_and}
use Rattle.theory.proofs.Refusal.{read_done}
use Rattle.permutation.proofs.Refusals.{not_done}
use Rattle.charge.proofs.ReadLevels.{number_is, standing}
use Rattle.symbols.specs.Answers.{code_of}
use Rattle.symbols.proofs.Codes.{judged_number, judged_range, judged_length}
use Rattle.symbols.proofs.Symbols.{record_asked, record_read, symbol_refused, symbol_fault, symbol_code, symbol_given}
use Rattle.symbols.proofs.read_symbol.read_symbol.Goals as goal
use Rattle.symbols.proofs.read_symbol.read_symbol.Goals.{In_ok-permutation, In_ok-p}

pub returns-in_err-permutation : goal.returns-in_err-permutation
returns-in_err-permutation c =
    let p = err_from_is_err_and c.from_residual.result c.from_residual.ensures.1 in
    let ne = not_done c.in_err-permutation.field-0.0 in
    rw (p.1, p.2) (symbol_refused _ _ (symbol_fault _ _ (number_is _ c.in_err-permutation.ensures) ne) ne)

pub judge_code-requires : goal.judge_code-requires
judge_code-requires c = (standing _ c.in_ok-permutation.ensures refl).levels.many

pub returns-in_err-p : goal.returns-in_err-p
returns-in_err-p c =
    let p = err_from_is_err_and c.from_residual-in_err-p.result c.from_residual-in_err-p.ensures.1 in
    let ne = not_done c.in_err-p.field-0.0 in
    let r = standing _ c.in_ok-permutation.ensures refl in
    rw (p.1, p.2) (symbol_refused _ _ (symbol_code _ _ (read_done r.levels) (judged_number _ _ c.in_err-p.ensures) ne) ne)

pub leading_symbol-requires : goal.leading_symbol-requires
leading_symbol-requires c =
    let r = standing _ c.in_ok-permutation.ensures refl in
    let e = c.in_ok-p.ensures in
    record_asked _ r.levels.few r.levels.many r.is _ (judged_range _ _ e refl).1 (judged_length _ _ e refl)

pub returns : goal.returns
returns c =
    let r = standing _ c.in_ok-permutation.ensures refl in
    let code : code_of (length c.args.levels.now) c.args.m ≡ 0 = sym (judged_number _ _ c.in_ok-p.ensures) in
    record_read _ r.levels.few r.levels.many r.is _ c.leading_symbol.ensures ∙ symbol_given _ _ (read_done r.levels) code
