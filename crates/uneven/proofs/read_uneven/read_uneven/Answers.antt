-- `uneven::read_uneven::read_uneven` meets its contract: each test decides the number, and past them the permutation is read by the code. Assumes nothing.
use mathlib.Core.Path.{◌≡◌, refl, sym, ◌∙◌}
use lib.ListN.{length}
use Rattle.std.proofs.lemmas.Result.{err_from_is_err_and}
use Rattle.theory.proofs.Refusal.{read_done}
use Rattle.permutation.proofs.Refusals.{not_done}
use Rattle.charge.proofs.ReadLevels.{number_is, standing}
use Rattle.symbols.specs.Answers.{as_symbol}
use Rattle.uneven.specs.Answers.{misfit, range_of, uneven_symbol}
use Rattle.uneven.proofs.Ranges.{Fitting, fitting, has_code}
use Rattle.uneven.proofs.UnevenReading.{symbol_misfit, symbol_fault, symbol_value, symbol_given, answered, symbol_refused, record_asked, record_read}
use Rattle.uneven.proofs.read_uneven.read_uneven.Goals as goal
use Rattle.uneven.proofs.read_uneven.read_uneven.Goals.{In_ok-misfit, In_ok-range_number}

-- past the first test
fits : (c : In_ok-misfit) → let a = c.args in misfit (length a.levels.now) (length a.weights.now) a.m ≡ 0
fits c = sym c.in_ok-misfit.ensures

-- there is such a code
ranges : (c : In_ok-range_number) → let a = c.args in range_of (length a.levels.now) a.m ≡ 0
ranges c = sym c.in_ok-range_number.ensures

pub returns-in_err-misfit : goal.returns-in_err-misfit
returns-in_err-misfit c =
    let a = c.args in
    let r = c.from_residual.result in
    let p = err_from_is_err_and r c.from_residual.ensures.1 in
    let ne = not_done c.in_err-misfit.field-0.0 in
    let is : as_symbol r ≡ uneven_symbol a.levels.now a.weights.now a.m = rw (p.1, p.2) (symbol_refused a.levels.now a.weights.now a.m (symbol_misfit a.levels.now a.weights.now a.m c.in_err-misfit.ensures ne) ne) in
    let q = answered a.levels.now a.weights.now a.m r is in
    record { answer = q.0; by_code = q.1; none = q.2 }

pub returns-in_err-permutation : goal.returns-in_err-permutation
returns-in_err-permutation c =
    let a = c.args in
    let r = c.from_residual-in_err-permutation.result in
    let p = err_from_is_err_and r c.from_residual-in_err-permutation.ensures.1 in
    let ne = not_done c.in_err-permutation.field-0.0 in
    let is : as_symbol r ≡ uneven_symbol a.levels.now a.weights.now a.m =
    rw (p.1, p.2) (symbol_refused a.levels.now a.weights.now a.m (symbol_fault a.levels.now a.weights.now a.m (fits (goal.at.returns-in_err-permutation c).In_ok-misfit) (number_is a.levels.now c.in_err-permutation.ensures) ne) ne) in
    let q = answered a.levels.now a.weights.now a.m r is in
    record { answer = q.0; by_code = q.1; none = q.2 }

pub range_number-requires : goal.range_number-requires
range_number-requires c = (standing _ c.in_ok-permutation.ensures refl).levels.many

pub returns-in_err-range_number : goal.returns-in_err-range_number
returns-in_err-range_number c =
    let a = c.args in
    let r = c.from_residual-in_err-range_number.result in
    let p = err_from_is_err_and r c.from_residual-in_err-range_number.ensures.1 in
    let ne = not_done c.in_err-range_number.field-0.0 in
    let now = standing _ c.in_ok-permutation.ensures refl in
    let is : as_symbol r ≡ uneven_symbol a.levels.now a.weights.now a.m =
    rw (p.1, p.2) (symbol_refused a.levels.now a.weights.now a.m (symbol_value a.levels.now a.weights.now a.m (fits (goal.at.returns-in_err-range_number c).In_ok-misfit) (read_done now.levels) c.in_err-range_number.ensures ne) ne) in
    let q = answered a.levels.now a.weights.now a.m r is in
    record { answer = q.0; by_code = q.1; none = q.2 }

pub symbol_of-requires : goal.symbol_of-requires
symbol_of-requires c =
    let r = standing _ c.in_ok-permutation.ensures refl in
    let v : Fitting (length c.args.levels.now) c.args.weights.now c.args.m = fitting (fits (goal.at.symbol_of-requires c).In_ok-misfit) in
    record_asked _ _ r.levels.few r.levels.many r.is (has_code v (ranges (goal.at.symbol_of-requires c).In_ok-range_number))

pub returns : goal.returns
returns c =
    let a = c.args in
    let r = standing _ c.in_ok-permutation.ensures refl in
    let q = answered a.levels.now a.weights.now a.m c.symbol_of.result
    (record_read a.levels.now a.weights.now r.levels.few r.levels.many r.is c.symbol_of.ensures
    ∙ symbol_given a.levels.now a.weights.now a.m (fits (goal.at.returns c).In_ok-misfit) (read_done r.levels) (ranges (goal.at.returns c).In_ok-range_number)) in
    record { answer = q.0; by_code = q.1; none = q.2 }
