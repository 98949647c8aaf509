-- `uneven::store_uneven::store_uneven` meets its contract: past the first test what the symbol's row is found to be is stored. Assumes nothing.
use mathlib.Core.Path.{◌≡◌, refl, sym}
use lib.ListN.{length}
use Rattle.std.proofs.lemmas.Result.{err_from_is_err_and}
use Rattle.permutation.specs.Refusals.{number_in}
use Rattle.permutation.proofs.Refusals.{not_done}
use Rattle.charge.specs.Answers.{as_pushes}
use Rattle.symbols.specs.Answers.{LedBy}
use Rattle.symbols.proofs.Storing.{Led, if_done, done_if}
use Rattle.uneven.specs.Answers.{misfit, uneven_on, UnevenStored}
use Rattle.uneven.proofs.UnevenStoring.{store_misfit, store_led, found_number, found_as, found_row}
use Rattle.uneven.proofs.store_uneven.store_uneven.Goals as goal
use Rattle.uneven.proofs.store_uneven.store_uneven.Goals.{In_ok-misfit}

pub returns-in_err-misfit : goal.returns-in_err-misfit
returns-in_err-misfit c =
    let a = c.args in
    let r = c.from_residual.result in
    let p = err_from_is_err_and r c.from_residual.ensures.1 in
    let ne = not_done c.in_err-misfit.field-0.0 in
    let q = store_misfit a.levels.now a.weights.now a.m a.symbol refl c.in_err-misfit.ensures ne in
    rw (p.1, p.2) (record { answer = q.0; levels_left = q.1.0; stored = tt; spent = q.1.1.1 })

pub store_found-requires : goal.store_found-requires
store_found-requires c = let a = c.args in found_row a.levels.now a.weights.now a.m a.symbol c.uneven_row.result c.uneven_row.ensures

pub returns : goal.returns
returns c =
    let a = c.args in
    let L = a.levels.now in
    let ws = a.weights.now in
    let q = uneven_on L ws a.symbol in
    let found = c.uneven_row.result in
    let is = found_as L ws a.m a.symbol found c.uneven_row.ensures in
    let e = c.store_found.ensures in
    let r = c.store_found.result in
    let left = c.store_found.new.levels in
    let fits : misfit (length L) (length ws) a.m ≡ 0 = sym (goal.at.returns c).In_ok-misfit.in_ok-misfit.ensures in
    let led : Led (number_in found) L q (as_pushes r) left = (e.answer q is, (e.levels_left q is, done_if (LedBy q L left) r (e.led q is))) in
    let p = store_led L ws a.m a.symbol fits (rw (found_number L ws a.m a.symbol fits found c.uneven_row.ensures) at led) in
    record { answer = p.0; levels_left = p.1.0; stored = if_done (UnevenStored L ws a.m a.symbol left) r p.1.1.0; spent = p.1.1.1 }
