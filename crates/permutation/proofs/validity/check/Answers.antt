-- `permutation::validity::check` meets its contract: the spots are those that it lent. Assumes nothing.
use mathlib.Core.Path.{◌∙◌}
use Rattle.std.proofs.lemmas.Result.{err_from_is_err_and}
use Rattle.permutation.proofs.Refusals.{not_done}
use Rattle.permutation.proofs.Checking.{refused_alike}
use Rattle.permutation.proofs.validity.check.Goals as goal

pub returns-in_err-check_into : goal.returns-in_err-check_into
returns-in_err-check_into c =
    let p = err_from_is_err_and c.from_residual.result c.from_residual.ensures.1 in
    rw (p.1, p.2) (refused_alike _ _ (not_done c.in_err-check_into.field-0.0) ∙ c.in_err-check_into.ensures)

pub returns : goal.returns
returns c = c.in_ok-check_into.ensures
