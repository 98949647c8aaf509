-- `listing::zeros::judge_zeros` meets its contract: none of the zeros up to here is refused. Assumes nothing.
use mathlib.Core.Path.{sym}
use Rattle.std.proofs.lemmas.Result.{err_from_is_err_and}
use Rattle.permutation.proofs.Refusals.{not_done}
use Rattle.listing.proofs.Listing.{judged_more, judged_stop, judged_all}
use Rattle.listing.proofs.zeros.judge_zeros.Goals as goal

pub returns-in_err-try_from : goal.returns-in_err-try_from
returns-in_err-try_from c =
    let p = err_from_is_err_and c.from_residual.result c.from_residual.ensures.1 in
    rw (p.1, p.2) (judged_stop c.loop-number.invariant c.loop-number-test.true c.in_err-try_from.ensures.0 (not_done c.in_err-try_from.field-0.0))

pub loop-number-preserved : goal.loop-number-preserved
loop-number-preserved c = judged_more c.loop-number.invariant c.loop-number-test.true (sym c.in_ok-try_from.ensures.0)

pub returns : goal.returns
returns c = judged_all c.loop-number.invariant c.loop-number-test.false
