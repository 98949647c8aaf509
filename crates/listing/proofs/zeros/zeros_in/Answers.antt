-- `listing::zeros::zeros_in` meets its contract: the first i zeros are in their row. Assumes nothing.
use mathlib.Core.Path.{◌≡◌, refl, ◌∙◌}
use Rattle.std.specs.Prelude.{Result, Ok, Err}
use Rattle.std.specs.Result.{result_unwrap_or}
use Rattle.permutation.specs.Refusals.{given_in}
use Rattle.permutation.specs.declared.reasons.Refusal.{Refusal}
use Rattle.ranking.specs.declared.zero.Zero.{Zero}
use Rattle.ranking.specs.declared.zero.Zero.TheVariants.{Old, New}
use Rattle.listing.proofs.ListRows.{rows_none, rows_more, rows_all}
use Rattle.listing.proofs.zeros.zeros_in.Goals as goal

given : (r : Result Zero Refusal) → result_unwrap_or r New ≡ given_in New r
given (Ok z) = refl
given (Err e) = refl

pub loop-i-init : goal.loop-i-init
loop-i-init c = rows_none 64 Old _ _ c.old_zeros-row.ensures

pub loop-i-preserved : goal.loop-i-preserved
loop-i-preserved c =
    rows_more c.loop-i.invariant c.within-i-end.ensures c.loop-i-test.true (c.unwrap_or.ensures ∙ given c.try_from.result ∙ c.try_from.ensures.1)

pub returns : goal.returns
returns c = rows_all c.loop-i.invariant c.within-i-end.ensures c.loop-i-test.false
