-- `reach::list::list_within` meets its contract: what is listed, and then what is left, is the whole. Assumes nothing.
use Prim.Native.Nat.{◌+◌}
use native.Mathlib.Omega.{arith}
use Rattle.reach.proofs.Led.{within_led}
use Rattle.reach.proofs.Pieces.{numbers_start, number_within, number_room, number_put, number_last}
use Rattle.reach.proofs.list.list_within.Goals as goal

pub loop-d-init : goal.loop-d-init
loop-d-init c = numbers_start _ (c.args.r + 1) 0 (within_led _ _ _) c.requires.1

pub invariant_of-led : goal.invariant_of-led
invariant_of-led c =
    let v = c.requires.0 in
    record { leads = record { few = v.few; long = v.long; first = omega arith; most = omega (arith, c.loop-d-test.true, v.most); permutation = v.permutation } }

pub list-at-requires : goal.list-at-requires
list-at-requires c = number_room _ _ c.loop-d.d c.loop-d.invariant (omega (arith, c.loop-d-test.true))

pub overflow_add-at : goal.overflow_add-at
overflow_add-at c =
    omega (arith, number_within _ _ c.loop-d.d c.loop-d.invariant (omega (arith, c.loop-d-test.true)), c.list-at.ensures.bytes)

pub loop-d-preserved : goal.loop-d-preserved
loop-d-preserved c =
    let listed = c.list-at.ensures in
    number_put _ _ c.loop-d.d c.loop-d.invariant (omega (arith, c.loop-d-test.true)) listed.bytes listed.listed

pub returns-2 : goal.returns-2
returns-2 c =
    let listed = c.list-at.ensures in
    let all = number_last _ _ c.loop-d.d c.loop-d.invariant (omega (arith, c.loop-d-test.true)) (omega arith) listed.bytes listed.listed in
    all.1
