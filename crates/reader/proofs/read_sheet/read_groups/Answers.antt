-- `reader::read_sheet::read_groups` meets its contract: the first i groups are in the row, and the rest is read from `at` on. Assumes nothing.
use mathlib.Core.Path.{◌≡◌, refl, ap}
use Prim.Native.Nat.{◌≤◌}
use native.Mathlib.Omega.{arith}
use lib.ListN.{length, take}
use Rattle.std.proofs.lemmas.Result.{err_from_is_err_and}
use Rattle.permutation.proofs.Refusals.{not_done}
use Rattle.sheet.specs.Sheet.{group}
use Rattle.sheet.specs.Held.{group_of, no_group}
use Rattle.sheet.specs.Parts.{GroupRead, group_answer}
use Rattle.sheet.proofs.FaultNumbers.{group_tells_fault, answered_fault, answered_got}
use Rattle.reader.proofs.Loops.{front_long, turns_start, turns_more, turns_stop, turns_all, turns_row}
use Rattle.reader.proofs.read_sheet.read_groups.Goals as goal
use Rattle.reader.proofs.read_sheet.read_groups.Goals.{At-loop-place}

-- the part has as many groups as are read
part_long : (c : At-loop-place) → length (take c.args.count c.args.list.now) ≡ c.args.count
part_long c = front_long no_group c.requires.1 c.requires.0

pub loop-place-init : goal.loop-place-init
loop-place-init c = turns_start c.requires.1 c.requires.0 group_of (group c.args.s.now) 1

pub returns-in_err-group : goal.returns-in_err-group
returns-in_err-group c =
    let p = err_from_is_err_and c.from_residual.result c.from_residual.ensures.1 in
    let bad = answered_fault group_tells_fault _ _ c.in_err-group.ensures (not_done c.in_err-group.field-0.0) in
    let long = part_long (goal.at.returns-in_err-group c).At-loop-place in
    rw (p.1, p.2) (bad.0, turns_stop c.loop-place.invariant (omega (arith, long)) bad.0 bad.1, bad.2)

pub loop-place-preserved : goal.loop-place-preserved
unfolding group_answer
loop-place-preserved c =
    let good = answered_got group_tells_fault _ _ c.in_ok-group.ensures refl in
    turns_more c.loop-place.invariant (omega (arith, part_long (goal.at.loop-place-preserved c).At-loop-place)) (omega arith) good.0 good.1 good.2 _ _
    (ap (λ (r : GroupRead). r.group) good.3) (ap (λ (r : GroupRead). r.next) good.3)

pub returns : goal.returns
returns c =
    let inv = c.loop-place.invariant in
    let done : c.args.count ≤ c.loop-place.place-index = omega (arith, part_long (goal.at.returns c).At-loop-place) in
    (inv.read, turns_all inv done, turns_row c.requires.1 c.requires.0 inv done)
