-- `writer::page::put_groups` meets its contract: the groups up to here had no fault, and were put. Assumes nothing.
use mathlib.Core.Path.{◌≡◌, refl, ◌∙◌}
use native.Mathlib.Omega.{arith}
use lib.ListN.{length, take}
use Rattle.std.proofs.lemmas.Result.{err_from_is_err_and}
use Rattle.permutation.proofs.Refusals.{not_done}
use Rattle.sheet.proofs.Typed.{groups_room, groups_there}
use Rattle.sheet.proofs.Putting.{puts_then}
use Rattle.encoding.specs.Faults.{first, group_number, groups_number}
use Rattle.encoding.specs.SheetBytes.{groups_bytes}
use Rattle.encoding.proofs.Pieces.{number_end}
use Rattle.encoding.proofs.ByTests.{groups_none, groups_many, groups_first}
use Rattle.encoding.proofs.Lays.{lays_refused, lays_put}
use Rattle.encoding.proofs.PartsPut.{parts_none, parts_stop, parts_next, parts_clear, parts_all}
use Rattle.writer.proofs.page.put_groups.Goals as goal
use Rattle.writer.proofs.page.put_groups.Goals.{At-loop-group, then-groups-lt1-via-then-groups-lt1, then-groups-lt1-via-else-groups-lt1+then-groups-gt64}

first_is : (c : At-loop-group) → first group_number (take c.args.groups.count c.args.groups.list) ≡ groups_number c.args.groups
first_is c = groups_first _ c.if-groups-lt1.false c.if-groups-gt64.false

-- as many groups as are counted are there
all_there : (c : At-loop-group) → length (take c.args.groups.count c.args.groups.list) ≡ c.args.groups.count
all_there c = groups_there c.args.groups (groups_room c.args.groups _ c.well_formed.1.0) c.if-groups-gt64.false

pub returns-then-groups-lt1 : goal.returns-then-groups-lt1
returns-then-groups-lt1 c =
    elim c.then-groups-lt1.branch [
      | then-groups-lt1-via-then-groups-lt1 w ↦ lays_refused refl (groups_none _ w.if-groups-lt1.true) (λ z. omega arith)
      | then-groups-lt1-via-else-groups-lt1+then-groups-gt64 w ↦ lays_refused refl (groups_many _ w.if-groups-lt1.false w.if-groups-gt64.true) (λ z. omega arith)
    ]

pub loop-group-init : goal.loop-group-init
loop-group-init c = parts_none _ _ _ _ _ _

pub put_group-requires : goal.put_group-requires
put_group-requires c =
    let count = c.put_little-at.ensures in
    let row = c.loop-group.invariant.row in
    omega (arith, c.requires, all_there (goal.at.put_group-requires c).At-loop-group, c.loop-group-test.true, count.long, number_end 1 _ count, row.put.long, row.short)

pub returns-in_err-at : goal.returns-in_err-at
returns-in_err-at c =
    let p = err_from_is_err_and c.from_residual.result c.from_residual.ensures.1 in
    let why = not_done c.in_err-at.field-0.0 in
    let stop = parts_stop c.loop-group.invariant c.loop-group-test.true _ c.in_err-at.ensures.numbered why in
    rw (p.1, p.2) (lays_refused refl (stop ∙ first_is (goal.at.returns-in_err-at c).At-loop-group) why)

pub loop-group-preserved : goal.loop-group-preserved
loop-group-preserved c = parts_next c.loop-group.invariant c.loop-group-test.true _ c.in_ok-at.ensures refl

pub returns : goal.returns
unfolding groups_bytes
returns c =
    let count = c.put_little-at.ensures in
    let inv = c.loop-group.invariant in
    let done = c.loop-group-test.false in
    let at = (goal.at.returns c).At-loop-group in
    lays_put refl (parts_clear inv done ∙ first_is at) (puts_then count (parts_all inv done)) (omega (arith, number_end 1 _ count, inv.row.short, inv.row.few, all_there at))
