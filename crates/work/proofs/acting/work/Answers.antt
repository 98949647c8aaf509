-- `work::acting::work` meets its contract. The loop's invariant: the answers, the groups and their zeros are those of the commands passed. Assumes nothing.
use mathlib.Core.Path.{◌∙◌}
use mathlib.Core.List.{[]}
use Prim.Native.Nat.{◌<◌}
use native.Mathlib.Omega.{arith}
use Rattle.sheet.specs.declared.held.Entry.{Entry}
use Rattle.sheet.specs.declared.held.Action.TheVariants.{Count}
use Rattle.work.proofs.Working.{sheet_count, next_is, group_at_held, count_few, start, zeros_start, progress_held, index_below, step, zeros_step, end}
use Rattle.work.proofs.acting.work.Goals as goal
use Rattle.work.proofs.acting.work.Goals.{After-from-g}

pub shared_ref_as_front-entry-items : goal.shared_ref_as_front-entry-items
shared_ref_as_front-entry-items c = count_few c.requires

pub loop-i-init : goal.loop-i-init
loop-i-init c =
    let held = c.requires in
    (start held, zeros_start held)

-- the entry that is read is the one of the row: past its end a read would give this
abbrev none : Entry
none = record { command = record { group = 0; action = Count 0 }; target = record { n = 0; cells = [] } }

-- the group that the command names stands in the row
below : (c : After-from-g) → (c.from-g.result < c.loop-i.groups.count) × (c.from-g.result < 64)
below c =
    let held = c.requires in
    let so = c.loop-i.invariant in
    let more : c.loop-i.i < c.args.sheet.now.count = omega (arith, sheet_count held) in
    let is = next_is held so.0 more none in
    let b = index_below held so.0 more _ (rw is at c.from-g.ensures) in
    (b.0, omega (arith, b.0, b.1))

pub act_group-requires : goal.act_group-requires
act_group-requires c =
    group_at_held (progress_held c.requires c.loop-i.invariant.0) _ (below (goal.at.act_group-requires c).After-from-g).0 _

pub bounds-zeros-g : goal.bounds-zeros-g
bounds-zeros-g c = (below (goal.at.bounds-zeros-g c).After-from-g).1

pub bounds-zeros-g-in-loop-i : goal.bounds-zeros-g-in-loop-i
bounds-zeros-g-in-loop-i c = (below (goal.at.bounds-zeros-g-in-loop-i c).After-from-g).1

pub loop-i-preserved : goal.loop-i-preserved
loop-i-preserved c =
    let held = c.requires in
    let so = c.loop-i.invariant in
    let more : c.loop-i.i < c.args.sheet.now.count = omega (arith, sheet_count held) in
    let is = next_is held so.0 more none in
    let g = rw is at c.from-g.ensures in (
      step held so.0 more _ g _ (c.from.ensures ∙ rw is at c.act_group.ensures.answer) (rw is at c.act_group.ensures.group_left),
      zeros_step held so.0 more _ g so.1 _ (rw is at c.zero_left.ensures),
    )

pub values_of-values-requires : goal.values_of-values-requires
values_of-values-requires c = progress_held c.requires c.loop-i.invariant.0

pub returns : goal.returns
returns c =
    end c.requires c.loop-i.invariant.0 (omega (arith, sheet_count c.requires)) c.loop-i.invariant.1 c.values_of-values.ensures
