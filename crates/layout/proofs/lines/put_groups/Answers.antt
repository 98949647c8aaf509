-- `layout::lines::put_groups` meets its contract: the lines of the groups up to g were put. Assumes nothing.
use mathlib.Core.Path.{◌≡◌}
use mathlib.Core.List.{[]}
use Prim.Native.Nat.{◌≤◌}
use native.Mathlib.Omega.{arith}
use lib.ListN.{length}
use borrow.Author.Rules.{rules}
use Rattle.sheet.proofs.Putting.{row_start, row_next, row_end}
use Rattle.layout.proofs.Pieces.{groups_grow, lines_valued, groups_valued, valued_count, valued_line}
use Rattle.work.proofs.Working.{group_at_held}
use Rattle.layout.proofs.lines.put_groups.Goals as goal
use Rattle.layout.proofs.lines.put_groups.Goals.{Start}

-- each group has a value beside it
values_enough : (c : Start) → c.args.outcome.groups.count ≤ length c.args.outcome.values
values_enough c = let long : length c.args.outcome.values ≡ 64 = search rules in omega (arith, c.requires.1.few)

count_is : (c : Start) → length (groups_valued c.args.outcome) ≡ c.args.outcome.groups.count
count_is c = valued_count c.args.outcome c.requires.1 (values_enough c)

pub loop-g-init : goal.loop-g-init
loop-g-init c = row_start groups_grow _ _ _ _

pub put_group-at-requires : goal.put_group-at-requires
put_group-at-requires c =
    let h = c.requires.1 in
    let few = h.few in
    (omega arith, omega arith, group_at_held h c.loop-g.g c.loop-g-test.true _)

pub loop-g-preserved : goal.loop-g-preserved
loop-g-preserved c =
    let is = valued_line c.args.outcome c.requires.1 (values_enough (goal.at.loop-g-preserved c).Start) c.loop-g.g c.loop-g-test.true (record { n = 0; levels = [] }) in
    let line = rw is at c.put_group-at.ensures.puts in
    row_next groups_grow _ _ _ _ c.loop-g.invariant (omega (arith, count_is (goal.at.loop-g-preserved c).Start)) (0, []) line c.put_group-at.ensures.short

pub returns : goal.returns
returns c =
    let few = count_is (goal.at.returns c).Start in
    record { puts = rw (lines_valued 0 _ _) (row_end groups_grow _ _ _ _ c.loop-g.invariant (omega arith)); short = omega arith }
