-- `symbols::store::levels_along` meets its contract: the row is filled with the levels of the cells in their sequence. Assumes nothing.
use mathlib.Core.Path.{◌≡◌, sym, ap, ◌∙◌}
use Prim.Native.Nat.{◌≤◌}
use native.Mathlib.Omega.{arith}
use lib.ListN.{length, get_or, take, length-map}
use Rattle.theory.specs.Levels.{level}
use Rattle.theory.proofs.Members.{entry_inside}
use Rattle.theory.proofs.FilledRow.{filled_more, row_none, row_all}
use Rattle.symbols.proofs.Along.{along_at}
use Rattle.symbols.proofs.store.levels_along.Goals as goal
use Rattle.symbols.proofs.store.levels_along.Goals.{After-from}

-- the cell whose level is read is one of theirs
cell-inside : (c : After-from)
    → (1 ≤ c.from.result) × (c.from.result ≤ length c.args.levels.now)
    × (c.from.result ≡ get_or (take (length c.args.levels.now) c.args.cells.now) c.loop-i.i 0)
cell-inside c =
    let pre = c.requires in
    let is : c.from.result ≡ get_or (take (length c.args.levels.now) c.args.cells.now) c.loop-i.i 0 = c.from.ensures in
    let b = entry_inside pre.1 c.loop-i.i c.loop-i-test.true in
    (rw is b.0, rw is b.1, is)

pub loop-i-init : goal.loop-i-init
loop-i-init c =
    let a = c.args in
    let row = take (length a.levels.now) a.cells.now in
    row_none 20 0 (length-map row (level a.levels.now) ∙ c.requires.1.long) c.requires.0

pub overflow_sub-along : goal.overflow_sub-along
overflow_sub-along c = (cell-inside c).0

pub bounds-levels-from : goal.bounds-levels-from
bounds-levels-from c = let b = cell-inside (goal.at.bounds-levels-from c).After-from in omega arith

pub loop-i-preserved : goal.loop-i-preserved
loop-i-preserved c =
    let levels = c.args.levels.now in
    let row = take (length levels) c.args.cells.now in
    let at = along_at levels row c.loop-i.i c.loop-i-test.true in
    filled_more c.loop-i.invariant (omega (arith, c.loop-i-test.true, c.requires.1.long)) 0 (ap (level levels) (cell-inside (goal.at.loop-i-preserved c).After-from).2 ∙ sym at)

pub returns : goal.returns
returns c = row_all 20 0 c.loop-i.invariant (omega (arith, c.loop-i-test.false, c.requires.1.long))
