-- `rewriting::raise::push_first` meets its contract: the cells left to push, on the present levels, give what all of them give. Assumes nothing.
use mathlib.Core.Path.{◌≡◌, ◌∙◌}
use mathlib.Core.List.{reverse}
use Prim.Native.Nat.{◌+◌, ◌-◌, ◌≤◌}
use native.Mathlib.Omega.{arith}
use lib.ListN.{length, take, set}
use Rattle.theory.specs.Levels.{push_levels}
use Rattle.theory.specs.Spent.{charge_of}
use Rattle.rewriting.specs.Raising.{sum_above}
use Rattle.rewriting.proofs.Raising.{Raising, start, had_fits, end, cell_bounds, step}
use Rattle.rewriting.proofs.raise.push_first.Goals as goal
use Rattle.rewriting.proofs.raise.push_first.Goals.{After-from-cell, After-from-had, After-sum_above}

-- the cell that a turn pushes
cell : (c : After-from-cell)
    → (1 ≤ c.from-cell.result) × (c.from-cell.result ≤ length c.loop-i.levels)
cell c = cell_bounds c.loop-i.invariant c.loop-i-test.true c.from-cell.ensures

pub loop-i-init : goal.loop-i-init
loop-i-init c = start c.requires

-- the turn's push
stepped : (c : After-from-had)
    → let a = c.args in let l = c.loop-i in
    Raising a.levels.now a.cells.now a.r a.top (set l.levels (c.from-cell.result - 1) c.replace-before.new.dest) (l.had + c.from-had.result) (l.i - 1)
stepped c =
    let e = c.replace-before.ensures in
    let level : c.replace-before.new.dest ≡ c.args.top + c.args.r - (c.loop-i.i - 1) = omega (arith, e.after, c.from.ensures) in
    rw (level, c.from-had.ensures ∙ e.value) (step c.loop-i.invariant c.loop-i-test.true c.from-cell.ensures)

pub overflow_add-had : goal.overflow_add-had
overflow_add-had c = omega (arith, had_fits (stepped c))

pub loop-i-preserved : goal.loop-i-preserved
loop-i-preserved c = stepped c

-- the last push is made
ended : (c : After-sum_above)
    → let a = c.args in let l = c.loop-i in let cs = reverse (take a.r a.cells.now) in
    (l.had ≤ sum_above a.top a.r) × (sum_above a.top a.r - l.had ≡ charge_of cs a.levels.now) × (l.levels ≡ push_levels cs a.levels.now)
ended c = end c.loop-i.invariant c.loop-i-test.false

pub returns : goal.returns
returns c = let e = ended c in record { charge_is = rw c.sum_above.ensures e.1; levels_left = e.2 }
