-- `symbols::number::prefix_number` meets its contract. The loop's invariant: what was counted, on the cells that are left, is the whole number.
-- Assumes nothing.
use mathlib.Core.Path.{◌≡◌, ◌∙◌}
use Prim.Native.Nat.{◌≤◌, ◌<◌}
use native.Mathlib.Omega.{arith}
use lib.ListN.{get_or, take}
use lib.Seq.{length-take-le, get_or-take}
use Rattle.symbols.proofs.PrefixDigits.{CellCounted, start, end, cell_bounds, row_turn}
use Rattle.symbols.proofs.number.prefix_number.Goals as goal
use Rattle.symbols.proofs.number.prefix_number.Goals.{In-loop-i, After-from, After-from-c}

pub loop-i-init : goal.loop-i-init
loop-i-init c = start c.requires.permutation c.requires.within

more : (c : In-loop-i) → c.loop-i.i < c.args.p
more c = let pre = c.requires in omega (arith, length-take-le c.args.p c.args.cells.now (omega (arith, pre.many, pre.within)))

-- the cell that is read
is : (c : After-from-c) → c.from-c.result ≡ get_or c.args.cells.now c.loop-i.i 0
is c = c.from-c.ensures ∙ get_or-take c.args.p c.args.cells.now c.loop-i.i 0 (more (goal.at.After-from-c c).In-loop-i)

cell : (c : After-from-c)
    → (1 ≤ c.from-c.result) × (c.from-c.result ≤ c.args.n)
cell c = cell_bounds c.requires (more (goal.at.After-from-c c).In-loop-i) (is c)

pub overflow_sub-before : goal.overflow_sub-before
overflow_sub-before c = (cell c).0

pub bounds-spots-c : goal.bounds-spots-c
bounds-spots-c c = omega (arith, (cell (goal.at.bounds-spots-c c).After-from-c).1)

-- and what it adds
turn : (c : After-from)
    → CellCounted c.args.n c.args.p (take c.args.n c.args.cells.now)
    c.loop-i.i c.loop-i.number c.from-c.result c.from.result
turn c =
    row_turn c.requires (more (goal.at.After-from c).In-loop-i) (is (goal.at.After-from c).After-from-c) c.loop-i.invariant c.from.ensures

pub overflow_sub-before-in-loop-i : goal.overflow_sub-before-in-loop-i
overflow_sub-before-in-loop-i c = omega (arith, (turn c).below)

pub overflow_mul-number : goal.overflow_mul-number
overflow_mul-number c = omega (arith, (turn c).fits)

pub overflow_add-number : goal.overflow_add-number
overflow_add-number c = omega (arith, (turn c).fits)

pub loop-i-preserved : goal.loop-i-preserved
loop-i-preserved c = (turn c).next

pub returns : goal.returns
returns c = end c.requires.permutation c.requires.within c.loop-i.invariant
    (omega (arith, length-take-le c.args.p c.args.cells.now (omega (arith, c.requires.many, c.requires.within))))
