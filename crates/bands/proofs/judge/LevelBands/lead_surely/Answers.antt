-- `bands::judge::LevelBands::lead_surely` meets its contract: what was found on the way up is that of the cells passed. Assumes nothing.
use mathlib.Core.Path.{◌≡◌, sym}
use Prim.Native.Nat.{◌-◌, ◌≤◌, ◌<◌, max}
use native.Mathlib.Omega.{arith}
use lib.ListN.{length, get_or}
use borrow.Author.Rules.{rules}
use Rattle.bands.proofs.Testing.{found_all, cell_bounds, found_not, found_more}
use Rattle.bands.proofs.judge.LevelBands.lead_surely.Goals as goal
use Rattle.bands.proofs.judge.LevelBands.lead_surely.Goals.{After-from-cell, else-i-p-via-then-i-p+else-self-cell, else-i-p-via-else-i-p}

-- the cell at the index is one of the group
bounds : (c : After-from-cell) → (1 ≤ c.from-cell.result) × (c.from-cell.result ≤ length c.args.self.now.lowest.now)
bounds c =
    let b = cell_bounds c.requires c.loop-i.invariant c.loop-i-test.true in
    (omega (arith, b.0, c.from-cell.ensures), omega (arith, b.1, c.from-cell.ensures))

pub overflow_sub-cell : goal.overflow_sub-cell
overflow_sub-cell c = (bounds c).0

pub bounds-self-cell : goal.bounds-self-cell
bounds-self-cell c = omega (arith, bounds (goal.at.bounds-self-cell c).After-from-cell)

pub returns-then-self-cell : goal.returns-then-self-cell
returns-then-self-cell c =
    found_not c.requires c.loop-i.invariant c.loop-i-test.true c.if-i-p.true (rw c.from-cell.ensures at c.if-self-cell.true)

pub bounds-self-cell-in-loop-i : goal.bounds-self-cell-in-loop-i
bounds-self-cell-in-loop-i c = omega (arith, bounds (goal.at.bounds-self-cell-in-loop-i c).After-from-cell, c.args.self.now.taken.bands.same)

pub loop-i-preserved : goal.loop-i-preserved
loop-i-preserved c =
    let clear : c.loop-i.i - 1 < c.args.p → c.loop-i.bound < get_or c.args.self.now.lowest.now (c.from-cell.result - 1) 0 = λ first.
    elim c.else-i-p.branch [
      | else-i-p-via-then-i-p+else-self-cell w ↦ w.if-self-cell.false
      | else-i-p-via-else-i-p w ↦ absurd (omega (arith, first, w.if-i-p.false))
    ] in
    let top : c.max-bound.result ≡ max (get_or c.args.self.now.highest.now (c.from-cell.result - 1) 0) c.loop-i.bound = search rules in
    rw (top, c.from-cell.ensures) (found_more c.requires c.loop-i.invariant c.loop-i-test.true (rw c.from-cell.ensures at clear))

pub returns : goal.returns
returns c =
    let none : c.loop-i.i ≡ 0 = omega (arith, c.loop-i-test.false) in
    sym (found_all c.requires (rw none at c.loop-i.invariant))
