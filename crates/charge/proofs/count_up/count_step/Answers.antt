-- `charge::count_up::count_step` meets its contract: the row keeps step with the levels. Assumes nothing.
use mathlib.Core.Path.{◌≡◌, sym, ap, ◌∙◌}
use mathlib.Core.List.{List}
use Prim.Native.Nat.{ℕ, ◌+◌, ◌-◌, ◌≤◌}
use lib.ListN.{set}
use native.Mathlib.Omega.{arith}
use Rattle.theory.specs.Permutation.{row}
use Rattle.theory.specs.Levels.{permutation_of, jump}
use Rattle.theory.specs.CountUp.{next_cell}
use Rattle.charge.proofs.Pushing.{PlacedCell}
use Rattle.charge.proofs.Counting.{names_long, place_bounds, next_cell_lem, step_levels_lem, step_cells, step_jump}
use Rattle.charge.proofs.count_up.count_step.Goals as goal
use Rattle.charge.proofs.count_up.count_step.Goals.{After-from-cell, After-replace-before}

-- the cell that is pushed
cell : (c : After-from-cell) → PlacedCell c.args.levels.now c.next_place-place.result c.from-cell.result
cell c = next_cell_lem c.requires c.next_place-place.ensures c.push_row.ensures c.from-cell.ensures

pub next_place-place-requires : goal.next_place-place-requires
next_place-place-requires c = omega (arith, names_long c.requires, c.requires.many)

pub push_row-requires : goal.push_row-requires
push_row-requires c =
    let v = c.requires in
    let b = place_bounds v c.next_place-place.ensures in
    (omega (arith, b.0), omega (arith, b.1, v.many))

pub overflow_sub-cell : goal.overflow_sub-cell
overflow_sub-cell c = (cell c).low

pub bounds-levels-cell : goal.bounds-levels-cell
bounds-levels-cell c = let b = cell c in omega (arith, b.low, b.high)

-- its jump
jumps : (c : After-replace-before)
    → let a = c.args in
    (c.replace-before.result ≤ a.top + 1) × (a.top + 1 - c.replace-before.result ≡ jump (next_cell a.levels.now) a.levels.now)
jumps c = rw c.replace-before.ensures.value (step_jump c.requires c.next_place-place.ensures c.push_row.ensures c.from-cell.ensures)

pub overflow_sub-result : goal.overflow_sub-result
overflow_sub-result c = (jumps c).0

pub returns : goal.returns
returns c =
    let v = c.requires in
    let place = c.next_place-place.ensures in
    let pushed = c.push_row.ensures in
    let left = ap (set c.args.levels.now (c.from-cell.result - 1)) c.replace-before.ensures.after ∙ step_levels_lem v place pushed c.from-cell.ensures in
    record {
      jumped = (jumps c).1;
      levels_left = left;
      cells_left = step_cells v place pushed c.from-cell.ensures ∙ ap (λ (L : List ℕ). row (permutation_of L)) (sym left);
    }
