-- `charge::push_level::push_level` meets its contract: each test decides the number, and past them the sorted row has the cell. Assumes nothing.
use mathlib.Core.Path.{◌≡◌, refl, sym, ap, ◌∙◌}
use mathlib.Core.List.{List}
use Prim.Native.Nat.{ℕ, ◌+◌, ◌-◌, ◌≤◌}
use mathlib.Core.Logic.{⊎_elim}
use native.Mathlib.Omega.{arith}
use lib.ListN.{length, set}
use Rattle.std.proofs.lemmas.Result.{err_from_is_err_and}
use Rattle.theory.specs.Reasons.{value}
use Rattle.theory.specs.Permutation.{cell_at}
use Rattle.theory.specs.Levels.{permutation_of, push_level, jump}
use Rattle.theory.specs.Spent.{Spends}
use Rattle.theory.proofs.Refusal.{Readable, readable}
use Rattle.permutation.proofs.Refusals.{not_done}
use Rattle.charge.specs.Answers.{no_pushes, done_pushes, place_number, place_answer, place_levels}
use Rattle.charge.specs.declared.answers.Pushes.{Pushes}
use Rattle.charge.proofs.Sorting.{sorted_row}
use Rattle.charge.proofs.Numbers.{pushes_refused, pushes_done, with_spent, place_spends, place_fault, place_low, place_high, place_ceiling, place_done}
use Rattle.charge.proofs.Pushing.{PlacedCell, placed_cell, placed_push, placed_jump}
use Rattle.charge.proofs.push_level.push_level.Goals as goal
use Rattle.charge.proofs.push_level.push_level.Goals.{After-from-cell, After-replace-before, Else-levels-place, In_ok-read_number}

-- past the first test the levels have a permutation, and past the third there is the place
faultless : (c : In_ok-read_number) → Readable c.args.levels.now
faultless c = readable (sym c.in_ok-read_number.ensures)

placed : (c : Else-levels-place) → let a = c.args in Readable a.levels.now × (2 ≤ a.place) × (a.place ≤ length a.levels.now)
placed c = (faultless (goal.at.Else-levels-place c).In_ok-read_number, c.if-place-lt2.false, c.if-levels-place.false)

-- the cell there
cell : (c : After-from-cell)
    → let a = c.args in PlacedCell a.levels.now a.place c.from-cell.result
cell c =
    let b = placed (goal.at.After-from-cell c).Else-levels-place in
    placed_cell _ _ (omega arith) b.2 (sorted_row _ b.0.many c.sort_cells.ensures) c.from-cell.ensures

-- a refusal
refuses : (L : List ℕ) (i : ℕ) {a : Pushes} {number : ℕ} → a ≡ no_pushes number → number ≡ place_number L i → (number ≡ 0 → ⊥)
    → (a ≡ place_answer L i) × ((L ≡ place_levels L i) × Spends L L a.charge)
unfolding place_answer place_levels
refuses L i e is ne =
    with_spent L (place_spends L i) (pushes_refused 1 (jump (cell_at i (permutation_of L)) L) L (push_level (cell_at i (permutation_of L)) L) e is ne)

pub returns-in_err-read_number : goal.returns-in_err-read_number
returns-in_err-read_number c =
    let ne = not_done c.in_err-read_number.field-0.0 in
    let p = refuses c.args.levels.now c.args.place refl (place_fault _ _ c.in_err-read_number.ensures ne) ne in
    let e = err_from_is_err_and c.from_residual.result c.from_residual.ensures.1 in
    rw (e.1, e.2) (record { answer = p.0; levels_left = p.1.0; spent = p.1.1 })

pub returns-then-place-lt2 : goal.returns-then-place-lt2
returns-then-place-lt2 c =
    let r = faultless (goal.at.returns-then-place-lt2 c).In_ok-read_number in
    let is : value ≡ place_number c.args.levels.now c.args.place =
    ⊎_elim (λ low. place_low _ _ r low) (λ high. place_high _ _ r high.0 high.1) c.then-place-lt2.either in
    let p = refuses c.args.levels.now c.args.place refl is (λ z. omega arith) in
    record { answer = p.0; levels_left = p.1.0; spent = p.1.1 }

pub returns-then-top : goal.returns-then-top
returns-then-top c =
    let b = placed (goal.at.returns-then-top c).Else-levels-place in
    let p = refuses c.args.levels.now c.args.place refl (place_ceiling _ _ b.0 b.1 b.2 (omega arith)) (λ z. omega arith) in
    record { answer = p.0; levels_left = p.1.0; spent = p.1.1 }

pub sort_cells-requires : goal.sort_cells-requires
sort_cells-requires c = (placed (goal.at.sort_cells-requires c).Else-levels-place).0.many

pub bounds-cells-place : goal.bounds-cells-place
bounds-cells-place c = omega (arith, (placed (goal.at.bounds-cells-place c).Else-levels-place).0.many)

-- its jump
jumps : (c : After-replace-before)
    → let a = c.args in
    let top = c.highest-top.result in
    (c.replace-before.result ≤ top + 1) × (top + 1 - c.replace-before.result ≡ jump (cell_at a.place (permutation_of a.levels.now)) a.levels.now)
jumps c =
    rw c.replace-before.ensures.value (placed_jump (cell (goal.at.After-replace-before c).After-from-cell) c.highest-top.ensures)

pub overflow_sub-cell : goal.overflow_sub-cell
overflow_sub-cell c = (cell c).low

pub offset_bounds-levels-cell : goal.offset_bounds-levels-cell
offset_bounds-levels-cell c = omega (arith, (cell c).high)

pub bounds-levels-cell : goal.bounds-levels-cell
bounds-levels-cell c = let b = cell c in omega (arith, b.low, b.high)

pub overflow_sub-jump : goal.overflow_sub-jump
overflow_sub-jump c = (jumps c).0

pub returns : goal.returns
unfolding place_answer place_levels
returns c =
    let top = c.highest-top in
    let a = c.args in
    let b = placed (goal.at.returns c).Else-levels-place in
    let p = with_spent a.levels.now (place_spends a.levels.now a.place)
    (pushes_done 1 _ a.levels.now (push_level (cell_at a.place (permutation_of a.levels.now)) a.levels.now)
    (ap (done_pushes 1) (c.from.ensures ∙ (jumps (goal.at.returns c).After-replace-before).1))
    (place_done _ _ b.0 b.1 b.2 (omega (arith, top.type_inv, top.ensures))) (ap (set a.levels.now (c.from-cell.result - 1)) c.replace-before.ensures.after ∙ placed_push (cell (goal.at.returns c).After-from-cell) top.ensures)) in
    record { answer = p.0; levels_left = p.1.0; spent = p.1.1 }
