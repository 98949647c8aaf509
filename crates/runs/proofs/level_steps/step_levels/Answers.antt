-- `runs::level_steps::step_levels` meets its contract, by what the jobs give that it asks. Assumes nothing.
use Rattle.std.proofs.Common.{◌≡◌, ◌-◌, ◌≤◌, length, ap, ap₂, sym, ◌∙◌, arith}
use Rattle.permutation.specs.Answers.{successor_answer}
use Rattle.permutation.specs.declared.answers.Permuted.{Permuted}
use Rattle.permutation.specs.declared.answers.Placed.{Placed}
use Rattle.charge.specs.Answers.{read_answer}
use Rattle.permutation.proofs.Refusals.{given_ok}
use Rattle.runs.proofs.Given.{placed_number, pushes_number}
use Rattle.runs.proofs.OneStep.{read_given, asked_done, pushed_done, place_bounds, StepDone, step_done}
use Rattle.runs.proofs.level_steps.step_levels.Goals as goal
use Rattle.runs.proofs.level_steps.step_levels.Goals.{After-unwrap-standing, After-unwrap-place, After-from-cell, After-unwrap-raise}

pub unwrap-standing-requires : goal.unwrap-standing-requires
unwrap-standing-requires c = given_ok c.read.result (read_given _ c.requires c.read.ensures)

-- what was read, and the place that its successor answers
read_is : (c : After-unwrap-standing) → c.unwrap-standing.result ≡ (read_answer c.args.levels.now).permutation
read_is c = ap (λ (a : Permuted). a.permutation) (rw c.unwrap-standing.ensures at c.read.ensures)

pub unwrap-place-requires : goal.unwrap-place-requires
unwrap-place-requires c =
    let stands = read_is (goal.at.unwrap-place-requires c).After-unwrap-standing in
    given_ok c.successor.result (sym (placed_number c.successor.result) ∙ asked_done _ c.requires _ stands c.successor.ensures)

place_is : (c : After-unwrap-place) → c.unwrap-place.result.place ≡ (successor_answer c.unwrap-standing.result).place
place_is c = ap (λ (a : Placed). a.place) (rw c.unwrap-place.ensures at c.successor.ensures)

bounds : (c : After-unwrap-place)
    → let place = c.unwrap-place.result.place in (2 ≤ place) × (place ≤ length c.args.levels.now) × (place ≤ 20)
bounds c = place_bounds _ c.requires _ _ (read_is (goal.at.After-unwrap-place c).After-unwrap-standing) (place_is c)

pub overflow_sub-place : goal.overflow_sub-place
overflow_sub-place c = omega (arith, (bounds c).0)

pub bounds-standing-place : goal.bounds-standing-place
bounds-standing-place c = let b = bounds (goal.at.bounds-standing-place c).After-unwrap-place in omega (arith, b.0, b.2)

pub unwrap-raise-requires : goal.unwrap-raise-requires
unwrap-raise-requires c =
    let asked = (goal.at.unwrap-raise-requires c).After-unwrap-place in
    let stands = read_is (goal.at.After-unwrap-place asked).After-unwrap-standing in
    given_ok c.push_level.result (sym (pushes_number c.push_level.result) ∙ pushed_done _ c.requires _ _ stands (place_is asked) c.push_level.ensures.answer)

-- its push
pushed : (c : After-unwrap-raise)
    → StepDone c.args.levels.now c.from-cell.result c.unwrap-raise.result.charge c.push_level.new.levels
pushed c =
    let asked = (goal.at.After-unwrap-raise c).After-unwrap-place in
    let stands = read_is (goal.at.After-unwrap-place asked).After-unwrap-standing in
    step_done _ c.requires _ _ stands (place_is asked) _ c.from-cell.ensures _ _ (rw c.unwrap-raise.ensures at c.push_level.ensures.answer) c.push_level.ensures.levels_left

pub overflow_cast-raise : goal.overflow_cast-raise
overflow_cast-raise c = omega (arith, (pushed (goal.at.overflow_cast-raise c).After-unwrap-raise).raise_fits)

pub overflow_sub-spread : goal.overflow_sub-spread
overflow_sub-spread c = omega (arith, (pushed (goal.at.overflow_sub-spread c).After-unwrap-raise).bottom≤top, c.lowest.ensures, c.highest.ensures)

pub returns : goal.returns
returns c =
    let d = pushed (goal.at.returns c).After-unwrap-raise in
    record { cell_pushed = d.cell_is; raised_by = d.raise_is; spread_left = ap₂ ◌-◌ c.highest.ensures c.lowest.ensures; levels_left = d.levels_are }
