-- `charge::count_up::few_steps` meets its contract: the charge is what the levels have more than at first. Assumes nothing.
use mathlib.Core.Path.{◌≡◌, ◌∙◌}
use Prim.Native.Nat.{◌+◌}
use native.Mathlib.Omega.{arith}
use Rattle.theory.specs.Spent.{level_sum}
use Rattle.charge.proofs.Counting.{Counting, step, step_spent, sum_fits_now, end}
use Rattle.charge.proofs.count_up.few_steps.Goals as goal
use Rattle.charge.proofs.count_up.few_steps.Goals.{After-from-charge}

stepped : (c : After-from-charge)
    → let a = c.args in let e = c.count_step in
    Counting a.levels.now a.k (a.top + a.k) e.new.levels e.new.cells (c.loop-level.level + 1)
    × (level_sum e.new.levels ≡ level_sum a.levels.now + (c.loop-level.charge + c.from-charge.result))
stepped c =
    let inv = c.loop-level.invariant in let h = c.loop-level-test.true in
    let e = c.count_step.ensures in
    (step inv.0 h e.levels_left e.cells_left, step_spent inv.0 h e.levels_left e.cells_left _ _ inv.1 (c.from-charge.ensures ∙ e.jumped))

pub overflow_add-charge : goal.overflow_add-charge
overflow_add-charge c = let s = stepped c in omega (arith, sum_fits_now s.0, s.1)

pub loop-level-preserved : goal.loop-level-preserved
loop-level-preserved c = stepped c

pub returns : goal.returns
returns c = end c.loop-level.invariant.0 c.loop-level-test.false _ c.loop-level.invariant.1
