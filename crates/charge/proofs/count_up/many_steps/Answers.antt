-- `charge::count_up::many_steps` meets its contract: the levels have grown by the charge. Assumes nothing.
use Prim.Native.Nat.{◌-◌, ◌≤◌}
use Rattle.charge.specs.Counting.{Counted}
use Rattle.charge.proofs.Counting.{step, end_sums}
use Rattle.charge.proofs.count_up.many_steps.Goals as goal
use Rattle.charge.proofs.count_up.many_steps.Goals.{After-level_sum}

pub loop-level-preserved : goal.loop-level-preserved
loop-level-preserved c = let e = c.count_step.ensures in step c.loop-level.invariant c.loop-level-test.true e.levels_left e.cells_left

-- both sums are known
ended : (c : After-level_sum)
    → let a = c.args in
    (c.level_sum-before.result ≤ c.level_sum.result)
    × Counted a.k a.levels.now c.loop-level.levels (c.level_sum.result - c.level_sum-before.result)
ended c =
    end_sums c.loop-level.invariant c.loop-level-test.false c.level_sum-before.ensures c.level_sum.ensures

pub overflow_sub-result : goal.overflow_sub-result
overflow_sub-result c = (ended c).0

pub returns : goal.returns
returns c = (ended c).1
