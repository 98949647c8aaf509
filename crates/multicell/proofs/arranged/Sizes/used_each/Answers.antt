-- `multicell::arranged::Sizes::used_each` meets its contract: the pass keeps the tally of the cells that it met. Assumes nothing.
use native.Mathlib.Omega.{arith}
use Rattle.multicell.proofs.Judging.{ranged}
use Rattle.multicell.proofs.Tally.{tally_outside, tally_often, tally_more, tally_all}
use Rattle.multicell.proofs.arranged.Sizes.used_each.Goals as goal
use Rattle.multicell.proofs.arranged.Sizes.used_each.Goals.{then-level-eq0-via-then-level-eq0, then-level-eq0-via-else-level-eq0+then-self-level, then-level-eq0-via-else-level-eq0+else-self-level+then-met-level}

pub returns-then-level-eq0 : goal.returns-then-level-eq0
returns-then-level-eq0 c =
    elim c.then-level-eq0.branch [
      | then-level-eq0-via-then-level-eq0 w ↦ tally_outside _ _ _ c.requires c.loop-cell-test.true (λ b. omega (arith, b.0, c.from-level.ensures, w.if-level-eq0.true))
      | then-level-eq0-via-else-level-eq0+then-self-level w ↦ tally_outside _ _ _ c.requires c.loop-cell-test.true (λ b. omega (arith, b.1, c.from-level.ensures, w.if-self-level.true))
      | then-level-eq0-via-else-level-eq0+else-self-level+then-met-level w ↦
          tally_often _ _ _ c.requires c.loop-cell-test.true c.loop-cell.invariant (ranged _ _ c.args.self.now.ranged).many c.from-level.ensures
          (omega (arith, w.if-level-eq0.false), w.if-self-level.false) w.if-met-level.true
    ]

pub loop-cell-preserved : goal.loop-cell-preserved
loop-cell-preserved c =
    tally_more _ _ _ c.requires c.loop-cell-test.true c.loop-cell.invariant (ranged _ _ c.args.self.now.ranged).many c.from-level.ensures
    (omega (arith, c.if-level-eq0.false), c.if-self-level.false) c.if-met-level.false

pub returns : goal.returns
returns c =
    tally_all _ _ _ c.requires c.loop-cell.invariant (ranged _ _ c.args.self.now.ranged).many c.loop-cell-test.false
