-- `rewriting::rewrite::rewrite_count` meets its contract: the cells gone through leave r of the target's. Assumes nothing.
use mathlib.Core.Path.{ap₂, ◌∙◌}
use native.Mathlib.Omega.{arith}
use lib.ListN.{length}
use lib.Seq.{take_all}
use Rattle.theory.specs.Rewrite.{rewrite_count}
use Rattle.rewriting.proofs.Sequence.{start, end, step_crossed, step_passed}
use Rattle.rewriting.proofs.rewrite.rewrite_count.Goals as goal

pub loop-i-init : goal.loop-i-init
loop-i-init c = rw (← c.requires) (start (omega arith) (omega (arith, c.requires)))

pub loop-i-preserved-then-cells-i : goal.loop-i-preserved-then-cells-i
loop-i-preserved-then-cells-i c =
    step_crossed c.loop-i.invariant (omega (arith, c.loop-i-test.true)) c.if-cells-i.true

pub loop-i-preserved : goal.loop-i-preserved
loop-i-preserved c =
    step_passed c.loop-i.invariant (omega (arith, c.loop-i-test.true)) c.if-cells-i.false

pub returns : goal.returns
returns c =
    let cells = c.args.cells.now in let target = c.args.target.now in
    end c.loop-i.invariant (omega (arith, c.loop-i-test.false))
    ∙ ap₂ rewrite_count (take_all (length cells) cells (omega arith)) (take_all (length cells) target (omega (arith, c.requires)))
