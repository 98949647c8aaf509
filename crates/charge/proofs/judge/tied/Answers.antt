-- `charge::judge::tied` meets its contract: the levels have a tie where those ahead have one. Assumes nothing.
use mathlib.Core.Path.{sym, ◌∙◌}
use Rattle.charge.proofs.Scanning.{again, tied_here, tied_next}
use Rattle.charge.proofs.judge.tied.Goals as goal

pub returns-then-contains : goal.returns-then-contains
returns-then-contains c =
    let found = sym (again c.args.levels.now c.loop-i.i c.contains.ensures.value) ∙ c.if-contains.true in
    sym (c.loop-i.invariant ∙ tied_here _ _ c.loop-i-test.true found)

pub loop-i-preserved : goal.loop-i-preserved
loop-i-preserved c =
    let none = sym (again c.args.levels.now c.loop-i.i c.contains.ensures.value) ∙ c.if-contains.false in
    c.loop-i.invariant ∙ tied_next _ _ c.loop-i-test.true none
