-- `sheet::groups::levels_at` meets its contract: the row holds the first i levels. Assumes nothing.
use mathlib.Core.Path.{sym, ◌∙◌}
use native.Mathlib.Omega.{arith}
use Rattle.theory.proofs.FilledRow.{filled_more, row_none, row_all}
use Rattle.sheet.proofs.ByteNumbers.{numbers_length, numbers_at}
use Rattle.sheet.proofs.groups.levels_at.Goals as goal

pub loop-i-init : goal.loop-i-init
loop-i-init c =
    let a = c.args in
    row_none 20 0 (numbers_length a.s.now 2 a.n a.from) (omega arith)

pub loop-i-preserved : goal.loop-i-preserved
loop-i-preserved c =
    let a = c.args in
    let l = c.loop-i in
    let more = c.loop-i-test.true in
    filled_more l.invariant more 0 (c.little.ensures.spelled ∙ sym (numbers_at a.s.now 2 a.n a.from l.i more))

pub returns : goal.returns
returns c = row_all 20 0 c.loop-i.invariant c.loop-i-test.false
