-- `ranking::unrank::fill`, which calls itself, meets its contract. It has the cells below m put in, read the other way round from the spot of m on,
-- and puts m in at that spot. The measure is m. Assumes nothing.
use mathlib.Core.Path.{◌∙◌}
use native.Mathlib.Nat.{mod-lt}
use native.Mathlib.Omega.{arith}
use Rattle.ranking.proofs.Unranking.{fill_none, fill_more}
use Rattle.ranking.proofs.unrank.+fill.Goals as goal

pub passed_by_digit-p-requires : goal.passed_by_digit-p-requires
passed_by_digit-p-requires t c = (mod-lt c.args.rank c.if-m-gt0.true, omega arith)

pub returns-then-m-gt0 : goal.returns-then-m-gt0
returns-then-m-gt0 t c =
    let a = c.args in
    c.put_in.ensures
    ∙ fill_more a.down a.m a.s a.rank _ _ a.cells.now _
    c.if-m-gt0.true c.passed_by_digit-p.ensures.0 c.spot_after-j.ensures c.fill.ensures

pub returns-else-m-gt0 : goal.returns-else-m-gt0
returns-else-m-gt0 t c =
    let a = c.args in
    fill_none a.down a.m a.s a.rank a.cells.now c.if-m-gt0.false
