-- `symbols::row::choose` meets its contract: each turn takes one digit of s and puts the name that it chooses behind those chosen before.
-- Assumes nothing.
use mathlib.Core.Path.{refl}
use native.Mathlib.Omega.{arith}
use borrow.Author.Rules.{rules}
use Rattle.symbols.proofs.Choosing.{start, turn, step, end}
use Rattle.symbols.proofs.row.choose.Goals as goal

pub loop-i-init : goal.loop-i-init
loop-i-init c =
    let pre = c.requires in
    start pre.0 pre.1 (rw (← pre.2) pre.3) (search rules) pre.4 pre.2

pub nonzero_div-from : goal.nonzero_div-from
nonzero_div-from c = (turn c.loop-i.invariant c.loop-i-test.true).0

pub bounds-cells-from : goal.bounds-cells-from
bounds-cells-from c = (turn c.loop-i.invariant c.loop-i-test.true).1

pub put_in-requires : goal.put_in-requires
put_in-requires c =
    let inv = c.loop-i.invariant in
    ((turn inv c.loop-i-test.true).1, omega arith)

pub nonzero_rem-rest : goal.nonzero_rem-rest
nonzero_rem-rest c = (turn c.loop-i.invariant c.loop-i-test.true).0

pub loop-i-preserved : goal.loop-i-preserved
loop-i-preserved c = step c.loop-i.invariant c.loop-i-test.true refl c.put_in.ensures

pub returns : goal.returns
returns c = end c.loop-i.invariant c.loop-i-test.false
