-- `uneven::lengths::tail_sums` meets its contract: the sums from the last weight on. Assumes nothing.
use mathlib.Core.Path.{◌∙◌}
use native.Mathlib.Omega.{arith}
use borrow.Author.Rules.{rules}
use Rattle.uneven.proofs.Tails.{left_all, left_index, left_more, left_none}
use Rattle.uneven.proofs.lengths.tail_sums.Goals as goal

pub loop-i-init : goal.loop-i-init
loop-i-init c = (left_all c.requires (search rules), search rules)

pub loop-i-preserved : goal.loop-i-preserved
loop-i-preserved c =
    let v = c.loop-i.invariant in
    let s = c.in-Some.ensures.steps in
    let at = left_index v.0 (λ i. omega (arith, c.type_inv.heavy i)) _ _ s.1.0 s.1.1 v.1 in
    (rw (at.0, c.from.ensures) (left_more v.0 (λ i. omega (arith, c.type_inv.heavy i)) _ _ s.1.0), s.0 ∙ v.1)

pub returns : goal.returns
returns c = left_none c.loop-i.invariant.0 (search rules)
