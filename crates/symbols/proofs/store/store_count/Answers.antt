-- `symbols::store::store_count` meets its contract: the cells gone up are above all that come after them. Assumes nothing.
use mathlib.Core.Path.{◌≡◌, ap, ◌∙◌}
use native.Mathlib.Omega.{arith}
use borrow.Author.Rules.{rules, part_to_end}
use lib.ListN.{length}
use Rattle.theory.specs.Levels.{highest}
use Rattle.symbols.proofs.Leading.{going, going_end, going_on, gone}
use Rattle.symbols.proofs.store.store_count.Goals as goal

pub loop-i-init : goal.loop-i-init
loop-i-init c = (going c.requires (search rules) (c.highest-bound.ensures ∙ ap highest (part_to_end c.args.along.now c.args.p)), search rules)

pub returns-then-level-bound : goal.returns-then-level-bound
returns-then-level-bound c =
    let v = c.loop-i.invariant in
    let s = c.in-Some.ensures.steps in
    let at : c.in-Some.i ≡ length c.next.new.self.iter.iter.rest.now = omega (arith, v.1, s) in
    rw at (going_end v.0 _ _ s.1.0 c.if-level-bound.true)

pub loop-i-preserved : goal.loop-i-preserved
loop-i-preserved c =
    let v = c.loop-i.invariant in
    let s = c.in-Some.ensures.steps in
    (going_on v.0 _ _ s.1.0 c.if-level-bound.false, s.0 ∙ v.1)

pub returns : goal.returns
returns c = gone c.loop-i.invariant.0 (search rules)
