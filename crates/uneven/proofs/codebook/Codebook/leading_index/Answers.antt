-- `uneven::codebook::Codebook::leading_index` meets its contract. Assumes nothing.
use mathlib.Core.Path.{◌≡◌, ap, ◌∙◌}
use Prim.Native.Nat.{ℕ, ◌+◌, ◌-◌, ◌<◌}
use native.Mathlib.Omega.{arith}
use lib.ListN.{get_or}
use lib.Seq.{length-take-le, get_or-take}
use Rattle.theory.specs.Factorial.{factorial}
use Rattle.uneven.proofs.Totals.{Led, led_none, unit_small, led_more, index_here, index_none}
use Rattle.uneven.proofs.codebook.Codebook.leading_index.Goals as goal
use Rattle.uneven.proofs.codebook.Codebook.leading_index.Goals.{In-loop-k, After-from, After-small_factorial-led}

inside : (c : In-loop-k) → c.loop-k.k < c.args.m
inside c = omega (arith, length-take-le c.args.m c.args.self.now.lengths (omega (arith, c.requires.1)))

-- the next length
length_is : (c : After-from) → c.from.result ≡ get_or c.args.self.now.lengths c.loop-k.k 0
length_is c = c.from.ensures ∙ get_or-take _ _ _ 0 (inside (goal.at.After-from c).In-loop-k)

pub overflow_sub-n : goal.overflow_sub-n
overflow_sub-n c =
    let h = inside (goal.at.overflow_sub-n c).In-loop-k in
    omega (arith, length_is (goal.at.overflow_sub-n c).After-from, c.requires.2 c.loop-k.k h)

-- its permutations
unit : (c : After-small_factorial-led) → c.small_factorial-led.result ≡ factorial (c.args.n - get_or c.args.self.now.lengths c.loop-k.k 0)
unit c = c.small_factorial-led.ensures ∙ ap (λ (l : ℕ). factorial (c.args.n - l)) (length_is (goal.at.After-small_factorial-led c).After-from)

pub loop-k-init : goal.loop-k-init
loop-k-init c = (led_none _ _ _, omega arith)

next : (c : After-small_factorial-led) → let a = c.args in let at = c.loop-k in Led a.n a.self.now.lengths a.m (at.led + c.small_factorial-led.result) (at.k + 1)
next c =
    let pre = c.requires in
    led_more _ _ c.loop-k.invariant.0 pre.0 (unit c) (inside (goal.at.After-small_factorial-led c).In-loop-k) (omega (arith, pre.1))

pub overflow_add-led : goal.overflow_add-led
overflow_add-led c =
    let pre = c.requires in
    record { fits = omega (arith, c.loop-k.invariant.0.small, c.loop-k.invariant.0.within, unit_small _ _ c.loop-k.invariant.0 pre.0 (unit (goal.at.overflow_add-led c).After-small_factorial-led), pre.1) }

pub returns-then-number-led : goal.returns-then-number-led
returns-then-number-led c =
    let pre = c.requires in
    let at = c.loop-k in
    record {
      index = index_here _ _ (omega (arith, pre.1)) at.invariant.0 at.invariant.1 (next (goal.at.returns-then-number-led c).After-small_factorial-led) c.if-number-led.true;
      found = inside (goal.at.returns-then-number-led c).In-loop-k;
    }

pub loop-k-preserved : goal.loop-k-preserved
loop-k-preserved c = (next (goal.at.loop-k-preserved c).After-small_factorial-led, c.if-number-led.false)

pub returns : goal.returns
returns c =
    let pre = c.requires in
    let all : c.loop-k.k ≡ c.args.m = omega (arith, c.loop-k.invariant.0.within, c.loop-k-test.false, length-take-le c.args.m c.args.self.now.lengths (omega (arith, c.requires.1))) in
    record { index = rw all at (index_none _ _ (omega (arith, pre.1)) c.loop-k.invariant.0 c.loop-k.invariant.1 (omega (arith, all))); found = tt }
