-- `uneven::codebook::Codebook::led_before` meets its contract. Assumes nothing.
use mathlib.Core.Path.{◌≡◌, ap, ◌∙◌}
use Prim.Native.Nat.{ℕ, ◌-◌, ◌<◌}
use native.Mathlib.Omega.{arith}
use lib.ListN.{get_or}
use lib.Seq.{length-take-le, get_or-take}
use Rattle.theory.specs.Factorial.{factorial}
use Rattle.uneven.proofs.Totals.{led_none, unit_small, led_more, led_all}
use Rattle.uneven.proofs.codebook.Codebook.led_before.Goals as goal
use Rattle.uneven.proofs.codebook.Codebook.led_before.Goals.{In-loop-length, After-from, After-small_factorial-led}

inside : (c : In-loop-length) → c.loop-length.length-index < c.args.k
inside c = omega (arith, length-take-le c.args.k c.args.self.now.lengths (omega (arith, c.requires.1)))

-- the next length
length_is : (c : After-from) → c.from.result ≡ get_or c.args.self.now.lengths c.loop-length.length-index 0
length_is c = c.from.ensures ∙ get_or-take _ _ _ 0 (inside (goal.at.After-from c).In-loop-length)

pub overflow_sub-n : goal.overflow_sub-n
overflow_sub-n c =
    let h = inside (goal.at.overflow_sub-n c).In-loop-length in
    omega (arith, length_is (goal.at.overflow_sub-n c).After-from, c.requires.2 c.loop-length.length-index h)

-- its permutations
unit : (c : After-small_factorial-led) → c.small_factorial-led.result ≡ factorial (c.args.n - get_or c.args.self.now.lengths c.loop-length.length-index 0)
unit c = c.small_factorial-led.ensures ∙ ap (λ (l : ℕ). factorial (c.args.n - l)) (length_is (goal.at.After-small_factorial-led c).After-from)

pub loop-length-init : goal.loop-length-init
loop-length-init c = led_none _ _ _

pub overflow_add-led : goal.overflow_add-led
overflow_add-led c =
    let pre = c.requires in
    record { fits = omega (arith, c.loop-length.invariant.small, c.loop-length.invariant.within, unit_small _ _ c.loop-length.invariant pre.0 (unit (goal.at.overflow_add-led c).After-small_factorial-led), pre.1) }

pub loop-length-preserved : goal.loop-length-preserved
loop-length-preserved c =
    let pre = c.requires in
    led_more _ _ c.loop-length.invariant pre.0 (unit (goal.at.loop-length-preserved c).After-small_factorial-led) (inside (goal.at.loop-length-preserved c).In-loop-length) (omega (arith, pre.1))

pub returns : goal.returns
returns c = led_all _ _ c.loop-length.invariant (omega (arith, c.loop-length-test.false, length-take-le c.args.k c.args.self.now.lengths (omega (arith, c.requires.1))))
