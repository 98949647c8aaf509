-- `uneven::lengths::Search::plan_lengths` meets its contract. Its measure is h and the symbols left. Assumes nothing.
use mathlib.Core.Path.{◌≡◌}
use Prim.Native.Nat.{ℕ, ◌-◌, ◌*◌}
use native.Mathlib.Omega.{arith}
use borrow.Author.Rules.{rules}
use lib.ListN.{get_or}
use Rattle.uneven.proofs.Tails.{product_small as product_bounded}
use Rattle.uneven.proofs.Searching.{unit_small, product_small, given_all, given_none, given_first, given_deeper}
use Rattle.uneven.proofs.lengths.Search.+plan_lengths.Goals as goal

-- the first's weight by its length
cost_is : {x y w l : ℕ} → x ≡ w → y ≡ l → x * y ≡ w * l
cost_is e f = rw (e, f)

pub overflow_mul-left : goal.overflow_mul-left
overflow_mul-left t c = record { fits = omega (arith, product_small c.requires c.small_factorial-unit.ensures) }

pub returns-then-left-unit : goal.returns-then-left-unit
returns-then-left-unit t c = rw c.from.ensures (given_all c.requires c.small_factorial-unit.ensures c.if-left-unit.true)

pub overflow_add-left : goal.overflow_add-left
overflow_add-left t c = let v = c.requires in record { fits = omega (arith, unit_small v c.small_factorial-unit.ensures, v.few) }

pub returns-then-first-deeper : goal.returns-then-first-deeper
returns-then-first-deeper t c =
    given_first c.requires c.small_factorial-unit.ensures c.if-left-unit.false c.if-left-unit-2.true c.plan_lengths-deeper.ensures c.plan_lengths-first.ensures
    (cost_is c.from-then-left-unit-2.ensures c.from-then-left-unit-2-2.ensures)
    (rw (c.from-then-left-unit-2.ensures, c.from-then-left-unit-2-2.ensures) (product_bounded (get_or c.args.self.now.heavy.now c.args.k 0) (c.args.self.now.n - c.args.h) (search rules) (omega (arith, c.requires.many))))
    c.if-first-deeper.true

pub returns-else-first-deeper : goal.returns-else-first-deeper
returns-else-first-deeper t c =
    given_deeper c.requires c.small_factorial-unit.ensures c.if-left-unit.false c.if-left-unit-2.true c.plan_lengths-deeper.ensures c.plan_lengths-first.ensures
    (cost_is c.from-then-left-unit-2.ensures c.from-then-left-unit-2-2.ensures) c.if-first-deeper.false

pub returns-else-left-unit-2 : goal.returns-else-left-unit-2
returns-else-left-unit-2 t c = given_none c.requires c.small_factorial-unit.ensures c.if-left-unit.false c.if-left-unit-2.false c.plan_lengths-deeper.ensures
