-- The cycle of `reach::list::Led::list` and `reach::list::Led::list_then` meets its contracts: the first takes each name in turn, the second has what is left listed behind
-- that cell, with one push less. Assumes nothing.
use mathlib.Core.Path.{◌≡◌, refl, ap, sym, ◌∙◌}
use mathlib.Core.List.{List, [], ◌++◌}
use Prim.Native.Nat.{ℕ, ◌+◌, ◌-◌, ◌≤◌, ◌<◌}
use native.Mathlib.Omega.{arith}
use Rattle.std.proofs.Common.{rules, tests}
use Rattle.std.specs.Option.{unwrap_or}
use Rattle.std.proofs.lemmas.Iterator.{YieldsList-from_slice, IsFirst-from_position}
use lib.ListN.{length, take, drop}
use lib.Seq.{sets, sets-eq, length-take-le}
use Rattle.theory.specs.Permutation.{place_of}
use Rattle.reach.specs.Led.{led, led_then, LedRow}
use Rattle.reach.proofs.Pieces.{numbers_start, number_within, number_room, number_put, number_last}
use Rattle.reach.proofs.RowLoops.{found_place, part_long}
use Rattle.reach.proofs.Led.{led_none, led_more, then_kept, then_top, then_next, next_led}
use Rattle.reach.proofs.list.Led.+list_list_then.Goals as goal
use Rattle.reach.proofs.list.Led.+list_list_then.Goals.{list-Then-self-eq0, list_then-After-position, list_then-In-Some, list_then-After-put_in}

-- ---- each name in turn

-- where no push is left
bare : (t : ℕ) (c : list-Then-self-eq0 t) → led c.args.self.now.n c.args.self.now.row c.args.self.now.p c.args.self.now.d ≡ take c.args.self.now.n c.args.self.now.row
bare t c = led_none c.args.self.now.leads c.if-self-eq0.true

room : (t : ℕ) (c : list-Then-self-eq0 t) → c.args.self.now.n ≤ length c.args.list.now
room t c = let v = c.args.self.now.leads in omega (arith, c.requires, ap length (bare t c), v.permutation.long)

pub list-slice_bounds-copy_from_slice-end : goal.list-slice_bounds-copy_from_slice-end
list-slice_bounds-copy_from_slice-end t c = room t c

pub list-slice_bounds-copy_from_slice-end-then-self-eq0 : goal.list-slice_bounds-copy_from_slice-end-then-self-eq0
list-slice_bounds-copy_from_slice-end-then-self-eq0 t c = sym (length-take-le _ _ (room t (goal.at.list-slice_bounds-copy_from_slice-end-then-self-eq0 t c).Then-self-eq0))

pub list-copy_from_slice-requires : goal.list-copy_from_slice-requires
list-copy_from_slice-requires t c =
    let v = c.args.self.now.leads in
    length-take-le _ _ (room t (goal.at.list-copy_from_slice-requires t c).Then-self-eq0) ∙ sym v.permutation.long

pub list-returns-then-self-eq0 : goal.list-returns-then-self-eq0
list-returns-then-self-eq0 t c =
    let v = c.args.self.now.leads in
    let none = bare t (goal.at.list-returns-then-self-eq0 t c).Then-self-eq0 in
    let list = c.args.list.now in
    let names = take c.args.self.now.n c.args.self.now.row in
    let all : 0 + length names ≡ c.args.self.now.n = omega (arith, v.permutation.long) in
    let put : sets list 0 names ≡ names ++ drop c.args.self.now.n list = sets-eq names list 0 (omega (arith, all, room t (goal.at.list-returns-then-self-eq0 t c).Then-self-eq0)) ∙ rw all in
    record { bytes = omega (arith, ap length none, v.permutation.long); listed = rw (c.copy_from_slice.ensures.after, none, put) }

pub list-loop-c-init : goal.list-loop-c-init
list-loop-c-init t c =
    let n = c.args.self.now.n in
    let all : n + 1 - 1 ≡ n = omega arith in
    numbers_start _ (n + 1) 1 (rw all (led_more c.args.self.now.leads (omega (arith, c.if-self-eq0.false)))) c.requires

pub list-list_then-at-requires : goal.list-list_then-at-requires
list-list_then-at-requires t c =
    let more : c.loop-c.c < c.args.self.now.n + 1 = omega (arith, c.loop-c-test.true) in (
      omega arith,
      (omega (arith, c.if-self-eq0.false), c.loop-c.auto.c, omega (arith, more), number_room _ _ c.loop-c.c c.loop-c.invariant more),
    )

pub list-overflow_add-at : goal.list-overflow_add-at
list-overflow_add-at t c =
    omega (arith, number_within _ _ c.loop-c.c c.loop-c.invariant (omega (arith, c.loop-c-test.true)), c.list_then-at.ensures.bytes)

pub list-loop-c-preserved : goal.list-loop-c-preserved
list-loop-c-preserved t c =
    let listed = c.list_then-at.ensures in
    number_put _ _ c.loop-c.c c.loop-c.invariant (omega (arith, c.loop-c-test.true)) listed.bytes listed.listed

pub list-returns-else-self-eq0-2 : goal.list-returns-else-self-eq0-2
list-returns-else-self-eq0-2 t c =
    let listed = c.list_then-at.ensures in
    let all = number_last _ _ c.loop-c.c c.loop-c.invariant (omega (arith, c.loop-c-test.true)) (omega arith) listed.bytes listed.listed in
    record { bytes = omega (arith, all.0); listed = all.1 }

-- ---- behind one cell more

-- nothing is listed
none_listed : {list bytes : List ℕ} → bytes ≡ [] → (0 ≡ length bytes) × (list ≡ sets list 0 bytes)
none_listed e = rw e (refl, refl)

place : (t : ℕ) (c : list_then-After-position t)
    → let s = c.args.self.now in
    s.p + unwrap_or c.position.result (s.n - s.p) + 1 ≡ s.p + place_of c.args.c (drop s.p (take s.n s.row))
place t c =
    let v = c.args.self.now.leads in
    found_place c.args.c c.args.self.now.row v.first (omega (arith, v.few, v.long)) _
    (IsFirst-from_position c.position.new.self _ _ (λ x. x ≡ c.args.c) (λ x. x ≡ c.args.c → ⊥) c.position.ensures.ran (YieldsList-from_slice _ cc)
    (λ x q k. search (rules, tests)) (λ x q k. search (rules, tests)))

pub list_then-returns-in_default : goal.list_then-returns-in_default
list_then-returns-in_default t c =
    let pre = c.requires in
    let v = c.args.self.now.leads in
    let at = rw c.in_default.is at (place t (goal.at.list_then-returns-in_default t c).After-position) in
    let past : c.args.self.now.n + 1 ≡ c.args.self.now.p + place_of c.args.c (drop c.args.self.now.p (take c.args.self.now.n c.args.self.now.row)) = omega (arith, at, v.first) in
    let none = none_listed (then_kept v _ past pre.1 pre.2 refl) in
    record { bytes = none.0; listed = none.1 }

-- the cell stands behind the first p
stands : (t : ℕ) (c : list_then-In-Some t) → let i = c.args.self.now.p + c.in-Some.further in (i + 1 ≡ c.args.self.now.p + place_of c.args.c (drop c.args.self.now.p (take c.args.self.now.n c.args.self.now.row))) × (i < c.args.self.now.n)
stands t c =
    let v = c.args.self.now.leads in
    let at = rw c.in-Some.is at (place t (goal.at.list_then-In-Some t c).After-position) in
    let many = ap length c.iter.ensures.rest ∙ part_long c.args.c c.args.self.now.row v.first (omega (arith, v.few, v.long)) in
    (at, omega (arith, many, c.in-Some.ensures.bound, v.first))

pub list_then-returns-then-i-self : goal.list_then-returns-then-i-self
list_then-returns-then-i-self t c =
    let pre = c.requires in
    let there = stands t (goal.at.list_then-returns-then-i-self t c).In-Some in
    let none = none_listed (then_top c.args.self.now.leads _ there.0 there.1 c.if-i-self.true pre.0) in
    record { bytes = none.0; listed = none.1 }

-- what is listed with it is what is listed behind one cell more, in the row with the cell brought up
known :
    (t : ℕ) (c : list_then-After-put_in t)
    → let s = c.args.self.now in
    let next = c.put_in.new.cells in
    (led_then s.n s.row s.p s.d c.args.c ≡ led s.n next (s.p + 1) (s.d - 1)) × LedRow next s.n (s.p + 1) (s.d - 1)
known t c =
    let v = c.args.self.now.leads in
    let there = stands t (goal.at.list_then-After-put_in t c).In-Some in
    rw c.put_in.ensures (then_next v _ there.0 there.1 c.if-i-self.false, next_led v _ there.0 there.1)

pub list_then-invariant_of-next : goal.list_then-invariant_of-next
list_then-invariant_of-next t c = record { leads = (known t (goal.at.list_then-invariant_of-next t c).After-put_in).1 }

pub list_then-list-requires : goal.list_then-list-requires
list_then-list-requires t c =
    let k = known t (goal.at.list_then-list-requires t c).After-put_in in
    (omega (arith, c.requires.0), omega (arith, c.requires.3, ap length k.0))

pub list_then-returns : goal.list_then-returns
list_then-returns t c =
    let same = (known t (goal.at.list_then-returns t c).After-put_in).0 in
    record { bytes = c.list.ensures.bytes ∙ ap length (sym same); listed = c.list.ensures.listed ∙ rw same }
