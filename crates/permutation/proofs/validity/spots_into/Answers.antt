-- `permutation::validity::spots_into` meets its contract. The loop's invariant: the names of the first places were met. Assumes nothing.
use mathlib.Core.Path.{refl}
use Prim.Native.Nat.{◌≤◌}
use native.Mathlib.Omega.{arith}
use borrow.Author.Rules.{rules}
use lib.ListN.{length}
use lib.Seq.{take_all}
use Rattle.permutation.proofs.Meeting.{Turn, met_start, met_outside, met_twice, met_fits, met_turn, met_all}
use Rattle.permutation.proofs.validity.spots_into.Goals as goal
use Rattle.permutation.proofs.validity.spots_into.Goals.{After-from-c, Else-spots-c-ne20, then-not-contains-via-then-not-contains, then-not-contains-via-else-not-contains+then-spots-c-ne20}

pub loop-name-init : goal.loop-name-init
loop-name-init c = met_start (length c.args.names.now)

-- the turn at the name that was read
turn : (c : After-from-c) → Turn c.loop-name.name-index c.from-c.result c.args.names.now
turn c = record { few = c.requires; more = c.loop-name-test.true; is = c.from-c.ensures }

pub returns-then-not-contains : goal.returns-then-not-contains
returns-then-not-contains c =
    let t = turn (goal.at.returns-then-not-contains c).After-from-c in
    elim c.then-not-contains.branch [
      | then-not-contains-via-then-not-contains w ↦ met_outside t (λ b. let low = b.0 in let high = b.1 in absurd (search rules))
      | then-not-contains-via-else-not-contains+then-spots-c-ne20 w ↦ met_twice t c.loop-name.invariant (search rules) (search rules) w.if-spots-c-ne20.true
    ]

-- past the tests the name is one of 1 to n
named : (c : Else-spots-c-ne20) → (1 ≤ c.from-c.result) × (c.from-c.result ≤ length c.args.names.now)
named c = (search rules, search rules)

pub overflow_add-seen : goal.overflow_add-seen
overflow_add-seen c =
    let n = named (goal.at.overflow_add-seen c).Else-spots-c-ne20 in
    omega (arith, met_fits (turn (goal.at.overflow_add-seen c).After-from-c) c.loop-name.invariant n.0 n.1, c.bit-seen.ensures)

pub loop-name-preserved : goal.loop-name-preserved
loop-name-preserved c =
    let n = named (goal.at.loop-name-preserved c).Else-spots-c-ne20 in
    let next = met_turn (turn (goal.at.loop-name-preserved c).After-from-c) c.loop-name.invariant n.0 n.1 _ c.if-spots-c-ne20.false c.ones_below.ensures in
    rw c.bit-seen.ensures next

pub returns : goal.returns
returns c =
    let all = take_all c.loop-name.name-index c.args.names.now c.loop-name-test.false in
    met_all (rw all at c.loop-name.invariant) c.requires refl
