-- `rewriting::raise::raise` meets its contract: the test decides between ceiling and the pushes. Assumes nothing.
use mathlib.Core.Path.{refl, ap}
use mathlib.Core.List.{List, reverse}
use Prim.Native.Nat.{ℕ}
use native.Mathlib.Omega.{arith}
use lib.ListN.{take}
use Rattle.theory.specs.Levels.{push_levels}
use Rattle.theory.specs.Spent.{charge_of}
use Rattle.theory.proofs.Refusal.{ceiling_refused, ceiling_done}
use Rattle.charge.specs.Answers.{done_pushes}
use Rattle.charge.proofs.Numbers.{pushes_refused, pushes_done}
use Rattle.rewriting.specs.Raising.{raised}
use Rattle.rewriting.proofs.raise.raise.Goals as goal

pub returns-then-from-r : goal.returns-then-from-r
unfolding raised
returns-then-from-r c =
    let a = c.args in
    let cs : List ℕ = reverse (take a.r a.cells.now) in
    let p = pushes_refused a.r (charge_of cs a.levels.now) a.levels.now (push_levels cs a.levels.now) refl
    (ceiling_refused a.levels.now a.r (omega (arith, c.if-from-r.true, c.from.ensures, c.highest-top.ensures))) (λ z. omega arith) in
    record { answer = p.0; levels_left = p.1 }

pub returns : goal.returns
unfolding raised
returns c =
    let a = c.args in
    let first = c.push_first-charge.ensures in
    let p = pushes_done a.r _ a.levels.now (push_levels (reverse (take a.r a.cells.now)) a.levels.now)
    (ap (done_pushes a.r) first.charge_is)
    (ceiling_done a.levels.now a.r (omega (arith, c.from.ensures, c.if-from-r.false, c.highest-top.ensures, c.highest-top.type_inv))) first.levels_left in
    record { answer = p.0; levels_left = p.1 }
