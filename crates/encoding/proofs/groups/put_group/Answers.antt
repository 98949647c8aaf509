-- `encoding::groups::put_group` meets its contract: size, tie, and then the group. Assumes nothing.
use mathlib.Core.Path.{◌≡◌, refl, sym, ◌∙◌}
use mathlib.Core.Bool.{true}
use Prim.Native.Nat.{ℕ, ◌≤◌}
use native.Mathlib.Omega.{arith}
use borrow.Author.Rules.{rules}
use lib.ListN.{length, take}
use lib.Seq.{length-take-le}
use Rattle.theory.specs.Reasons.{size, sized}
use Rattle.theory.specs.Refusal.{size_of}
use Rattle.theory.proofs.Refusal.{size_range, given_done, tested, test_failed}
use Rattle.std.proofs.lemmas.Result.{err_from_is_err_and}
use Rattle.permutation.specs.Refusals.{number_of}
use Rattle.permutation.proofs.Refusals.{not_done}
use Rattle.sheet.specs.declared.held.Group.{Group}
use Rattle.sheet.proofs.Putting.{puts_then}
use Rattle.encoding.specs.SheetBytes.{group_bytes}
use Rattle.encoding.proofs.ByTests.{group_missized, group_tied, group_clear}
use Rattle.encoding.proofs.Pieces.{number_end, numbers_end}
use Rattle.encoding.proofs.Lays.{lays_refused, lays_put}
use Rattle.encoding.proofs.groups.put_group.Goals as goal
use Rattle.encoding.proofs.groups.put_group.Goals.{In_ok-n}

-- past the first test, k is the group's n in its range, and so many levels are there
record Sized (g : Group) (k : ℕ) : Type 0 where
  is : k ≡ g.n
  size : sized g.n ≡ true
  few : k ≤ 20
  there : length (take k g.levels) ≡ k

sized_now : (c : In_ok-n) → Sized c.args.group c.in_ok-n.n
sized_now c =
    let g = c.args.group in
    let long : length g.levels ≡ 20 = search rules in
    let done = sym c.in_ok-n.ensures.number in
    let is = c.in_ok-n.ensures.given ∙ given_done (size_of g.n) g.n 0 done in
    let few = (size_range g.n done).1 in
    record {
      is = is;
      size = tested (sized g.n) (λ e. omega arith) done;
      few = omega (arith, is);
      there = length-take-le _ _ (omega (arith, is));
    }

pub returns-in_err-n : goal.returns-in_err-n
returns-in_err-n c =
    let p = err_from_is_err_and c.from_residual.result c.from_residual.ensures.1 in
    let e = c.in_err-n.field-0.0 in
    let out = test_failed (sized c.args.group.n) size (not_done e) (sym c.in_err-n.ensures.number) in
    let is : number_of e ≡ size = c.in_err-n.ensures.number ∙ rw out in
    rw (p.1, p.2) (lays_refused refl (is ∙ group_missized _ out) (not_done e))

pub returns-then-tied : goal.returns-then-tied
returns-then-tied c =
    let n = sized_now (goal.at.returns-then-tied c).In_ok-n in
    lays_refused refl (group_tied _ n.size (rw n.is at (sym c.tied.ensures ∙ c.if-tied.true))) (λ z. omega arith)

pub put_levels-requires : goal.put_levels-requires
put_levels-requires c =
    let n = sized_now (goal.at.put_levels-requires c).In_ok-n in
    omega (arith, c.put_little-from.ensures.long, number_end 1 _ c.put_little-from.ensures, n.there, n.few)

pub returns : goal.returns
unfolding group_bytes
returns c =
    let n = sized_now (goal.at.returns c).In_ok-n in
    let size = c.put_little-from.ensures in
    lays_put refl
    (group_clear _ n.size (rw n.is at (sym c.tied.ensures ∙ c.if-tied.false)))
    (rw n.is at (puts_then size c.put_levels.ensures))
    (omega (arith, number_end 1 _ size, numbers_end 2 _ c.put_levels.ensures, n.there, n.few))
