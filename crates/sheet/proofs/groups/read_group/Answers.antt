-- `sheet::groups::read_group` meets its contract: at each return the tests that led there say which case of `group` holds. Assumes nothing.
use mathlib.Core.Path.{◌≡◌, sym, ap, ◌∙◌}
use Prim.Native.Nat.{◌+◌}
use native.Mathlib.Omega.{arith}
use lib.ListN.{take}
use lib.Seq.{take_at}
use Rattle.theory.specs.Reasons.{size, sized}
use Rattle.theory.specs.Refusal.{size_of}
use Rattle.theory.proofs.Refusal.{size_range, given_done, test_failed}
use Rattle.std.proofs.lemmas.Result.{err_from_is_err_and}
use Rattle.permutation.specs.Refusals.{number_of}
use Rattle.permutation.proofs.Refusals.{not_done}
use Rattle.sheet.specs.Held.{no_group}
use Rattle.sheet.specs.Parts.{group_answer, numbers}
use Rattle.sheet.proofs.ByteNumbers.{numbers_length}
use Rattle.sheet.proofs.ByTests.{Sized, group_end, group_missized, group_short, group_tied, group_there}
use Rattle.sheet.proofs.groups.read_group.Goals as goal
use Rattle.sheet.proofs.groups.read_group.Goals.{After-levels_at-levels, In_ok-n}

sized_now : (c : In_ok-n) → Sized c.args.s.now c.args.at c.in_ok-n.n
sized_now c =
    let m = c.from.result in
    let done = sym c.in_ok-n.ensures.number in
    let is = c.in_ok-n.ensures.given ∙ given_done (size_of m) m 0 done in
    let range = size_range m done in
    record { here = c.if-s-at.false; is = is ∙ c.from.ensures; some = omega (arith, is, range.0); few = omega (arith, is, range.1) }

-- the row's first n places are the levels
first_levels : (c : After-levels_at-levels)
    → let a = c.args in
    let n = c.in_ok-n.n in
    take n c.levels_at-levels.result ≡ numbers 2 n a.s.now (a.at + 1)
first_levels c =
    let a = c.args in
    let n = c.in_ok-n.n in
    rw c.levels_at-levels.ensures (take_at (numbers 2 n a.s.now (a.at + 1)) _ n (numbers_length a.s.now 2 n (a.at + 1)))

pub returns-then-s-at : goal.returns-then-s-at
unfolding group_answer
returns-then-s-at c = ap group_answer (sym (group_end _ _ c.if-s-at.true))

pub returns-in_err-n : goal.returns-in_err-n
unfolding group_answer
returns-in_err-n c =
    let p = err_from_is_err_and c.from_residual.result c.from_residual.ensures.1 in
    let e = c.in_err-n.field-0.0 in
    let out = test_failed (sized c.from.result) size (not_done e) (sym c.in_err-n.ensures.number) in
    let is : number_of e ≡ size = c.in_err-n.ensures.number ∙ rw out in
    rw (p.1, p.2, group_missized _ _ _ c.if-s-at.false c.from.ensures out) (λ i. record { number = is i; group = no_group; next = 0 })

pub returns-then-s-from : goal.returns-then-s-from
unfolding group_answer
returns-then-s-from c = ap group_answer (sym (group_short _ _ _ (sized_now (goal.at.returns-then-s-from c).In_ok-n) (omega arith)))

pub slice_bounds-tied-end : goal.slice_bounds-tied-end
slice_bounds-tied-end c = rw (first_levels (goal.at.slice_bounds-tied-end c).After-levels_at-levels, numbers_length)

pub returns-then-tied : goal.returns-then-tied
unfolding group_answer
returns-then-tied c =
    ap group_answer
    (sym (group_tied _ _ _ (sized_now (goal.at.returns-then-tied c).In_ok-n) (omega arith) _ (first_levels (goal.at.returns-then-tied c).After-levels_at-levels) (sym c.tied.ensures ∙ c.if-tied.true)))

pub returns : goal.returns
unfolding group_answer
returns c =
    let a = c.args in
    rw (
      c.levels_at-levels.ensures,
      group_there a.s.now a.at _ (sized_now (goal.at.returns c).In_ok-n) (omega arith) _ (first_levels (goal.at.returns c).After-levels_at-levels) (sym c.tied.ensures ∙ c.if-tied.false),
      numbers_length,
    )
