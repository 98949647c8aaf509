-- `rewriting::rewrite::judge` meets its contract: each test decides the number. Assumes nothing.
use mathlib.Core.Path.{◌≡◌, sym, ◌∙◌}
use native.Mathlib.Omega.{arith}
use lib.ListN.{length}
use Rattle.std.proofs.lemmas.Result.{err_from_is_err_and}
use Rattle.theory.specs.Refusal.{size_of}
use Rattle.theory.proofs.Refusal.{given_done}
use Rattle.permutation.proofs.Refusals.{not_done}
use Rattle.permutation.proofs.Checking.{check_number}
use Rattle.rewriting.proofs.Judging.{judge_group, judge_size, judge_other, judge_short, judge_muddle, judge_levels}
use Rattle.rewriting.proofs.rewrite.judge.Goals as goal
use Rattle.rewriting.proofs.rewrite.judge.Goals.{In_ok-n, In_ok-size_within, then-target-n-via-then-target-n, then-target-n-via-else-target-n+then-room-n}

pub returns-in_err-n : goal.returns-in_err-n
returns-in_err-n c =
    let p = err_from_is_err_and c.from_residual.result c.from_residual.ensures.1 in
    rw (p.1, p.2) (judge_group _ _ _ c.in_err-n.ensures.number (not_done c.in_err-n.field-0.0))

-- past the first test the group's n is in its range
group : (c : In_ok-n) → let n = length c.args.levels.now in (size_of n ≡ 0) × (c.in_ok-n.n ≡ n)
group c =
    let sized = sym c.in_ok-n.ensures.number in
    (sized, c.in_ok-n.ensures.given ∙ given_done (size_of (length c.args.levels.now)) _ 0 sized)

pub returns-in_err-size_within : goal.returns-in_err-size_within
returns-in_err-size_within c =
    let p = err_from_is_err_and c.from_residual-in_err-size_within.result c.from_residual-in_err-size_within.ensures.1 in
    rw (p.1, p.2)
    (judge_size _ _ _ (group (goal.at.returns-in_err-size_within c).In_ok-n).0 c.in_err-size_within.ensures.number (not_done c.in_err-size_within.field-0.0))

-- past the second the target's is too
size : (c : In_ok-size_within) → size_of c.args.target.n ≡ 0
size c = sym c.in_ok-size_within.ensures.number

pub returns-then-target-n : goal.returns-then-target-n
returns-then-target-n c =
    let g = group (goal.at.returns-then-target-n c).In_ok-n in
    let s = size (goal.at.returns-then-target-n c).In_ok-size_within in
    elim c.then-target-n.branch [
      | then-target-n-via-then-target-n w ↦ judge_other _ _ _ g.0 s (λ e. w.if-target-n.true (e ∙ sym g.1))
      | then-target-n-via-else-target-n+then-room-n w ↦ judge_short _ _ _ g.0 s (w.if-target-n.false ∙ g.1) (omega (arith, g.1, w.if-room-n.true))
    ]

pub returns-in_err-check : goal.returns-in_err-check
returns-in_err-check c =
    let g = group (goal.at.returns-in_err-check c).In_ok-n in
    let s = size (goal.at.returns-in_err-check c).In_ok-size_within in
    let p = err_from_is_err_and c.from_residual-in_err-check.result c.from_residual-in_err-check.ensures.1 in
    rw (p.1, p.2)
    (judge_muddle _ _ _ g.0 s (c.if-target-n.false ∙ g.1) (omega (arith, g.1, c.if-room-n.false)) (check_number _ c.in_err-check.ensures) (not_done c.in_err-check.field-0.0))

pub returns : goal.returns
returns c =
    let g = group (goal.at.returns c).In_ok-n in
    let s = size (goal.at.returns c).In_ok-size_within in
    c.read_number.ensures
    ∙ judge_levels _ _ _ g.0 s (c.if-target-n.false ∙ g.1) (omega (arith, g.1, c.if-room-n.false)) (sym (check_number _ c.in_ok-check.ensures))
