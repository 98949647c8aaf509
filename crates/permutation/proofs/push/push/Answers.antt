-- `permutation::push::push` meets its contract. Assumes nothing.
use Prim.Native.Nat.{◌≤◌}
use native.Mathlib.Omega.{arith}
use borrow.Author.Rules.{rules}
use Rattle.std.proofs.lemmas.Result.{err_from_is_err_and}
use Rattle.permutation.proofs.Refusals.{not_done}
use Rattle.permutation.proofs.Records.{Sound}
use Rattle.permutation.proofs.Checking.{check_number, check_sound}
use Rattle.permutation.proofs.Answering.{push_fault, push_outside, push_done}
use Rattle.permutation.proofs.push.push.Goals as goal
use Rattle.permutation.proofs.push.push.Goals.{In_ok-check}

pub returns-in_err-check : goal.returns-in_err-check
returns-in_err-check c =
    let p = err_from_is_err_and c.from_residual.result c.from_residual.ensures.1 in
    rw (p.1, p.2) (push_fault c.args.permutation c.args.place (check_number _ c.in_err-check.ensures) (not_done c.in_err-check.field-0.0))

-- past the test, the record is a permutation's
sound-now : (c : In_ok-check) → Sound c.args.permutation
sound-now c = check_sound _ c.in_ok-check.ensures (search rules) (search rules)

pub returns-then-not-contains : goal.returns-then-not-contains
returns-then-not-contains c = push_outside c.args.permutation c.args.place (sound-now (goal.at.returns-then-not-contains c).In_ok-check).fault (λ low high. absurd (search rules))

pub pushed_row-cells-requires : goal.pushed_row-cells-requires
pushed_row-cells-requires c =
    let many = (sound-now (goal.at.pushed_row-cells-requires c).In_ok-check).many in
    let low : 2 ≤ c.args.place = search rules in
    let high : c.args.place ≤ c.args.permutation.n = search rules in
    (omega arith, omega arith)

pub returns : goal.returns
returns c =
    let low : 2 ≤ c.args.place = search rules in
    let high : c.args.place ≤ c.args.permutation.n = search rules in
    push_done c.args.permutation c.args.place _ (sound-now (goal.at.returns c).In_ok-check) low high c.pushed_row-cells.ensures
