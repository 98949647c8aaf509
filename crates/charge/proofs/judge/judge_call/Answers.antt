-- `charge::judge::judge_call` meets its contract: each test decides the number. Assumes nothing.
use mathlib.Core.Path.{◌≡◌, sym, ap, ◌∙◌}
use Prim.Native.Nat.{ℕ}
use native.Mathlib.Omega.{arith}
use Rattle.std.proofs.lemmas.Result.{err_from_is_err_and}
use Rattle.theory.specs.Levels.{highest, read_number}
use Rattle.theory.specs.CountUp.{ceiling_of, call_number}
use Rattle.theory.proofs.Refusal.{refused, answered, or_else_refused, ceiling_refused, ceiling_done}
use Rattle.permutation.proofs.Refusals.{not_done}
use Rattle.charge.specs.Counting.{Call, call_judged}
use Rattle.charge.proofs.judge.judge_call.Goals as goal
use Rattle.charge.proofs.judge.judge_call.Goals.{In_ok-read_number}

-- past the first test the levels have a permutation
faultless : (c : In_ok-read_number) → read_number c.args.levels.now ≡ 0
faultless c = sym c.in_ok-read_number.ensures

-- the answer by its number
abbrev call : ℕ → ℕ → Call
call number top = record { number = number; top = top }

pub returns-in_err-read_number : goal.returns-in_err-read_number
unfolding call_judged call_number
returns-in_err-read_number c =
    let a = c.args in
    let L = a.levels.now in
    let ne = not_done c.in_err-read_number.field-0.0 in
    let p = err_from_is_err_and c.from_residual.result c.from_residual.ensures.1 in
    rw (p.1, p.2) (refused call (highest L) 0 (or_else_refused (read_number L) (ceiling_of L a.k) c.in_err-read_number.ensures ne) ne)

pub returns-then-from-k : goal.returns-then-from-k
unfolding call_judged call_number
returns-then-from-k c =
    let a = c.args in
    let past = ceiling_refused a.levels.now a.k (omega (arith, c.if-from-k.true, c.from.ensures, c.highest-top.ensures)) in
    refused call (highest a.levels.now) 0 (rw (faultless (goal.at.returns-then-from-k c).In_ok-read_number) past) (λ z. omega arith)

pub returns : goal.returns
unfolding call_judged call_number
returns c =
    let a = c.args in
    let room = ceiling_done a.levels.now a.k (omega (arith, c.if-from-k.false, c.from.ensures, c.highest-top.type_inv, c.highest-top.ensures)) in
    ap (call 0) c.highest-top.ensures ∙ answered call (highest a.levels.now) 0 (rw (faultless (goal.at.returns c).In_ok-read_number) room)
