-- `permutation::validity::check_into` meets its contract: each return goes by the tests that led there. Assumes nothing.
use mathlib.Core.Path.{◌≡◌, sym, ap, ◌∙◌}
use mathlib.Core.Bool.{false, and-false}
use Prim.Native.Nat.{ℕ}
use native.Mathlib.Omega.{arith}
use borrow.Author.Rules.{rules}
use lib.ListN.{length, drop}
use Rattle.std.proofs.lemmas.Result.{err_from_is_err_and}
use Rattle.theory.specs.Refusal.{size_of}
use Rattle.theory.proofs.Refusal.{given_done}
use Rattle.permutation.specs.Records.{list_of, once_each, all_zero}
use Rattle.permutation.proofs.Refusals.{not_done}
use Rattle.permutation.proofs.Records.{size_first, fault_muddle}
use Rattle.permutation.proofs.Checking.{check_refused, check_names}
use Rattle.permutation.proofs.validity.check_into.Goals as goal
use Rattle.permutation.proofs.validity.check_into.Goals.{In_ok-n}

pub returns-in_err-n : goal.returns-in_err-n
returns-in_err-n c =
    let p = err_from_is_err_and c.from_residual.result c.from_residual.ensures.1 in
    rw (p.1, p.2) (check_refused c.args.permutation c.args.spots.now (size_first c.args.permutation c.in_err-n.ensures.number (not_done c.in_err-n.field-0.0)) (not_done c.in_err-n.field-0.0))

-- past the test n is in its range
sized : (c : In_ok-n) → let n = c.args.permutation.n in (size_of n ≡ 0) × (c.in_ok-n.n ≡ n)
sized c =
    let n : ℕ = c.args.permutation.n in
    (sym c.in_ok-n.ensures.number, c.in_ok-n.ensures.given ∙ given_done (size_of n) n 0 (sym c.in_ok-n.ensures.number))

pub returns-then-all_zero : goal.returns-then-all_zero
returns-then-all_zero c =
    let p = c.args.permutation in
    let s = sized (goal.at.returns-then-all_zero c).In_ok-n in
    let long : length p.cells ≡ 20 = search rules in
    c.spots_into.ensures ∙ check_names p s.0 long s.1 c.split_at.ensures.front c.split_at.ensures.back (sym c.all_zero.ensures ∙ c.if-all_zero.true)

pub returns : goal.returns
returns c =
    let p = c.args.permutation in
    let s = sized (goal.at.returns c).In_ok-n in
    let more : all_zero (drop p.n p.cells) ≡ false =
    ap (λ (m : ℕ). all_zero (drop m p.cells)) (sym s.1) ∙ ap all_zero (sym c.split_at.ensures.back) ∙ sym c.all_zero.ensures ∙ c.if-all_zero.false in
    check_refused p c.args.spots.now (fault_muddle p s.0 (rw more (and-false (once_each p.n (list_of p))))) (λ z. omega arith)
