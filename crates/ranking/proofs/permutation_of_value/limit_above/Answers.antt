-- `ranking::permutation_of_value::limit_above` meets its contract: each return goes by the tests that led there. Assumes nothing.
use mathlib.Core.Path.{◌≡◌, sym, ap, ◌∙◌}
use native.Mathlib.Omega.{arith}
use borrow.Author.Tests.{lt-ltb, le-ltb}
use Rattle.std.proofs.lemmas.Result.{err_from_is_err_and}
use Rattle.theory.specs.Refusal.{size_of}
use Rattle.theory.specs.Factorial.{factorial}
use Rattle.theory.proofs.Refusal.{or_else_refused, size_range, given_done}
use Rattle.permutation.proofs.Refusals.{not_done}
use Rattle.ranking.specs.Answers.{unrank_number}
use Rattle.ranking.proofs.permutation_of_value.limit_above.Goals as goal
use Rattle.ranking.proofs.permutation_of_value.limit_above.Goals.{After-small_factorial-limit, In_ok-size_within}

pub returns-in_err-size_within-clause-number : goal.returns-in_err-size_within-clause-number
unfolding unrank_number
returns-in_err-size_within-clause-number c =
    let p = err_from_is_err_and c.from_residual.result c.from_residual.ensures.1 in
    rw (p.1, p.2) (or_else_refused (size_of c.args.n) _ c.in_err-size_within.ensures.number (not_done c.in_err-size_within.field-0.0))

-- past the first test n is in its range
sized : (c : In_ok-size_within) → let n = c.args.n in (size_of n ≡ 0) × (c.in_ok-size_within.field-0 ≡ n)
sized c =
    let n = c.args.n in
    let done = sym c.in_ok-size_within.ensures.number in
    (done, c.in_ok-size_within.ensures.given ∙ given_done (size_of n) n 0 done)

pub small_factorial-limit-requires : goal.small_factorial-limit-requires
small_factorial-limit-requires c =
    let s = sized (goal.at.small_factorial-limit-requires c).In_ok-size_within in
    rw s.1 (size_range _ s.0).1

-- the limit is n!
limit : (c : After-small_factorial-limit) → c.small_factorial-limit.result ≡ factorial c.args.n
limit c = c.small_factorial-limit.ensures ∙ ap factorial (sized (goal.at.After-small_factorial-limit c).In_ok-size_within).1

pub returns-then-limit-value-clause-number : goal.returns-then-limit-value-clause-number
unfolding unrank_number
returns-then-limit-value-clause-number c =
    let a = c.args in
    let at = goal.at.returns-then-limit-value-clause-number c in
    rw ((sized at.In_ok-size_within).0, le-ltb a.value (factorial a.n) (omega (arith, limit at.After-small_factorial-limit, c.if-limit-value.true)))

pub returns-clause-number : goal.returns-clause-number
unfolding unrank_number
returns-clause-number c =
    let a = c.args in
    let at = goal.at.returns-clause-number c in
    rw ((sized at.In_ok-size_within).0, lt-ltb a.value (factorial a.n) (omega (arith, limit at.After-small_factorial-limit, c.if-limit-value.false)))

pub returns-clause-limit : goal.returns-clause-limit
returns-clause-limit c = limit (goal.at.returns-clause-limit c).After-small_factorial-limit
