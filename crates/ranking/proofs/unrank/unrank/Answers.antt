-- `ranking::unrank::unrank` meets its contract: the row of zeros is filled with the cells by spots, which are those of the rank. Assumes nothing.
use mathlib.Core.Path.{◌≡◌, sym, ap, ◌∙◌}
use mathlib.Core.List.{[]}
use Prim.Native.Nat.{◌≤◌}
use native.Mathlib.Omega.{arith}
use borrow.Author.Tests.{lt-ltb, le-ltb}
use Rattle.std.proofs.lemmas.Result.{err_from_is_err_and}
use Rattle.theory.specs.Refusal.{size_of}
use Rattle.theory.specs.Factorial.{factorial}
use Rattle.theory.specs.Unrank.{unrank}
use Rattle.theory.proofs.Refusal.{refused, answered, or_else_refused, size_range, given_done}
use Rattle.permutation.specs.declared.answers.Permutation.{Permutation}
use Rattle.permutation.proofs.Refusals.{not_done}
use Rattle.permutation.proofs.Answering.{permuted_with}
use Rattle.ranking.specs.Answers.{unrank_number, unrank_answer}
use Rattle.ranking.proofs.Unranking.{unrank_record}
use Rattle.ranking.proofs.unrank.unrank.Goals as goal
use Rattle.ranking.proofs.unrank.unrank.Goals.{After-small_factorial, In_ok-within}

pub returns-in_err-within : goal.returns-in_err-within
unfolding unrank_answer unrank_number
returns-in_err-within c =
    let a = c.args in
    let p = err_from_is_err_and c.from_residual.result c.from_residual.ensures.1 in
    let ne = not_done c.in_err-within.field-0.0 in
    rw (p.1, p.2) (refused permuted_with (unrank a.n a.rank) [] (or_else_refused (size_of a.n) _ c.in_err-within.ensures.number ne) ne)

-- past the first test n is in its range
sized : (c : In_ok-within) → let n = c.args.n in (size_of n ≡ 0) × (c.in_ok-within.within ≡ n)
sized c =
    let n = c.args.n in
    (sym c.in_ok-within.ensures.number, c.in_ok-within.ensures.given ∙ given_done (size_of n) n 0 (sym c.in_ok-within.ensures.number))

few : (c : In_ok-within) → c.in_ok-within.within ≤ 20
few c = let s = sized c in rw s.1 (size_range _ s.0).1

pub small_factorial-requires : goal.small_factorial-requires
small_factorial-requires c = few (goal.at.small_factorial-requires c).In_ok-within

-- the limit that the rank is compared with
limit : (c : After-small_factorial) → c.small_factorial.result ≡ factorial c.args.n
limit c = c.small_factorial.ensures ∙ ap factorial (sized (goal.at.After-small_factorial c).In_ok-within).1

pub returns-then-small_factorial-rank : goal.returns-then-small_factorial-rank
unfolding unrank_answer unrank_number
returns-then-small_factorial-rank c =
    let a = c.args in
    let at = goal.at.returns-then-small_factorial-rank c in
    let high = le-ltb a.rank (factorial a.n) (omega (arith, limit at.After-small_factorial, c.if-small_factorial-rank.true)) in
    refused permuted_with (unrank a.n a.rank) [] (rw ((sized at.In_ok-within).0, high)) (λ z. omega arith)

pub filled_row-cells-requires : goal.filled_row-cells-requires
filled_row-cells-requires c = few (goal.at.filled_row-cells-requires c).In_ok-within

pub returns : goal.returns
unfolding unrank_answer unrank_number
returns c =
    let a = c.args in
    let at = goal.at.returns c in
    let s = sized at.In_ok-within in
    let below = lt-ltb a.rank (factorial a.n) (omega (arith, limit at.After-small_factorial, c.if-small_factorial-rank.false)) in
    ap (λ (p : Permutation). record { number = 0; permutation = p }) (unrank_record _ a.rank _ (few at.In_ok-within) c.filled_row-cells.ensures)
    ∙ rw s.1 (answered permuted_with (unrank a.n a.rank) [] (rw (s.0, below)))
