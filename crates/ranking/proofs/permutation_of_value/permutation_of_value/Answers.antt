-- `ranking::permutation_of_value::permutation_of_value` meets its contract: it is the permutation of the value's rank. Assumes nothing.
use mathlib.Core.Path.{◌≡◌, ap, ◌∙◌}
use mathlib.Core.List.{[]}
use Prim.Native.Nat.{◌+◌, ◌%◌, ◌≤◌, ◌<◌}
use native.Mathlib.Nat.{mod-lt}
use borrow.Author.Tests.{lt-ltb}
use Rattle.std.proofs.lemmas.Result.{err_from_is_err_and}
use Rattle.theory.specs.Factorial.{factorial}
use Rattle.theory.specs.Rank.{rank}
use Rattle.theory.specs.Zero.{permutation_from}
use Rattle.theory.proofs.Factorials.{factorial_pos}
use Rattle.theory.proofs.Splits.{rank_lt}
use Rattle.theory.proofs.Refusal.{refused}
use Rattle.permutation.proofs.Refusals.{not_done}
use Rattle.permutation.proofs.Answering.{permuted_with}
use Rattle.ranking.specs.Answers.{unrank_number, unrank_answer, permutation_of_value_answer}
use Rattle.ranking.specs.Zeros.{zero_permutation, permutation_on}
use Rattle.ranking.proofs.Table.{factorial_bounded}
use Rattle.ranking.proofs.Unranking.{unrank_taken}
use Rattle.ranking.proofs.permutation_of_value.permutation_of_value.Goals as goal
use Rattle.ranking.proofs.permutation_of_value.permutation_of_value.Goals.{In_ok-limit}

pub returns-in_err-limit : goal.returns-in_err-limit
unfolding permutation_of_value_answer
returns-in_err-limit c =
    let a = c.args in
    let p = err_from_is_err_and c.from_residual.result c.from_residual.ensures.1 in
    rw (p.1, p.2) (refused permuted_with (permutation_on a.zero a.n a.value) [] c.in_err-limit.ensures.number (not_done c.in_err-limit.field-0.0))

-- past the test n is at most 20, and the value below n!
taken : (c : In_ok-limit) → (c.args.n ≤ 20) × (c.args.value < factorial c.args.n)
taken c = unrank_taken c.args.n c.args.value c.in_ok-limit.ensures.number

pub zero_rank-requires : goal.zero_rank-requires
zero_rank-requires c = (taken (goal.at.zero_rank-requires c).In_ok-limit).0

pub plus_modulo-requires : goal.plus_modulo-requires
plus_modulo-requires c =
    let a = c.args in
    let t = taken (goal.at.plus_modulo-requires c).In_ok-limit in
    rw (c.in_ok-limit.ensures.limit, c.zero_rank.ensures)
    (t.1, rank_lt a.n (zero_permutation a.zero a.n), factorial_bounded a.n t.0)

pub returns : goal.returns
unfolding unrank_answer unrank_number permutation_of_value_answer permutation_from
returns c =
    let a = c.args in
    let N = factorial a.n in
    let r = a.value + rank a.n (zero_permutation a.zero a.n) in
    let rank_is : c.plus_modulo.result ≡ r % N = c.plus_modulo.ensures ∙ rw (c.in_ok-limit.ensures.limit, c.zero_rank.ensures) in
    c.unrank.ensures
    ∙ ap (unrank_answer a.n) rank_is
    ∙ rw (lt-ltb a.value N (taken (goal.at.returns c).In_ok-limit).1, lt-ltb (r % N) N (mod-lt r (factorial_pos a.n)))
