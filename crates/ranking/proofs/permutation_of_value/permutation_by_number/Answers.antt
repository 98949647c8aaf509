-- `ranking::permutation_of_value::permutation_by_number` meets its contract: the reasons of the job itself come first. Assumes nothing.
use mathlib.Core.Path.{◌∙◌}
use mathlib.Core.List.{[]}
use Rattle.std.proofs.lemmas.Result.{err_from_is_err_and}
use Rattle.theory.proofs.Refusal.{refused, or_else_refused}
use Rattle.permutation.proofs.Refusals.{not_done}
use Rattle.permutation.proofs.Answering.{permuted_with}
use Rattle.ranking.specs.Answers.{unrank_number, permutation_of_value_answer, permutation_by_number_answer}
use Rattle.ranking.specs.Zeros.{permutation_on, zero_number, numbered_zero}
use Rattle.ranking.proofs.permutation_of_value.permutation_by_number.Goals as goal

pub returns-in_err-limit_above : goal.returns-in_err-limit_above
unfolding permutation_by_number_answer
returns-in_err-limit_above c =
    let a = c.args in
    let p = err_from_is_err_and c.from_residual.result c.from_residual.ensures.1 in
    let ne = not_done c.in_err-limit_above.field-0.0 in
    rw (p.1, p.2)
    (refused permuted_with (permutation_on (numbered_zero a.zero) a.n a.value) []
    (or_else_refused (unrank_number a.n a.value) (zero_number a.zero) c.in_err-limit_above.ensures.number ne) ne)

pub returns-in_err-try_from : goal.returns-in_err-try_from
unfolding permutation_by_number_answer
returns-in_err-try_from c =
    let a = c.args in
    let p = err_from_is_err_and c.from_residual-in_err-try_from.result c.from_residual-in_err-try_from.ensures.1 in
    rw (p.1, p.2, ← c.in_ok-limit_above.ensures.number)
    (refused permuted_with (permutation_on (numbered_zero a.zero) a.n a.value) [] c.in_err-try_from.ensures.0 (not_done c.in_err-try_from.field-0.0))

pub returns : goal.returns
unfolding permutation_of_value_answer permutation_by_number_answer
returns c = c.permutation_of_value.ensures ∙ rw (← c.in_ok-limit_above.ensures.number, ← c.in_ok-try_from.ensures.0, ← c.in_ok-try_from.ensures.1)
