-- `ranking::value::value_by_number` meets its contract: the reasons of the job itself come first. Assumes nothing.
use borrow.Author.Rules.{rules}
use borrow.Author.Tests.{ne_eqb}
use Rattle.std.proofs.lemmas.Result.{err_from_is_err_and}
use Rattle.theory.specs.Zero.{value_from}
use Rattle.theory.proofs.Splits.{rank_lt}
use Rattle.permutation.specs.Records.{list_of}
use Rattle.permutation.proofs.Refusals.{not_done}
use Rattle.permutation.proofs.Records.{Sound}
use Rattle.ranking.specs.Answers.{value_by_number_answer}
use Rattle.ranking.proofs.Values.{rank_number, rank_sound, rank_is}
use Rattle.ranking.proofs.value.value_by_number.Goals as goal
use Rattle.ranking.proofs.value.value_by_number.Goals.{In_ok-found}

pub returns-in_err-found : goal.returns-in_err-found
unfolding value_by_number_answer
returns-in_err-found c =
    let p = err_from_is_err_and c.from_residual.result c.from_residual.ensures.1 in
    rw (p.1, p.2, ← rank_number _ c.in_err-found.ensures, ne_eqb _ _ (not_done c.in_err-found.field-0.0), ne_eqb _ _ (not_done c.in_err-found.field-0.0))

-- where there is a rank the record is a permutation's
sound-now : (c : In_ok-found) → Sound c.args.permutation
sound-now c = rank_sound _ c.in_ok-found.ensures (search rules) (search rules)

pub returns-in_err-try_from : goal.returns-in_err-try_from
unfolding value_by_number_answer
returns-in_err-try_from c =
    let s = sound-now (goal.at.returns-in_err-try_from c).In_ok-found in
    let p = err_from_is_err_and c.from_residual-in_err-try_from.result c.from_residual-in_err-try_from.ensures.1 in
    rw (p.1, p.2, s.fault, ← c.in_err-try_from.ensures.0, ne_eqb _ _ (not_done c.in_err-try_from.field-0.0))

pub value_of-requires : goal.value_of-requires
value_of-requires c =
    let p = c.args.permutation in
    let s = sound-now (goal.at.value_of-requires c).In_ok-found in
    (s.many, rw (rank_is p c.in_ok-found.ensures s) (rank_lt p.n (list_of p)))

pub returns : goal.returns
unfolding value_by_number_answer value_from
returns c =
    let s = sound-now (goal.at.returns c).In_ok-found in
    rw (s.fault, ← c.in_ok-try_from.ensures.0, ← c.in_ok-try_from.ensures.1, c.value_of.ensures, rank_is _ c.in_ok-found.ensures s)
