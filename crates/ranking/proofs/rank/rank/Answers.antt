-- `ranking::rank::rank` meets its contract: the digits determine the rank. Assumes nothing.
use mathlib.Core.Path.{◌≡◌, sym, ap, ◌∙◌}
use native.Mathlib.Omega.{arith}
use borrow.Author.Tests.{ne_eqb}
use Rattle.std.proofs.lemmas.Result.{err_from_is_err_and}
use Rattle.theory.specs.Permutation.{row}
use Rattle.theory.specs.Rank.{digits}
use Rattle.permutation.specs.Records.{list_of}
use Rattle.ranking.specs.Answers.{digits_answer, rank_answer}
use Rattle.ranking.specs.declared.answers.Digits.{Digits}
use Rattle.permutation.proofs.Refusals.{not_done}
use Rattle.permutation.proofs.Records.{Sound, sound}
use Rattle.ranking.proofs.Values.{digits_bounded, row_rank}
use borrow.Author.Rules.{rules}
use Rattle.ranking.proofs.rank.rank.Goals as goal
use Rattle.ranking.proofs.rank.rank.Goals.{In_ok-row}

pub returns-in_err-row : goal.returns-in_err-row
unfolding digits_answer rank_answer
returns-in_err-row c =
    let p = err_from_is_err_and c.from_residual.result c.from_residual.ensures.1 in
    rw (p.1, p.2, ← ap (λ (d : Digits). d.number) c.in_err-row.ensures, ne_eqb _ _ (not_done c.in_err-row.field-0.0))

-- where there are digits the record is a permutation's, and the row is that of its digits
sound-now : (c : In_ok-row) → Sound c.args.permutation
unfolding digits_answer
sound-now c = sound c.args.permutation (search rules) (sym (ap (λ (d : Digits). d.number) c.in_ok-row.ensures))

row_is : (c : In_ok-row) → c.in_ok-row.row ≡ row (digits c.args.permutation.n (list_of c.args.permutation))
unfolding digits_answer
row_is c = ap (λ (d : Digits). d.row) c.in_ok-row.ensures ∙ rw (sound-now c).fault

pub row_value-requires : goal.row_value-requires
row_value-requires c =
    let p = c.args.permutation in
    let done = (goal.at.row_value-requires c).In_ok-row in
    (omega (arith, (sound-now done).few), rw (row_is done) (digits_bounded p.n (list_of p) (sound-now done).many))

pub returns : goal.returns
unfolding rank_answer
returns c =
    let p = c.args.permutation in
    let done = (goal.at.returns c).In_ok-row in
    rw ((sound-now done).fault, c.row_value.ensures, row_is done, row_rank p.n (list_of p) (sound-now done).many)
