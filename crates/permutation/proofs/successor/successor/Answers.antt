-- `permutation::successor::successor` meets its contract. Assumes nothing.
use mathlib.Core.Path.{◌≡◌, ap, ◌∙◌}
use lib.ListN.{length}
use Rattle.permutation.specs.Records.{list_of}
use borrow.Author.Tests.{ne_eqb}
use borrow.Author.Rules.{rules}
use Rattle.std.proofs.lemmas.Result.{err_from_is_err_and}
use Rattle.permutation.specs.Answers.{successor_answer}
use Rattle.permutation.proofs.Refusals.{not_done}
use Rattle.permutation.proofs.Records.{Sound}
use Rattle.permutation.proofs.Checking.{check_number, check_sound}
use Rattle.permutation.proofs.successor.successor.Goals as goal
use Rattle.permutation.proofs.successor.successor.Goals.{In_ok-check, After-names}

pub returns-in_err-check : goal.returns-in_err-check
unfolding successor_answer
returns-in_err-check c =
    let p = err_from_is_err_and c.from_residual.result c.from_residual.ensures.1 in
    rw (p.1, p.2, ← check_number c.args.permutation c.in_err-check.ensures, ne_eqb _ _ (not_done c.in_err-check.field-0.0))

-- past the test, the record is a permutation's
sound-now : (c : In_ok-check) → Sound c.args.permutation
sound-now c = check_sound _ c.in_ok-check.ensures (search rules) (search rules)

pub names-requires : goal.names-requires
names-requires c = (sound-now (goal.at.names-requires c).In_ok-check).many

-- the names that are handed on are those of the record, n of them
handed : (c : After-names) → (c.names.result.now ≡ list_of c.args.permutation) × (length c.names.result.now ≡ c.args.permutation.n)
handed c =
    let s = sound-now (goal.at.After-names c).In_ok-check in
    (c.names.ensures, ap length c.names.ensures ∙ s.permutation.long)

pub decide-requires : goal.decide-requires
decide-requires c =
    let s = sound-now (goal.at.decide-requires c).In_ok-check in
    let h = handed (goal.at.decide-requires c).After-names in
    rw h.1 s.many

pub returns : goal.returns
unfolding successor_answer
returns c =
    let s = sound-now (goal.at.returns c).In_ok-check in
    let h = handed (goal.at.returns c).After-names in
    rw (c.decide.ensures, s.fault, h.1, h.0)
