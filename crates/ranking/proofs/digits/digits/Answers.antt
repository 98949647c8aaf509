-- `ranking::digits::digits` meets its contract: the digits by spots are the permutation's digits. Assumes nothing.
use mathlib.Core.Path.{ap}
use mathlib.Core.List.{List}
use Prim.Native.Nat.{ℕ}
use native.Mathlib.Omega.{arith}
use borrow.Author.Rules.{rules}
use borrow.Author.Tests.{ne_eqb}
use Rattle.std.proofs.lemmas.Result.{err_from_is_err_and}
use Rattle.permutation.specs.Records.{list_of}
use Rattle.permutation.specs.Spots.{HasSpots}
use Rattle.ranking.specs.Answers.{digits_answer}
use Rattle.permutation.proofs.Refusals.{not_done}
use Rattle.permutation.proofs.Records.{Sound}
use Rattle.permutation.proofs.Checking.{check_number, check_sound, check_spots}
use Rattle.ranking.proofs.BySpots.{spots_low, read_row}
use Rattle.ranking.proofs.digits.digits.Goals as goal
use Rattle.ranking.proofs.digits.digits.Goals.{In_ok-check_into}

pub returns-in_err-check_into : goal.returns-in_err-check_into
unfolding digits_answer
returns-in_err-check_into c =
    let p = err_from_is_err_and c.from_residual.result c.from_residual.ensures.1 in
    rw (p.1, p.2, ← check_number _ c.in_err-check_into.ensures, ne_eqb _ _ (not_done c.in_err-check_into.field-0.0))

-- past the check the record is a permutation's, and the lent spots are its own
sound-now : (c : In_ok-check_into) → Sound c.args.permutation
sound-now c = check_sound _ c.in_ok-check_into.ensures (search rules) (search rules)

spots-now : (c : In_ok-check_into) → HasSpots (list_of c.args.permutation) c.args.permutation.n c.check_into.new.spots
spots-now c = check_spots _ c.in_ok-check_into.ensures (sound-now c)

pub read_down-requires : goal.read_down-requires
read_down-requires c =
    let done = (goal.at.read_down-requires c).In_ok-check_into in
    let s = sound-now done in
    (s.many, omega arith, omega arith, spots_low s.many s.permutation (spots-now done))

pub returns : goal.returns
unfolding digits_answer
returns c =
    let done = (goal.at.returns c).In_ok-check_into in
    let s = sound-now done in
    rw s.fault
    (ap (λ (l : List ℕ). record { number = 0; row = l }) (read_row s.many s.permutation (spots-now done) c.read_down.ensures))
