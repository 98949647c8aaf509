-- What a job gave, by its number. Assumes nothing.
use Rattle.std.proofs.Common.{◌≡◌, refl}
use Rattle.std.specs.Prelude.{Result, Ok, Err}
use Rattle.permutation.specs.Refusals.{number_in}
use Rattle.permutation.specs.Answers.{as_placed}
use Rattle.permutation.specs.declared.reasons.Refusal.{Refusal}
use Rattle.permutation.specs.declared.answers.Step.{Step}
use Rattle.charge.specs.Answers.{as_pushes}
use Rattle.charge.specs.declared.answers.Spent.{Spent}

pub placed_number : (r : Result Step Refusal) → (as_placed r).number ≡ number_in r
placed_number (Ok s) = refl
placed_number (Err e) = refl

pub pushes_number : (r : Result Spent Refusal) → (as_pushes r).number ≡ number_in r
pushes_number (Ok s) = refl
pushes_number (Err e) = refl
