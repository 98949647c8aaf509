-- The outcome of a sheet in memory, and what `work_sheet` answers for all inputs. Assumes nothing.
use Rattle.ranking.specs.declared.zero.Zero.TheVariants.{Old}
use Rattle.std.specs.Prelude.{ℕ, length, Result}
use Rattle.permutation.specs.Refusals.{number_in, given_in}
use Rattle.permutation.specs.declared.reasons.Refusal.{Refusal}
use Rattle.charge.specs.Answers.{no_pushes}
use Rattle.charge.specs.declared.answers.Pushes.{Pushes}
use Rattle.sheet.specs.Bytes.{Got, fault, got, number_of}
use Rattle.sheet.specs.Sheet.{Contents}
use Rattle.theory.specs.Lists.{padded}
use Rattle.sheet.specs.Held.{groups_of, no_contents}
use Rattle.work.specs.Work.{answers_of, groups_left, zeros_left, values_left}
use Rattle.work.specs.declared.answers.Outcome.{Outcome}

-- what stands past the last answer
abbrev pub no_answer : Pushes
no_answer = no_pushes 0

-- what working through a sheet gives, in rows filled from the front
unfoldable pub outcome_of : Contents → Outcome
outcome_of c = record {
  count = length c.entries;
  answers = padded 1000 no_answer (answers_of c);
  groups = groups_of (groups_left c);
  zeros = padded 64 Old (zeros_left c);
  values = padded 64 0 (values_left c);
}

-- an answer as the paper gives it: a number, and an outcome
pub record Worked : Type 0 where
  pub number : ℕ
  pub outcome : Outcome

abbrev pub as_worked : Result Outcome Refusal → Worked
as_worked r = record { number = number_in r; outcome = given_in (outcome_of no_contents) r }

-- number 0 and the outcome, or the fault's number and nothing: "Only a sheet without fault starts work."
unfoldable pub work_answer : Got Contents → Worked
work_answer (fault f) = record { number = number_of f; outcome = outcome_of no_contents }
work_answer (got c end) = record { number = 0; outcome = outcome_of c }
