-- Reasons as an enum: the number of each, and the number and the value that a `Result` has. Assumes nothing.
use Rattle.std.specs.Prelude.{ℕ, Result, Ok, Err}
use Rattle.theory.specs.Reasons.{done, size, fit, muddle, tie, value, ceiling, idle, sheet, paper, unsure}
use Rattle.permutation.specs.declared.reasons.Refusal.{Refusal}
use Rattle.permutation.specs.declared.reasons.Refusal.TheVariants.{Size, Fit, Muddle, Tie, Value, Ceiling, Idle, Sheet, Paper, Unsure}

-- document 01, "Why a job is sent back": the number of each word
abbrev pub number_of : Refusal → ℕ
number_of Size = size
number_of Fit = fit
number_of Muddle = muddle
number_of Tie = tie
number_of Value = value
number_of Ceiling = ceiling
number_of Idle = idle
number_of Sheet = sheet
number_of Paper = paper
number_of Unsure = unsure

-- "Done is number 0."
abbrev pub number_in : {A : Type 0} → Result A Refusal → ℕ
number_in (Ok a) = done
number_in (Err e) = number_of e

-- what is given beside the number: the value of a job that is done, and z of one that is refused
abbrev pub given_in : {A : Type 0} → A → Result A Refusal → A
given_in z (Ok a) = a
given_in z (Err e) = z
