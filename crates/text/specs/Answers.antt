-- What `bench` answers, and the buffer that it leaves, for all inputs. Assumes nothing.
use Rattle.std.specs.Prelude.{cond, List, ℕ, leb, length, Result}
use Rattle.theory.specs.Reasons.{done, fit}
use Rattle.theory.specs.Refusal.{given}
use Rattle.permutation.specs.Refusals.{number_in, given_in}
use Rattle.permutation.specs.declared.reasons.Refusal.{Refusal}
use Rattle.sheet.specs.Putting.{onto}
use Rattle.text.specs.declared.answers.Printed.{Printed}

-- a buffer that is shorter than the text is fit
abbrev pub print_number : List ℕ → ℕ → ℕ
print_number text size = cond (leb (length text) size) done fit

-- the text's length; refused, "0 for every other number"
unfoldable pub print_answer : List ℕ → ℕ → Printed
print_answer text size = record { number = print_number text size; length = given (print_number text size) (length text) 0 }

-- the text at the buffer's start; refused, "no change in any lent list"
unfoldable pub printed_on : List ℕ → List ℕ → List ℕ
printed_on text buffer = given (print_number text (length buffer)) (onto text buffer) buffer

-- what printing gives, as C gets it: a number, and the text's length, or 0 where it is refused
abbrev pub as_printed : Result ℕ Refusal → Printed
as_printed r = record { number = number_in r; length = given_in 0 r }
