-- What `write_sheet` answers, and the list that it leaves, for all inputs. Assumes nothing.
use Rattle.std.specs.Prelude.{cond, List, ℕ, leb, length, Result}
use Rattle.theory.specs.Reasons.{done, paper}
use Rattle.theory.specs.Refusal.{given, or_else}
use Rattle.permutation.specs.Refusals.{number_in, given_in}
use Rattle.permutation.specs.declared.reasons.Refusal.{Refusal}
use Rattle.sheet.specs.Putting.{onto}
use Rattle.sheet.specs.declared.held.Sheet.{Sheet}
use Rattle.encoding.specs.SheetBytes.{sheet_bytes}
use Rattle.encoding.specs.Faults.{sheet_number}
use Rattle.writer.specs.declared.answers.Written.{Written}

-- "9 paper, when the lent list is shorter than the sheet; it comes after all others"
unfoldable pub write_number : Sheet → ℕ → ℕ
write_number sheet room = or_else (sheet_number sheet) (cond (leb (length (sheet_bytes sheet)) room) done paper)

-- "When done, the job gives the sheet's length"; refused, "0 for every other number"
unfoldable pub write_answer : Sheet → ℕ → Written
write_answer sheet room = record { number = write_number sheet room; length = given (write_number sheet room) (length (sheet_bytes sheet)) 0 }

-- "bytes past it keep their values"; refused, "no change in any lent list"
unfoldable pub written_on : Sheet → List ℕ → List ℕ
written_on sheet out = given (write_number sheet (length out)) (onto (sheet_bytes sheet) out) out

-- what writing gives, as C gets it: a number, and the sheet's length, or 0 where it is refused
abbrev pub as_written : Result ℕ Refusal → Written
as_written r = record { number = number_in r; length = given_in 0 r }
