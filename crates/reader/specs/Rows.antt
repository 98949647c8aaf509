-- Rows that are filled with what is read one after the other, and a sheet that is. Only inner contracts cite these. Assumes nothing.
use Rattle.std.specs.Prelude.{◌≡◌, Result, Ok, Err, List, map, ℕ}
use Rattle.theory.specs.Lists.{padded}
use Rattle.permutation.specs.Refusals.{number_of as reason}
use Rattle.permutation.specs.declared.reasons.Refusal.{Refusal}
use Rattle.sheet.specs.Bytes.{Fault, number_of, Got, fault, got}
use Rattle.sheet.specs.declared.held.Sheet.{Sheet}

-- the values stand at the front, held as `hold` has them, with z past them, and the place after them is given; or the fault's number is
abbrev pub RowRead : {A B : Type 0} → (A → B) → ℕ → B → Got (List A) → Result ℕ Refusal → List B → Type 0
RowRead {A} hold room z o (Ok end) row = (xs : List A) × (o ≡ got xs end) × (row ≡ padded room z (map hold xs))
RowRead hold room z o (Err e) row = (f : Fault) × (o ≡ fault f) × (reason e ≡ number_of f)

-- the sheet that was filled, or why it was not
abbrev pub filled : Result (Unit {0}) Refusal → Sheet → Result Sheet Refusal
filled (Ok u) sheet = Ok sheet
filled (Err e) sheet = Err e
