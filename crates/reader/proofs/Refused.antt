-- A refusal that has a fault's number is the answer to that fault; and what a sheet of no group is answered. Assumes nothing.
use mathlib.Core.Path.{◌≡◌, refl, sym, ap, ◌∙◌}
use mathlib.Core.List.{List}
use Prim.Native.Nat.{ℕ, ◌<◌}
use lib.ListN.{length, get_or}
use Rattle.std.specs.Prelude.{Err}
use Rattle.permutation.specs.Refusals.{number_of as reason}
use Rattle.permutation.specs.declared.reasons.Refusal.{Refusal}
use Rattle.sheet.specs.Bytes.{Fault, number_of, Got, fault}
use Rattle.sheet.specs.Sheet.{Contents, sheet}
use Rattle.sheet.specs.Held.{no_contents, held_of, SheetRead, as_sheet, sheet_answer}
use Rattle.sheet.proofs.ByTests.{sheet_few}

pub refused : (e : Refusal) (o : Got Contents) {f : Fault} → o ≡ fault f → reason e ≡ number_of f → as_sheet (Err e) ≡ sheet_answer o
unfolding sheet_answer
refused e o is why = rw is (λ i. record { number = why i; sheet = held_of no_contents })

-- a sheet of less than one group is refused
pub few_refused : (s : List ℕ) (r : SheetRead) → r ≡ record { number = 8; sheet = held_of no_contents } → 0 < length s → get_or s 0 0 < 1
    → r ≡ sheet_answer (sheet s)
unfolding sheet_answer
few_refused s r e here low = e ∙ ap sheet_answer (sym (sheet_few s _ here refl low))
