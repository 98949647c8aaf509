-- From a sheet of bytes to its outcome. Assumes nothing.
use mathlib.Core.Path.{◌≡◌, refl, sym, ap, ◌∙◌}
use mathlib.Core.List.{List}
use Prim.Native.Nat.{ℕ}
use Rattle.sheet.specs.Bytes.{got}
use Rattle.sheet.specs.Sheet.{Contents, sheet}
use Rattle.sheet.specs.Held.{SheetRead, no_contents, held_of, contents_of, sheet_answer}
use Rattle.sheet.specs.declared.held.Sheet.{Sheet}
use Rattle.sheet.proofs.FaultNumbers.{TellsFault, sheet_tells_fault, answered_fault, answered_got}
use Rattle.sheet.proofs.Claims.{sheets}
use Rattle.work.specs.Answers.{Worked, outcome_of, work_answer}
use Rattle.sheet.specs.Standing.{SheetHeld}
use Rattle.work.specs.declared.answers.Outcome.{Outcome}

-- bytes that are a sheet without fault, held in memory
pub record Accepted (s : List ℕ) (h : Sheet) : Type 0 where
  pub contents : Contents
  pub end : ℕ
  pub reads : sheet s ≡ got contents end
  pub says : contents_of h ≡ contents
  pub sheet_held : SheetHeld h

pub accepted : (s : List ℕ) (r : SheetRead) → r ≡ sheet_answer (sheet s) → r.number ≡ 0 → Accepted s r.sheet
unfolding sheet_answer
accepted s r e z =
    let found = answered_got sheet_tells_fault r (sheet s) e z in
    let is : r.sheet ≡ held_of found.0 = ap (λ (r : SheetRead). r.sheet) found.3 in
    let valid = sheets.valid s found.0 found.1 found.2 in
    let back : contents_of r.sheet ≡ found.0 = ap contents_of is ∙ sheets.held found.0 valid.zeros in
    record {
      contents = found.0;
      end = found.1;
      reads = found.2;
      says = back;
      sheet_held = record { held = is ∙ ap held_of (sym back); valid = rw back valid };
    }

-- ---- what is answered, by the number of the sheet that was read

module _ (s : List ℕ) (r : SheetRead) (is : r ≡ sheet_answer (sheet s)) {o : Outcome} where
  pub worked_fault : (r.number ≡ 0 → ⊥) → o ≡ outcome_of no_contents
      → ◌≡◌ {A = Worked} (record { number = r.number; outcome = o }) (work_answer (sheet s))
  unfolding work_answer
  worked_fault ne zeros =
      let bad = answered_fault sheet_tells_fault r (sheet s) is ne in
      rw bad.1 (λ i. record { number = bad.2 i; outcome = zeros i })

  pub worked_done : r.number ≡ 0 → o ≡ outcome_of (contents_of r.sheet) → ◌≡◌ {A = Worked} (record { number = 0; outcome = o }) (work_answer (sheet s))
  unfolding work_answer
  worked_done z done =
      let a = accepted s r is z in
      rw a.reads (ap (λ (o : Outcome). record { number = 0; outcome = o }) (done ∙ ap outcome_of a.says))

pub worked_tells_fault : TellsFault (λ (r : Worked). r.number) work_answer
unfolding work_answer
worked_tells_fault = record { bad = λ f. refl; good = λ c end. refl }
