-- From the outcome of a sheet of bytes to its text. Assumes nothing.
use mathlib.Core.Path.{◌≡◌, ap}
use mathlib.Core.List.{List, ◌++◌}
use Prim.Native.Nat.{ℕ, ◌-◌, ◌≤◌}
use native.Mathlib.Omega.{arith}
use lib.ListN.{length, take, replicate}
use lib.Seq.{take_at}
use Rattle.theory.proofs.Padding.{padded_length}
use Rattle.sheet.specs.Bytes.{got}
use Rattle.sheet.specs.Sheet.{Contents, sheet}
use Rattle.sheet.specs.Held.{groups_in}
use Rattle.sheet.specs.Standing.{GroupsHeld}
use Rattle.sheet.proofs.FaultNumbers.{answered_fault, answered_got}
use Rattle.sheet.proofs.InMemory.{groups_back}
use Rattle.sheet.proofs.Claims.{sheets}
use Rattle.work.specs.Work.{answers_of, groups_left, values_left}
use Rattle.work.specs.Answers.{Worked, no_answer, outcome_of, work_answer}
use Rattle.work.specs.declared.answers.Outcome.{Outcome}
use Rattle.work.proofs.Working.{answers_length, groups_after_all_held, values_length}
use Rattle.work.proofs.Outcomes.{worked_tells_fault}
use Rattle.layout.specs.Text.{fault_line, command_lines, group_lines, text_of}

-- an outcome that has room, and whose lines are the text of a sheet of bytes
pub record Printable (s : List ℕ) (o : Outcome) : Type 0 where
  pub few : o.count ≤ 1000
  pub long : length o.answers ≡ 1000
  pub groups_held : GroupsHeld o.groups
  pub text :
      command_lines 1 (take o.count o.answers) ++ group_lines 0 (take o.groups.count o.values) (groups_in o.groups) ≡ text_of (sheet s)

printable_of : (s : List ℕ) (c : Contents) (end : ℕ) → sheet s ≡ got c end → Printable s (outcome_of c)
unfolding outcome_of text_of
printable_of s c end e =
    let v = sheets.valid s c end e in
    let many : length (answers_of c) ≡ length c.entries = answers_length c.groups c.entries in
    record {
      few = v.short;
      long = padded_length 1000 no_answer (answers_of c) (omega (arith, v.short));
      groups_held = groups_after_all_held c c.entries v;
      text =
          rw (
            e,
            take_at (answers_of c) (replicate (1000 - length (answers_of c)) no_answer) (length c.entries) many,
            take_at (values_left c) (replicate (64 - length (values_left c)) 0) (length (groups_left c)) (values_length c v),
            groups_back (groups_left c),
          );
    }

module _ (s : List ℕ) (r : Worked) (is : r ≡ work_answer (sheet s)) where
  pub printable : r.number ≡ 0 → Printable s r.outcome
  unfolding work_answer
  printable z =
      let found = answered_got worked_tells_fault r (sheet s) is z in
      let same : r.outcome ≡ outcome_of found.0 = ap (λ (r : Worked). r.outcome) found.3 in
      rw same (printable_of s found.0 found.1 found.2)

  pub fault_text : (r.number ≡ 0 → ⊥) → fault_line r.number ≡ text_of (sheet s)
  unfolding text_of
  fault_text ne =
      let bad = answered_fault worked_tells_fault r (sheet s) is ne in
      rw bad.1 (ap fault_line bad.2)
