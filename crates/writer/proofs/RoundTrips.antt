-- What was answered for a held sheet, beside what is read. Assumes nothing.
use mathlib.Core.Path.{◌≡◌, refl, sym, ap, ◌∙◌}
use mathlib.Core.List.{List}
use Prim.Native.Nat.{ℕ, ◌≤◌}
use native.Mathlib.Omega.{arith}
use borrow.Author.Tests.{leb-true, le-leb}
use lib.Dec.{leb}
use lib.ListN.{length, take}
use lib.Seq.{take-append_seam}
use Rattle.theory.proofs.Cases.{by_name}
use Rattle.theory.proofs.Refusal.{or_else_done, tested}
use Rattle.sheet.specs.Bytes.{got}
use Rattle.sheet.specs.Sheet.{Contents, sheet}
use Rattle.sheet.specs.Held.{held_of, sheet_answer}
use Rattle.sheet.specs.Claims.{longest_sheet}
use Rattle.sheet.specs.Typed.{SheetTyped}
use Rattle.sheet.specs.declared.held.Sheet.{Sheet}
use Rattle.sheet.specs.Held.{SheetRead}
use Rattle.sheet.proofs.FaultNumbers.{sheet_tells_fault, answered_got}
use Rattle.encoding.specs.SheetBytes.{sheet_bytes}
use Rattle.encoding.specs.Said.{said}
use Rattle.encoding.specs.Faults.{sheet_number}
use Rattle.writer.specs.Answers.{write_number, write_answer, written_on}
use Rattle.writer.specs.RoundTrips.{RoundTrips}
use Rattle.writer.specs.declared.answers.Written.{Written}
use Rattle.encoding.proofs.Claims.{writing}

-- a held sheet that was read
found : (s : List ℕ) (h : Sheet) → sheet_answer (sheet s) ≡ record { number = 0; sheet = h } → (c : Contents) × (end : ℕ) × (sheet s ≡ got c end) × (h ≡ held_of c)
unfolding sheet_answer
found s h e =
    let g = answered_got sheet_tells_fault (record { number = 0; sheet = h }) (sheet s) (sym e) refl in
    (g.0, g.1, g.2, ap (λ (r : SheetRead). r.sheet) g.3)

module _ (h : Sheet) (out : List ℕ) where
  -- a sheet that is not refused, on a list that has the room
  answered : sheet_number h ≡ 0 → length (sheet_bytes h) ≤ length out
      → (write_answer h (length out) ≡ record { number = 0; length = length (sheet_bytes h) }) × (take (length (sheet_bytes h)) (written_on h out) ≡ sheet_bytes h)
  unfolding write_answer written_on write_number
  answered none room =
      let fits = le-leb (length (sheet_bytes h)) (length out) room in
      (rw (none, fits), rw (none, fits) (take-append_seam (sheet_bytes h) _))

  -- and no other is done
  done_so : (write_answer h (length out)).number ≡ 0 → (sheet_number h ≡ 0) × (length (sheet_bytes h) ≤ length out)
  unfolding write_answer write_number
  done_so z =
      let parts = or_else_done (sheet_number h) _ z in
      (parts.0, leb-true (length (sheet_bytes h)) (length out) (tested (leb (length (sheet_bytes h)) (length out)) (λ e. omega arith) parts.1))

  module _ (typed : SheetTyped h) where
    room_so : longest_sheet ≤ length out → (write_answer h (length out)).number ≡ sheet_number h
    unfolding write_answer write_number
    room_so room =
        by_name (sheet_number h) 0
        (λ none e. rw (none, le-leb (length (sheet_bytes h)) (length out) (omega (arith, writing.short h typed none))))
        (λ some e. rw e)

    read_so : sheet_number h ≡ 0 → sheet_answer (sheet (sheet_bytes h)) ≡ record { number = 0; sheet = held_of (said h) }
    unfolding sheet_answer
    read_so none = rw (writing.read_again h typed none)

    -- what was written is read as what is said
    read_back : (write_answer h (length out)).number ≡ 0
        → sheet_answer (sheet (take (write_answer h (length out)).length (written_on h out))) ≡ record { number = 0; sheet = held_of (said h) }
    read_back z = let d = done_so z in let a = answered d.0 d.1 in rw (a.0, a.1) (read_so d.0)

    pub round_trips : {r : Written} {left : List ℕ} → r ≡ write_answer h (length out) → left ≡ written_on h out → RoundTrips h out r left
    round_trips {r} {left} is on = rw (is, on) record {
      read = read_back;
      same = λ z. writing.same h typed (done_so z).0;
      itself = λ s e z. (
          let f = found s h e in
          let same : held_of (said h) ≡ h = rw f.3 (ap held_of (writing.says s f.0 f.1 f.2)) in
          rw same at (read_back z));
      again = λ s bytes e room. (
          let f = found s h e in
          let bytes_are : sheet_bytes h ≡ s = rw f.3 (writing.written_again s bytes f.0 f.1 f.2) in
          let a = answered (rw f.3 (writing.accepted s f.0 f.1 f.2)) (rw bytes_are room) in
          rw a.0 (refl, ap length bytes_are, a.1 ∙ bytes_are));
      room = room_so;
    }
