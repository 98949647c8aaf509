-- `writer::write_sheet::write_sheet` meets its contract: the sheet is put on a page, and copied where it fits. Assumes nothing.
use mathlib.Core.Path.{◌≡◌, refl}
use mathlib.Core.List.{List}
use Prim.Native.Nat.{ℕ, ◌≤◌}
use native.Mathlib.Omega.{arith}
use lib.ListN.{length, take}
use lib.Seq.{take-length}
use Rattle.std.proofs.lemmas.Result.{err_from_is_err_and}
use Rattle.permutation.proofs.Refusals.{not_done}
use Rattle.writer.specs.Answers.{write_answer, written_on}
use Rattle.writer.specs.RoundTrips.{RoundTrips}
use Rattle.writer.specs.declared.answers.Written.{Written}
use Rattle.sheet.proofs.Putting.{laid_taken}
use Rattle.sheet.proofs.Typed.{sheet_typed}
use Rattle.writer.proofs.RoundTrips.{round_trips}
use Rattle.writer.proofs.Copying.{answer_refused, answer_short, answer_put, length_in}
use Rattle.writer.proofs.write_sheet.write_sheet.Goals as goal
use Rattle.writer.proofs.write_sheet.write_sheet.Goals.{Start}

-- and so the round trips
all : (c : Start) {r : Written} {left : List ℕ}
    → let h = c.args.sheet in
    let out = c.args.out.now in
    (r ≡ write_answer h (length out)) × (left ≡ written_on h out)
    → RoundTrips h out r left × (r.length ≤ length left)
all c p =
    let h = c.args.sheet in
    let out = c.args.out.now in
    (round_trips h out (sheet_typed h _ c.well_formed.0) p.0 p.1, rw (p.0, p.1) (length_in h out))

pub returns-in_err-length : goal.returns-in_err-length
returns-in_err-length c =
    let e = err_from_is_err_and c.from_residual.result c.from_residual.ensures.1 in
    let p = answer_refused _ _ c.in_err-length.ensures.numbered (not_done c.in_err-length.field-0.0) in
    let a = all (goal.at.returns-in_err-length c).Start p in
    rw (e.1, e.2) record { answer = p.0; out_left = p.1; round_trips = a.0; counts = a.1 }

pub returns-then-out-length : goal.returns-then-out-length
returns-then-out-length c =
    let laid = c.in_ok-length.ensures in
    let p = answer_short _ _ laid.numbered (omega (arith, (laid.put refl).end_is, c.if-out-length.true)) in
    let a = all (goal.at.returns-then-out-length c).Start p in
    record { answer = p.0; out_left = p.1; round_trips = a.0; counts = a.1 }

pub returns : goal.returns
returns c =
    let laid = c.in_ok-length.ensures in
    let p = answer_put c.args.sheet c.args.out.now laid.numbered (laid.put refl) c.if-out-length.false
    (rw (c.copy_from_slice.ensures.after, take-length (take c.in_ok-length.length c.put_sheet.new.out), laid_taken (laid.put refl))) in
    let a = all (goal.at.returns c).Start p in
    record { answer = p.0; out_left = p.1; round_trips = a.0; counts = a.1 }
