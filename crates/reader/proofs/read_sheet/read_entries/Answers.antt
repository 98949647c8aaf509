-- `reader::read_sheet::read_entries` meets its contract: the first i commands are in the row, and the rest is read from `at` on. Assumes nothing.
use mathlib.Core.Path.{◌≡◌, refl, ap}
use Prim.Native.Nat.{◌≤◌}
use native.Mathlib.Omega.{arith}
use lib.ListN.{length, take}
use Rattle.std.proofs.lemmas.Result.{err_from_is_err_and}
use Rattle.permutation.proofs.Refusals.{not_done}
use Rattle.sheet.specs.Sheet.{command}
use Rattle.sheet.specs.Held.{no_entry}
use Rattle.sheet.specs.Parts.{EntryRead, entry_answer}
use Rattle.sheet.proofs.FaultNumbers.{entry_tells_fault, answered_fault, answered_got}
use Rattle.reader.proofs.Loops.{front_long, turns_start, turns_more, turns_stop, turns_all, turns_row}
use Rattle.reader.proofs.read_sheet.read_entries.Invariants.{same}
use Rattle.reader.proofs.read_sheet.read_entries.Goals as goal
use Rattle.reader.proofs.read_sheet.read_entries.Goals.{At-loop-entry}

-- the part has as many commands as are read
part_long : (c : At-loop-entry) → length (take c.args.count c.args.entries.now) ≡ c.args.count
part_long c = front_long no_entry c.requires.2 c.requires.0

pub loop-entry-init : goal.loop-entry-init
loop-entry-init c = turns_start c.requires.2 c.requires.0 same (command c.args.sizes.now c.args.s.now) c.args.from

pub returns-in_err-command : goal.returns-in_err-command
returns-in_err-command c =
    let p = err_from_is_err_and c.from_residual.result c.from_residual.ensures.1 in
    let bad = answered_fault entry_tells_fault _ _ c.in_err-command.ensures (not_done c.in_err-command.field-0.0) in
    let long = part_long (goal.at.returns-in_err-command c).At-loop-entry in
    rw (p.1, p.2) (bad.0, turns_stop c.loop-entry.invariant (omega (arith, long)) bad.0 bad.1, bad.2)

pub loop-entry-preserved : goal.loop-entry-preserved
unfolding entry_answer
loop-entry-preserved c =
    let good = answered_got entry_tells_fault _ _ c.in_ok-command.ensures refl in
    turns_more c.loop-entry.invariant (omega (arith, part_long (goal.at.loop-entry-preserved c).At-loop-entry)) (omega arith) good.0 good.1 good.2 _ _
    (ap (λ (r : EntryRead). r.entry) good.3) (ap (λ (r : EntryRead). r.next) good.3)

pub returns : goal.returns
returns c =
    let inv = c.loop-entry.invariant in
    let done : c.args.count ≤ c.loop-entry.entry-index = omega (arith, part_long (goal.at.returns c).At-loop-entry) in
    (inv.read, turns_all inv done, turns_row c.requires.2 c.requires.0 inv done)
