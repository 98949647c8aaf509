-- `writer::page::put_commands` meets its contract: the commands up to here had no fault, and were put. Assumes nothing.
use mathlib.Core.Path.{◌≡◌, refl, ◌∙◌}
use mathlib.Core.List.{[]}
use Prim.Native.Nat.{◌≤◌}
use native.Mathlib.Omega.{arith}
use lib.ListN.{length, take}
use Rattle.std.proofs.lemmas.Result.{err_from_is_err_and}
use Rattle.theory.proofs.Padding.{get_or_any}
use Rattle.permutation.proofs.Refusals.{not_done}
use Rattle.sheet.specs.Held.{no_group}
use Rattle.sheet.specs.Typed.{SheetTyped}
use Rattle.sheet.specs.declared.held.Group.{Group}
use Rattle.sheet.proofs.Typed.{sheet_typed, entries_there}
use Rattle.sheet.proofs.Putting.{puts_then}
use Rattle.encoding.specs.SheetBytes.{commands_bytes}
use Rattle.encoding.specs.Faults.{first, entry_number, commands_number}
use Rattle.encoding.proofs.Pieces.{number_end}
use Rattle.encoding.proofs.ByTests.{commands_many, commands_first, entry_stray}
use Rattle.encoding.proofs.Lays.{lays_refused, lays_put, lays_named}
use Rattle.encoding.proofs.PartsPut.{parts_none, parts_stop, parts_next, parts_clear, parts_all}
use Rattle.writer.proofs.page.put_commands.Goals as goal
use Rattle.writer.proofs.page.put_commands.Goals.{At-loop-entry}

typed : (c : At-loop-entry) → SheetTyped c.args.sheet
typed c = sheet_typed c.args.sheet _ c.well_formed.1.1.0

first_is : (c : At-loop-entry) → first (entry_number c.args.sheet.groups) (take c.args.sheet.count c.args.sheet.entries) ≡ commands_number c.args.sheet
first_is c = commands_first _ c.if-sheet-gt1000.false

-- as many commands as are counted are there
all_there : (c : At-loop-entry) → length (take c.args.sheet.count c.args.sheet.entries) ≡ c.args.sheet.count
all_there c = entries_there c.args.sheet (typed c) c.if-sheet-gt1000.false

pub returns-then-sheet-gt1000 : goal.returns-then-sheet-gt1000
returns-then-sheet-gt1000 c = lays_refused refl (commands_many _ c.if-sheet-gt1000.true) (λ z. omega arith)

pub loop-entry-init : goal.loop-entry-init
loop-entry-init c = parts_none _ _ _ _ _ _

pub returns-then-sheet-g : goal.returns-then-sheet-g
returns-then-sheet-g c =
    let past = c.if-sheet-g.true in
    let beyond = entry_stray c.args.sheet.groups _ (rw c.from-g.ensures at past) in
    let stop = parts_stop c.loop-entry.invariant c.loop-entry-test.true _ beyond (λ z. omega arith) in
    lays_refused refl (stop ∙ first_is (goal.at.returns-then-sheet-g c).At-loop-entry) (λ z. omega arith)

-- what stands for a group past the end
abbrev none : Group
none = record { n = 0; levels = [] }

pub put_command-requires : goal.put_command-requires
put_command-requires c =
    let count = c.put_little-at.ensures in
    let row = c.loop-entry.invariant.row in
    let small = c.requires.1 in
    let at = (goal.at.put_command-requires c).At-loop-entry in
    let any = get_or_any c.args.sheet.groups.list c.from-g.result none no_group (omega (arith, small.0, c.if-sheet-g.false, (typed at).groups_long)) in (
      omega (arith, c.requires.0, all_there at, at.if-sheet-gt1000.false, c.loop-entry-test.true, count.long, number_end 2 _ count, row.put.long, row.short),
      rw any (small.1 _ c.if-sheet-g.false),
    )

-- the list of groups has room for all that are counted
room : (c : At-loop-entry) → c.args.sheet.groups.count ≤ length c.args.sheet.groups.list
room c = omega (arith, c.requires.1.0, (typed c).groups_long)

pub returns-in_err-at : goal.returns-in_err-at
returns-in_err-at c =
    let at = (goal.at.returns-in_err-at c).At-loop-entry in
    let p = err_from_is_err_and c.from_residual.result c.from_residual.ensures.1 in
    let why = not_done c.in_err-at.field-0.0 in
    let laid = lays_named c.args.sheet.groups _ c.from-g.result none c.from-g.ensures c.if-sheet-g.false (room at) c.in_err-at.ensures in
    let stop = parts_stop c.loop-entry.invariant c.loop-entry-test.true _ laid.numbered why in
    rw (p.1, p.2) (lays_refused refl (stop ∙ first_is at) why)

pub loop-entry-preserved : goal.loop-entry-preserved
loop-entry-preserved c =
    let at = (goal.at.loop-entry-preserved c).At-loop-entry in
    let laid = lays_named c.args.sheet.groups _ c.from-g.result none c.from-g.ensures c.if-sheet-g.false (room at) c.in_ok-at.ensures in
    parts_next c.loop-entry.invariant c.loop-entry-test.true _ laid refl

pub returns : goal.returns
unfolding commands_bytes
returns c =
    let count = c.put_little-at.ensures in
    let inv = c.loop-entry.invariant in
    let done = c.loop-entry-test.false in
    let at = (goal.at.returns c).At-loop-entry in
    lays_put refl (parts_clear inv done ∙ first_is at) (puts_then count (parts_all inv done))
    (omega (arith, number_end 2 _ count, inv.row.short, inv.row.few, all_there at, at.if-sheet-gt1000.false))
