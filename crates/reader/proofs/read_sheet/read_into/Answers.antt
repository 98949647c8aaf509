-- `reader::read_sheet::read_into` meets its contract: at each return what was read says which case of `sheet` holds. Assumes nothing.
use mathlib.Core.Path.{◌≡◌, refl, sym, ap, ◌∙◌}
use mathlib.Core.List.{List, map, map-id}
use Prim.Native.Nat.{ℕ, ◌+◌, ◌≤◌}
use native.Mathlib.Omega.{arith}
use borrow.Author.Rules.{rules}
use lib.ListN.{length, take}
use Rattle.std.proofs.lemmas.Result.{err_from_is_err_and}
use Rattle.theory.specs.Lists.{padded}
use Rattle.theory.proofs.Cases.{by_le}
use Rattle.permutation.proofs.Refusals.{not_done}
use Rattle.sheet.specs.Sheet.{group, commands, command_row, sheet}
use Rattle.sheet.specs.ZeroSection.{zeros_at}
use Rattle.sheet.specs.Held.{no_entry, groups_of, held_of, sheet_answer, groups_in}
use Rattle.sheet.specs.Parts.{ZerosRead, zeros_answer}
use Rattle.sheet.specs.Standing.{GroupsHeld}
use Rattle.sheet.specs.declared.held.Groups.{Groups}
use Rattle.sheet.specs.declared.held.Sheet.{Sheet}
use Rattle.sheet.proofs.Inversion.{many_length}
use Rattle.sheet.proofs.Valid.{small}
use Rattle.sheet.proofs.InMemory.{groups_back, read_hold, held_count, sizes_front, sheet_held}
use Rattle.sheet.proofs.FaultNumbers.{zeros_tells_fault, answered_fault, answered_got}
use Rattle.sheet.proofs.ByTests.{sheet_none, sheet_few, sheet_many, sheet_fault, sheet_groups, commands_short, commands_many, commands_row, row_fault, row_bad, row_ends}
use Rattle.reader.proofs.Refused.{refused}
use Rattle.reader.proofs.read_sheet.read_into.Goals as goal
use Rattle.reader.proofs.read_sheet.read_into.Goals.{Else-not-contains, In_ok-at, Else-count-gt1000, After-sizes_of-sizes}

-- past the test of the count
counted : (c : Else-not-contains) → (1 ≤ c.from-total.result) × (c.from-total.result ≤ 64)
counted c = (search rules, search rules)

-- the groups that were read, as they stand
abbrev groups_now : In_ok-at → Groups
groups_now c = record { count = c.from-total.result; list = c.read_groups.new.list }

held_now : (c : In_ok-at) → groups_now c ≡ groups_of c.in_ok-at.ensures.0
held_now c =
    let read = c.in_ok-at.ensures in
    let long = many_length (group c.args.bytes.now) _ _ read.0 _ read.1 in
    λ i. record { count = sym long i; list = read.2 i }

hold_now : (c : In_ok-at) → GroupsHeld (groups_now c)
hold_now c =
    let read = c.in_ok-at.ensures in
    let few = (counted (goal.at.In_ok-at c).Else-not-contains).1 in
    rw (held_now c) (read_hold _ _ _ read.0 _ read.1 few)

-- the commands are those behind them
rest_now : (c : In_ok-at) → let bytes = c.args.bytes.now in
    sheet bytes ≡ commands (groups_in (groups_now c)) bytes c.in_ok-at.at
rest_now c =
    let bytes = c.args.bytes.now in
    let read = c.in_ok-at.ensures in
    let n = counted (goal.at.In_ok-at c).Else-not-contains in
    let back = ap groups_in (held_now c) ∙ groups_back read.0 in
    sheet_groups bytes _ (omega arith) c.from-total.ensures n.0 n.1 read.0 _ read.1 ∙ ap (λ (Ls : List (List ℕ)). commands Ls bytes c.in_ok-at.at) (sym back)

row_now : (c : Else-count-gt1000) → let bytes = c.args.bytes.now in
    sheet bytes ≡ command_row (groups_in (groups_now (goal.at.Else-count-gt1000 c).In_ok-at)) c.little-count.result bytes (c.in_ok-at.at + 2)
row_now c =
    rest_now (goal.at.Else-count-gt1000 c).In_ok-at ∙ commands_row _ _ _ _ (omega arith) c.little-count.ensures.spelled c.if-count-gt1000.false

-- the numbers of cells are those of the groups
sizes_now : (c : After-sizes_of-sizes)
    → take c.from-total.result c.sizes_of-sizes.result ≡ map length (groups_in (groups_now (goal.at.After-sizes_of-sizes c).In_ok-at))
sizes_now c = rw c.sizes_of-sizes.ensures (sizes_front (hold_now (goal.at.After-sizes_of-sizes c).In_ok-at))

pub returns-in_default : goal.returns-in_default
unfolding sheet_answer
returns-in_default c = ap sheet_answer (sym (sheet_none _ (omega arith)))

pub returns-then-not-contains : goal.returns-then-not-contains
unfolding sheet_answer
returns-then-not-contains c =
    let n = c.from-total.result in
    ap sheet_answer
    (sym
    (by_le 1 n
    (λ some. by_le n 64 (λ few. absurd (search rules)) (λ many. sheet_many _ _ (omega arith) c.from-total.ensures some many))
    (λ none. sheet_few _ _ (omega arith) c.from-total.ensures none)))

pub read_groups-requires : goal.read_groups-requires
unfolding held_of
read_groups-requires c =
    ((counted (goal.at.read_groups-requires c).Else-not-contains).1, ap (λ (h : Sheet). h.groups.list) c.requires)

pub returns-in_err-at : goal.returns-in_err-at
returns-in_err-at c =
    let p = err_from_is_err_and c.from_residual.result c.from_residual.ensures.1 in
    let n = counted (goal.at.returns-in_err-at c).Else-not-contains in
    let bad = c.in_err-at.ensures in
    rw (p.1, p.2) (refused c.in_err-at.field-0.0 _ (sheet_fault _ _ (omega arith) c.from-total.ensures n.0 n.1 _ bad.1) bad.2)

pub returns-then-saturating_sub-lt2 : goal.returns-then-saturating_sub-lt2
unfolding sheet_answer
returns-then-saturating_sub-lt2 c =
    ap sheet_answer (sym (rest_now (goal.at.returns-then-saturating_sub-lt2 c).In_ok-at ∙ commands_short _ _ _ (omega arith)))

pub returns-then-count-gt1000 : goal.returns-then-count-gt1000
unfolding sheet_answer
returns-then-count-gt1000 c =
    ap sheet_answer
    (sym
    (rest_now (goal.at.returns-then-count-gt1000 c).In_ok-at
    ∙ commands_many _ _ _ _ (omega arith) c.little-count.ensures.spelled c.if-count-gt1000.true))

pub sizes_of-sizes-requires : goal.sizes_of-sizes-requires
sizes_of-sizes-requires c = hold_now (goal.at.sizes_of-sizes-requires c).In_ok-at

pub read_entries-requires : goal.read_entries-requires
unfolding held_of
read_entries-requires c =
    let at = goal.at.read_entries-requires c in (
      c.if-count-gt1000.false,
      rw (sizes_now at.After-sizes_of-sizes) (small _ (hold_now at.In_ok-at).readable),
      ap (λ (h : Sheet). h.entries) c.requires,
    )

pub returns-in_err-last : goal.returns-in_err-last
returns-in_err-last c =
    let at = goal.at.returns-in_err-last c in
    let p = err_from_is_err_and c.from_residual-in_err-last.result c.from_residual-in_err-last.ensures.1 in
    let bad = rw (sizes_now at.After-sizes_of-sizes) at c.in_err-last.ensures in
    rw (p.1, p.2) (refused c.in_err-last.field-0.0 _ (row_now at.Else-count-gt1000 ∙ row_fault _ _ _ _ _ bad.1) bad.2)

pub returns-in_err-zeros : goal.returns-in_err-zeros
returns-in_err-zeros c =
    let at = goal.at.returns-in_err-zeros c in
    let p = err_from_is_err_and c.from_residual-in_err-zeros.result c.from_residual-in_err-zeros.ensures.1 in
    let e = c.in_err-zeros.field-0.0 in
    let read = rw (sizes_now at.After-sizes_of-sizes) at c.in_ok-last.ensures in
    let last = c.in_err-zeros.ensures ∙ ap (λ (G : ℕ). zeros_answer (zeros_at G c.args.bytes.now c.in_ok-last.last)) (held_count (hold_now at.In_ok-at)) in
    let bad = answered_fault zeros_tells_fault _ _ last (not_done e) in
    rw (p.1, p.2) (refused e _ (row_now at.Else-count-gt1000 ∙ row_bad _ _ _ _ _ _ read.1 bad.0 bad.1) bad.2)

pub returns : goal.returns
unfolding sheet_answer zeros_answer
returns c =
    let at = goal.at.returns c in
    let read = rw (sizes_now at.After-sizes_of-sizes) at c.in_ok-last.ensures in
    let last = c.in_ok-zeros.ensures ∙ ap (λ (G : ℕ). zeros_answer (zeros_at G c.args.bytes.now c.in_ok-last.last)) (held_count (hold_now at.In_ok-at)) in
    let good = answered_got zeros_tells_fault _ _ last refl in
    let long = many_length _ _ _ read.0 _ read.1 in
    let front = read.2 ∙ ap (padded 1000 no_entry) (map-id read.0) in
    ap (λ (s : Sheet). record { number = 0; sheet = s })
    (sheet_held (hold_now at.In_ok-at) _ good.0 (ap (λ (r : ZerosRead). r.zeros) good.3) _ _ read.0 long front)
    ∙ ap sheet_answer (sym (row_now at.Else-count-gt1000 ∙ row_ends _ _ _ _ _ _ read.1 good.0 good.1 good.2))
