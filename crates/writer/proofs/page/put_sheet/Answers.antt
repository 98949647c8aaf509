-- `writer::page::put_sheet` meets its contract: the groups, the commands, and then the zeros. Assumes nothing.
use mathlib.Core.Path.{refl, sym}
use native.Mathlib.Omega.{arith}
use Rattle.std.proofs.lemmas.Result.{err_from_is_err_and}
use Rattle.theory.proofs.Refusal.{or_else_refused}
use Rattle.permutation.proofs.Refusals.{not_done}
use Rattle.encoding.specs.SheetBytes.{sheet_bytes}
use Rattle.encoding.specs.Faults.{groups_number, commands_number, sheet_number}
use Rattle.sheet.proofs.Typed.{sheet_typed}
use Rattle.encoding.proofs.Accepted.{GroupsTaken, groups_taken, group_at_lem}
use Rattle.encoding.proofs.Lays.{lays_refused, lays_then, lays_more}
use Rattle.writer.proofs.page.put_sheet.Goals as goal
use Rattle.writer.proofs.page.put_sheet.Goals.{In_ok-end}

-- groups that were put without fault
taken_now : (c : In_ok-end) → GroupsTaken c.args.sheet.groups
taken_now c = groups_taken _ (sym c.in_ok-end.ensures.numbered)

pub returns-in_err-end : goal.returns-in_err-end
unfolding sheet_number
returns-in_err-end c =
    let p = err_from_is_err_and c.from_residual.result c.from_residual.ensures.1 in
    let why = not_done c.in_err-end.field-0.0 in
    rw (p.1, p.2) (lays_refused refl (or_else_refused (groups_number _) (commands_number _) c.in_err-end.ensures.numbered why) why)

pub put_commands-requires : goal.put_commands-requires
put_commands-requires c =
    let groups = c.in_ok-end.ensures in
    let room = (groups.put refl).long in
    let list = (sheet_typed c.args.sheet _ c.well_formed.1.0).groups_long in
    let t = taken_now (goal.at.put_commands-requires c).In_ok-end in
    (omega (arith, groups.short refl), (t.few, λ g h. (group_at_lem _ list t g h).few))

pub returns-in_err-rest : goal.returns-in_err-rest
unfolding sheet_number
returns-in_err-rest c =
    let p = err_from_is_err_and c.from_residual-in_err-rest.result c.from_residual-in_err-rest.ensures.1 in
    let why = not_done c.in_err-rest.field-0.0 in
    rw (p.1, p.2) (lays_refused refl (lays_then c.in_ok-end.ensures refl c.in_err-rest.ensures).numbered why)

pub put_zeros-requires : goal.put_zeros-requires
put_zeros-requires c =
    let groups = c.in_ok-end.ensures in
    let rest = c.in_ok-rest.ensures in (
      omega (arith, groups.short refl, (groups.put refl).long, rest.short refl, (rest.put refl).long, c.requires),
      (taken_now (goal.at.put_zeros-requires c).In_ok-end).few,
    )

pub returns : goal.returns
unfolding sheet_number sheet_bytes
returns c =
    let put = c.put_zeros.ensures in
    lays_then c.in_ok-end.ensures refl (lays_more 65 c.in_ok-rest.ensures refl put.puts put.short refl)
