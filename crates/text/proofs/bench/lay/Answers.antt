-- `text::bench::lay` meets its contract: the line of the fault, or those of commands and groups. Assumes nothing.
use mathlib.Core.Path.{refl}
use native.Mathlib.Omega.{arith}
use Rattle.permutation.proofs.Refusals.{not_done}
use Rattle.sheet.proofs.Putting.{puts_then}
use Rattle.text.proofs.Printable.{Printable, printable, fault_text}
use Rattle.text.proofs.bench.lay.Goals as goal
use Rattle.text.proofs.bench.lay.Goals.{In-Ok}

-- an outcome can be printed
printed : (c : In-Ok) → Printable c.args.sheet.now c.in-Ok.outcome
printed c = printable _ _ c.in-Ok.ensures.answer refl

pub put_commands-at-requires : goal.put_commands-at-requires
put_commands-at-requires c = let p = printed (goal.at.put_commands-at-requires c).In-Ok in (p.few, omega (arith, p.few))

pub put_groups-requires : goal.put_groups-requires
put_groups-requires c =
    let p = printed (goal.at.put_groups-requires c).In-Ok in
    (omega (arith, p.few, p.groups_held.few), p.groups_held)

pub returns-in-Ok : goal.returns-in-Ok
returns-in-Ok c =
    let p = printed (goal.at.returns-in-Ok c).In-Ok in
    let put = puts_then c.put_commands-at.ensures.puts c.put_groups.ensures.puts in
    record { puts = rw p.text at put; short = omega (arith, p.few, p.groups_held.few) }

pub returns-in-Err : goal.returns-in-Err
returns-in-Err c =
    let line = rw c.number.ensures at c.put_fault.ensures.puts in
    record { puts = rw (fault_text _ _ c.in-Err.ensures.answer (not_done c.in-Err.refusal)) at line; short = omega arith }
