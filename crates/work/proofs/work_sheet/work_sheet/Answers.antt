-- `work::work_sheet::work_sheet` meets its contract: a fault's number and zeros, or the outcome of the sheet held. Assumes nothing.
use mathlib.Core.Path.{refl}
use Rattle.permutation.proofs.Refusals.{not_done}
use Rattle.work.proofs.Outcomes.{accepted, worked_fault, worked_done}
use Rattle.work.proofs.Claims.{answer_change}
use Rattle.work.proofs.work_sheet.work_sheet.Goals as goal

pub work-requires : goal.work-requires
work-requires c = (accepted _ _ c.in-Ok.ensures refl).sheet_held

pub returns : goal.returns
returns c =
    let p = answer_change _ (worked_done _ _ c.in-Ok.ensures refl c.work.ensures) in
    record { answer = p.0; change_over = p.1 }

pub returns-in-Err : goal.returns-in-Err
returns-in-Err c =
    let p = answer_change _ (worked_fault _ _ c.in-Err.ensures (not_done c.in-Err.refusal) refl) in
    record { answer = p.0; change_over = p.1 }
