-- `charge::read::read` meets its contract: a fault is passed on, and otherwise a row of zeros is sorted. Assumes nothing.
use mathlib.Core.Path.{sym}
use mathlib.Core.List.{[]}
use Rattle.std.proofs.lemmas.Result.{err_from_is_err_and}
use Rattle.theory.specs.Levels.{permutation_of}
use Rattle.theory.proofs.Refusal.{refused, Readable, readable}
use Rattle.permutation.proofs.Refusals.{not_done}
use Rattle.permutation.proofs.Answering.{permuted_with}
use Rattle.charge.specs.Answers.{read_answer}
use Rattle.charge.proofs.Sorting.{sorted_row}
use Rattle.charge.proofs.Numbers.{read_sorted}
use Rattle.charge.proofs.read.read.Goals as goal
use Rattle.charge.proofs.read.read.Goals.{In_ok-read_number}

faultless : (c : In_ok-read_number) → Readable c.args.levels.now
faultless c = readable (sym c.in_ok-read_number.ensures)

pub returns-in_err-read_number : goal.returns-in_err-read_number
unfolding read_answer
returns-in_err-read_number c =
    let p = err_from_is_err_and c.from_residual.result c.from_residual.ensures.1 in
    rw (p.1, p.2) (refused permuted_with (permutation_of c.args.levels.now) [] c.in_err-read_number.ensures (not_done c.in_err-read_number.field-0.0))

pub sort_cells-requires : goal.sort_cells-requires
sort_cells-requires c = (faultless (goal.at.sort_cells-requires c).In_ok-read_number).many

pub returns : goal.returns
returns c =
    let r = faultless (goal.at.returns c).In_ok-read_number in
    read_sorted r (sorted_row _ r.many c.sort_cells.ensures)
