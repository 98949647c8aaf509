-- `bands::read::read_bands` meets its contract: a fault is passed on, and otherwise the test on the sorted cells decides. Assumes nothing.
use mathlib.Core.Path.{◌≡◌, refl, sym, ◌∙◌}
use Prim.Native.Nat.{◌-◌}
use native.Mathlib.Omega.{arith}
use lib.ListN.{length}
use Rattle.std.proofs.lemmas.Result.{err_from_is_err_and}
use Rattle.permutation.proofs.Refusals.{not_done}
use Rattle.theory.specs.Permutation.{row}
use Rattle.theory.specs.Levels.{permutation_of}
use Rattle.charge.proofs.Sorting.{sorted_row, row_record}
use Rattle.bands.specs.LeadTest.{sure_test}
use Rattle.bands.specs.Answers.{Banded}
use Rattle.bands.proofs.Judging.{banded}
use Rattle.bands.proofs.Rows.{row_testable, row_tested}
use Rattle.bands.proofs.Orders.{order_fault, order_unsure, order_done, order_exactly}
use Rattle.bands.proofs.read.read_bands.Goals as goal
use Rattle.bands.proofs.read.read_bands.Goals.{After-lead_surely, After-sort_cells, In_ok-bands}

-- what the first test has shown, and what the sorted row and the second tell
faultless : (c : In_ok-bands) → Banded c.args.lowest.now c.args.highest.now
faultless c = banded _ _ (sym c.in_ok-bands.ensures.number)

sorted : (c : After-sort_cells) → c.sort_cells.new.cells ≡ row (permutation_of c.args.lowest.now)
sorted c = sorted_row _ (faultless (goal.at.After-sort_cells c).In_ok-bands).many c.sort_cells.ensures

test-is : (c : After-lead_surely)
    → let a = c.args in
    c.lead_surely.result ≡ sure_test a.lowest.now a.highest.now (length a.lowest.now - 1)
test-is c =
    let made = c.in_ok-bands.ensures.made in
    row_tested (faultless (goal.at.After-lead_surely c).In_ok-bands) (sorted (goal.at.After-lead_surely c).After-sort_cells) _ refl (rw (made.0, made.1) at c.lead_surely.ensures)

pub returns-in_err-bands : goal.returns-in_err-bands
returns-in_err-bands c =
    let p = err_from_is_err_and c.from_residual.result c.from_residual.ensures.1 in
    let e = order_fault _ _ c.in_err-bands.ensures.number (not_done c.in_err-bands.field-0.0) in
    rw (p.1, p.2) (record { answer = e; exactly = order_exactly _ _ e })

pub sort_cells-requires : goal.sort_cells-requires
sort_cells-requires c = (faultless (goal.at.sort_cells-requires c).In_ok-bands).many

pub overflow_sub-n : goal.overflow_sub-n
overflow_sub-n c = omega (arith, (faultless (goal.at.overflow_sub-n c).In_ok-bands).few)

pub lead_surely-requires : goal.lead_surely-requires
lead_surely-requires c = let b = faultless (goal.at.lead_surely-requires c).In_ok-bands in rw c.in_ok-bands.ensures.made.0 (row_testable b (sorted (goal.at.lead_surely-requires c).After-sort_cells) (omega (arith, b.few)))

pub returns-then-not-lead_surely : goal.returns-then-not-lead_surely
returns-then-not-lead_surely c =
    let p = goal.at.returns-then-not-lead_surely c in
    let e = order_unsure (faultless p.In_ok-bands) (sym (test-is p.After-lead_surely) ∙ c.if-not-lead_surely.true) in
    record { answer = e; exactly = order_exactly _ _ e }

pub returns : goal.returns
returns c =
    let p = goal.at.returns c in
    let b = faultless p.In_ok-bands in
    let e = order_done b (sym (test-is p.After-lead_surely) ∙ c.if-not-lead_surely.false) (row_record _ b.many (sorted p.After-sort_cells)) in
    record { answer = e; exactly = order_exactly _ _ e }
