-- `rewriting::rewrite::rewrite` meets its contract: each test decides the number, and past them the pushes give the target. Assumes nothing.
use mathlib.Core.Path.{◌≡◌, refl, sym}
use Prim.Native.Nat.{◌≤◌}
use native.Mathlib.Omega.{arith}
use borrow.Author.Rules.{rules}
use lib.ListN.{length, take, length-take}
use lib.Seq.{length-take-le}
use Rattle.std.proofs.lemmas.Result.{err_from_is_err_and}
use Rattle.permutation.proofs.Refusals.{not_done}
use Rattle.charge.proofs.Sorting.{sorted_row}
use Rattle.rewriting.specs.Answers.{pushes_to}
use Rattle.rewriting.proofs.Rewriting.{Judged, judged, sorted_number, number_below, pushable, rewrite_fault, rewrite_ceiling, rewrite_done}
use Rattle.rewriting.proofs.rewrite.rewrite.Goals as goal
use Rattle.rewriting.proofs.rewrite.rewrite.Goals.{After-rewrite_count-r, In_ok-judge}

-- past the first test, the judge does not refuse
faultless : (c : In_ok-judge) → let a = c.args in Judged a.levels.now a.target (length a.list.now)
faultless c = judged (sym c.in_ok-judge.ensures)

-- the same when the pushes are counted; the target stands in a row of twenty, and r is their number
known : (c : After-rewrite_count-r)
    → let a = c.args in
    Judged a.levels.now a.target (length a.list.now) × (length a.target.cells ≡ 20)
    × (c.rewrite_count-r.result ≡ pushes_to a.levels.now a.target)
known c =
    let j = faultless (goal.at.After-rewrite_count-r c).In_ok-judge in
    let row = sorted_row _ j.readable.many c.sort_cells.ensures in
    (j, search rules, sorted_number j row c.rewrite_count-r.ensures)

pub returns-in_err-judge : goal.returns-in_err-judge
returns-in_err-judge c =
    let p = rewrite_fault c.args.levels.now c.args.target c.args.list.now refl c.in_err-judge.ensures (not_done c.in_err-judge.field-0.0) in
    let e = err_from_is_err_and c.from_residual.result c.from_residual.ensures.1 in
    rw (e.1, e.2) (record { answer = p.0; levels_left = p.1.0; list_left = p.1.1.0; reached = tt; spent = p.1.1.1.1 })

pub sort_cells-requires : goal.sort_cells-requires
sort_cells-requires c = (faultless (goal.at.sort_cells-requires c).In_ok-judge).readable.many

-- n is at most twenty, and so is r
few : (c : In_ok-judge) → c.args.target.n ≤ 20
few c = let j = faultless c in omega (arith, j.same, j.readable.many)

pub slice_bounds-cells-end : goal.slice_bounds-cells-end
slice_bounds-cells-end c = omega (arith, few (goal.at.slice_bounds-cells-end c).In_ok-judge)

pub slice_bounds-rewrite_count-end : goal.slice_bounds-rewrite_count-end
slice_bounds-rewrite_count-end c =
    sym (length-take-le c.args.target.n c.sort_cells.new.cells (omega (arith, few (goal.at.slice_bounds-rewrite_count-end c).In_ok-judge)))

pub shared_ref_as_front-rewrite_count : goal.shared_ref_as_front-rewrite_count
shared_ref_as_front-rewrite_count c = few (goal.at.shared_ref_as_front-rewrite_count c).In_ok-judge

pub shared_ref_as_front-list_pushes : goal.shared_ref_as_front-list_pushes
shared_ref_as_front-list_pushes c =
    let k = known (goal.at.shared_ref_as_front-list_pushes c).After-rewrite_count-r in
    omega (arith, k.0.readable.many, number_below k.0 k.2)

pub raise-requires : goal.raise-requires
raise-requires c = let k = known (goal.at.raise-requires c).After-rewrite_count-r in pushable k.0 k.1 (omega (arith, number_below k.0 k.2))

pub returns-in_err-spent : goal.returns-in_err-spent
returns-in_err-spent c =
    let k = known (goal.at.returns-in_err-spent c).After-rewrite_count-r in
    let p = rewrite_ceiling c.args.levels.now c.args.target c.args.list.now k.0 k.1 (c.in_err-spent.ensures.answer, c.in_err-spent.ensures.levels_left) k.2 (not_done c.in_err-spent.field-0.0) in
    let e = err_from_is_err_and c.from_residual-in_err-spent.result c.from_residual-in_err-spent.ensures.1 in
    rw (e.1, e.2) (record { answer = p.0; levels_left = p.1.0; list_left = p.1.1.0; reached = tt; spent = p.1.1.1.1 })

pub list_pushes-requires : goal.list_pushes-requires
list_pushes-requires c =
    let k = known (goal.at.list_pushes-requires c).After-rewrite_count-r in
    let high = number_below k.0 k.2 in
    omega (arith, k.0.enough, high, length-take c.rewrite_count-r.result c.args.target.cells)

pub returns : goal.returns
returns c =
    let k = known (goal.at.returns c).After-rewrite_count-r in
    let long : length (take c.rewrite_count-r.result c.args.target.cells) ≡ c.rewrite_count-r.result =
    length-take-le c.rewrite_count-r.result c.args.target.cells (omega (arith, k.0.readable.many, k.1, number_below k.0 k.2)) in
    let p = rewrite_done c.args.levels.now c.args.target c.args.list.now k.0 k.1 (c.in_ok-spent.ensures.answer, c.in_ok-spent.ensures.levels_left) k.2 refl (rw long at c.list_pushes.ensures) in
    record { answer = p.0; levels_left = p.1.0; list_left = p.1.1.0; reached = p.1.1.1.0 refl; spent = p.1.1.1.1 }
