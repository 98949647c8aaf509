-- `reach::within_reach::within_reach` meets its contract: each test decides the number, and past them the listing is the whole. Assumes nothing.
use mathlib.Core.Path.{◌≡◌, refl, ap, sym, ◌∙◌}
use native.Mathlib.Omega.{arith}
use Prim.Native.Nat.{◌<◌}
use lib.ListN.{length, take}
use Rattle.std.proofs.lemmas.Result.{err_from_is_err_and}
use Rattle.permutation.proofs.Refusals.{not_done}
use lib.Seq.{length-sets}
use Rattle.theory.specs.Levels.{permutation_of}
use Rattle.theory.proofs.Refusal.{Readable, readable}
use Rattle.charge.proofs.Sorting.{sorted_row, row_long, row_first}
use Rattle.reach.proofs.Judging.{job_refused, job_fault, job_far, job_large, job_small, job_short, Taken, job_taken, job_led, job_done}
use Rattle.reach.proofs.within_reach.within_reach.Goals as goal
use Rattle.reach.proofs.within_reach.within_reach.Goals.{After-falling_factorial-permutations, After-sort_cells, In_ok-read_number}

-- past the first test, the levels have a permutation
read : (c : In_ok-read_number) → Readable c.args.levels.now
read c = readable (sym c.in_ok-read_number.ensures)

-- past the second, r is below n
near : (c : After-falling_factorial-permutations) → c.args.r < length c.args.levels.now
near c = omega (arith, c.if-n-r.false)

-- the row has twenty places, and the permutation in the first
long : (c : After-sort_cells) → length c.sort_cells.new.cells ≡ 20
long c =
    let many = (read (goal.at.After-sort_cells c).In_ok-read_number).many in
    row_long _ many (sorted_row _ many c.sort_cells.ensures)

sorted : (c : After-sort_cells) → let L = c.args.levels.now in take (length L) c.sort_cells.new.cells ≡ permutation_of L
sorted c =
    let many = (read (goal.at.After-sort_cells c).In_ok-read_number).many in
    row_first _ many (sorted_row _ many c.sort_cells.ensures)

-- past the last test, the job is done
taken : (c : After-sort_cells) → let a = c.args in Taken a.levels.now a.r (length a.list.now) c.falling_factorial-permutations.result
taken c =
    let k = (goal.at.After-sort_cells c).After-falling_factorial-permutations in
    let small = c.if-n-permutations.false in
    let fits = c.if-list-permutations.false in
    job_taken _ _ _ (read (goal.at.After-sort_cells c).In_ok-read_number) (near k) c.falling_factorial-permutations.ensures (omega (arith, small)) (omega (arith, fits))

pub returns-in_err-read_number : goal.returns-in_err-read_number
returns-in_err-read_number c =
    let a = c.args in
    let p = err_from_is_err_and c.from_residual.result c.from_residual.ensures.1 in
    let number = not_done c.in_err-read_number.field-0.0 in
    let all = job_refused a.levels.now a.r a.list.now refl (job_fault a.levels.now a.r _ c.in_err-read_number.ensures number) number in
    rw (p.1, p.2) (record { answer = all.0; list_left = all.1.0; reaching = all.1.1 })

pub returns-then-n-r : goal.returns-then-n-r
returns-then-n-r c =
    let all = job_refused c.args.levels.now c.args.r c.args.list.now refl (job_far _ _ _ (read (goal.at.returns-then-n-r c).In_ok-read_number) c.if-n-r.true) (λ z. omega arith) in
    record { answer = all.0; list_left = all.1.0; reaching = all.1.1 }

pub falling_factorial-permutations-requires : goal.falling_factorial-permutations-requires
falling_factorial-permutations-requires c = ((read (goal.at.falling_factorial-permutations-requires c).In_ok-read_number).many, omega (arith, c.if-n-r.false))

pub returns-then-n-permutations : goal.returns-then-n-permutations
returns-then-n-permutations c =
    let all = job_refused c.args.levels.now c.args.r c.args.list.now refl
    (job_large _ _ _ (read (goal.at.returns-then-n-permutations c).In_ok-read_number) (near (goal.at.returns-then-n-permutations c).After-falling_factorial-permutations) c.falling_factorial-permutations.ensures (omega (arith, c.if-n-permutations.true))) (λ z. omega arith) in
    record { answer = all.0; list_left = all.1.0; reaching = all.1.1 }

pub overflow_mul-permutations : goal.overflow_mul-permutations
overflow_mul-permutations c =
    omega (arith, job_small _ _ 0 (read (goal.at.overflow_mul-permutations c).In_ok-read_number) (near (goal.at.overflow_mul-permutations c).After-falling_factorial-permutations) c.falling_factorial-permutations.ensures (omega (arith, c.if-n-permutations.false)))

pub returns-then-list-permutations : goal.returns-then-list-permutations
returns-then-list-permutations c =
    let all = job_refused c.args.levels.now c.args.r c.args.list.now refl
    (job_short _ _ _ (read (goal.at.returns-then-list-permutations c).In_ok-read_number) (near (goal.at.returns-then-list-permutations c).After-falling_factorial-permutations) c.falling_factorial-permutations.ensures (omega (arith, c.if-n-permutations.false)) (omega (arith, c.if-list-permutations.true)))
    (λ z. omega arith) in
    record { answer = all.0; list_left = all.1.0; reaching = all.1.1 }

pub sort_cells-requires : goal.sort_cells-requires
sort_cells-requires c = (read (goal.at.sort_cells-requires c).In_ok-read_number).many

pub list_within-requires : goal.list_within-requires
list_within-requires c =
    let at = (goal.at.list_within-requires c).After-sort_cells in
    job_led _ _ c.args.list.now (taken at) _ (long at) (sorted at)

pub shape_of-list : goal.shape_of-list
shape_of-list c = ap length c.list_within.ensures ∙ simp length-sets

pub returns : goal.returns
returns c =
    let at = (goal.at.returns c).After-sort_cells in
    let all = job_done c.args.levels.now c.args.r c.args.list.now (taken at) _ (long at) (sorted at) c.list_within.ensures in
    record { answer = all.0; list_left = all.1.0; reaching = all.1.1 }
