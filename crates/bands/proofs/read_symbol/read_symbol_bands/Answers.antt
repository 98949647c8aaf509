-- `bands::read_symbol::read_symbol_bands` meets its contract: each test decides the number, and past them the sorted cells are read by the code. Assumes nothing.
use mathlib.Core.Path.{◌≡◌, refl, sym, ◌∙◌}
use native.Mathlib.Omega.{arith}
use lib.ListN.{length}
use Rattle.std.proofs.lemmas.Result.{err_from_is_err_and}
use Rattle.permutation.proofs.Refusals.{not_done}
use Rattle.theory.specs.Permutation.{row}
use Rattle.theory.specs.Levels.{permutation_of}
use Rattle.theory.specs.Prefix.{prefix_length}
use Rattle.charge.proofs.Sorting.{sorted_row, row_record}
use Rattle.symbols.proofs.Codes.{judged_number, judged_range, judged_length}
use Rattle.symbols.proofs.Symbols.{record_asked, record_read}
use Rattle.bands.specs.LeadTest.{sure_test}
use Rattle.bands.specs.Answers.{Banded, BandedCode}
use Rattle.bands.proofs.Judging.{banded}
use Rattle.bands.proofs.Rows.{row_testable, row_tested}
use Rattle.bands.proofs.Symbols.{short, sure_symbol_refused, sure_symbol_fault, sure_symbol_code, sure_symbol_unsure, sure_symbol_given, symbol_exactly}
use Rattle.bands.proofs.read_symbol.read_symbol_bands.Goals as goal
use Rattle.bands.proofs.read_symbol.read_symbol_bands.Goals.{After-lead_surely, After-sort_cells, In_ok-p, In_ok-bands}

-- what the tests have shown: bands, and a code of this length
faultless : (c : In_ok-bands) → Banded c.args.lowest.now c.args.highest.now
faultless c = banded _ _ (sym c.in_ok-bands.ensures.number)

code : (c : In_ok-p) → let a = c.args in BandedCode a.lowest.now a.highest.now a.m
code c =
    let r = judged_range _ _ c.in_ok-p.ensures refl in
    record { banded = faultless (goal.at.In_ok-p c).In_ok-bands; one = r.0; most = r.1 }

length-is : (c : In_ok-p)
    → let a = c.args in c.in_ok-p.p ≡ prefix_length (length a.lowest.now) a.m
length-is c = judged_length _ _ c.in_ok-p.ensures refl

-- what the sorted row and the last test tell
sorted : (c : After-sort_cells) → c.sort_cells.new.cells ≡ row (permutation_of c.args.lowest.now)
sorted c = sorted_row _ (code (goal.at.After-sort_cells c).In_ok-p).banded.many c.sort_cells.ensures

test-is : (c : After-lead_surely)
    → let a = c.args in
    c.lead_surely.result ≡ sure_test a.lowest.now a.highest.now (prefix_length (length a.lowest.now) a.m)
test-is c =
    let made = c.in_ok-bands.ensures.made in
    row_tested (code (goal.at.After-lead_surely c).In_ok-p).banded (sorted (goal.at.After-lead_surely c).After-sort_cells) _ (length-is (goal.at.After-lead_surely c).In_ok-p) (rw (made.0, made.1) at c.lead_surely.ensures)

pub returns-in_err-bands : goal.returns-in_err-bands
returns-in_err-bands c =
    let p = err_from_is_err_and c.from_residual.result c.from_residual.ensures.1 in
    let ne = not_done c.in_err-bands.field-0.0 in
    let e = sure_symbol_refused _ _ _ (sure_symbol_fault _ _ _ c.in_err-bands.ensures.number ne) ne in
    rw (p.1, p.2) (record { answer = e; exactly = symbol_exactly _ _ _ e })

pub judge_code-requires : goal.judge_code-requires
judge_code-requires c = (faultless c).many

pub returns-in_err-p : goal.returns-in_err-p
returns-in_err-p c =
    let p = err_from_is_err_and c.from_residual-in_err-p.result c.from_residual-in_err-p.ensures.1 in
    let ne = not_done c.in_err-p.field-0.0 in
    let b = faultless (goal.at.returns-in_err-p c).In_ok-bands in
    let e = sure_symbol_refused _ _ _ (sure_symbol_code _ _ _ b (judged_number _ _ c.in_err-p.ensures) ne) ne in
    rw (p.1, p.2) (record { answer = e; exactly = symbol_exactly _ _ _ e })

pub sort_cells-requires : goal.sort_cells-requires
sort_cells-requires c = (code (goal.at.sort_cells-requires c).In_ok-p).banded.many

pub lead_surely-requires : goal.lead_surely-requires
lead_surely-requires c =
    let p = goal.at.lead_surely-requires c in
    let k = code p.In_ok-p in
    rw c.in_ok-bands.ensures.made.0 (row_testable k.banded (sorted p.After-sort_cells) (omega (arith, short k, length-is p.In_ok-p)))

pub leading_symbol-requires : goal.leading_symbol-requires
leading_symbol-requires c =
    let k = code (goal.at.leading_symbol-requires c).In_ok-p in
    record_asked _ k.banded.few k.banded.many (row_record _ k.banded.many (sorted (goal.at.leading_symbol-requires c).After-sort_cells)) _ k.most (length-is (goal.at.leading_symbol-requires c).In_ok-p)

pub returns-then-not-lead_surely : goal.returns-then-not-lead_surely
returns-then-not-lead_surely c =
    let p = goal.at.returns-then-not-lead_surely c in
    let e = sure_symbol_refused _ _ _ (sure_symbol_unsure (code p.In_ok-p) (sym (test-is p.After-lead_surely) ∙ c.if-not-lead_surely.true)) (λ z. omega arith) in
    record { answer = e; exactly = symbol_exactly _ _ _ e }

pub returns : goal.returns
returns c =
    let p = goal.at.returns c in
    let k = code p.In_ok-p in
    let e = record_read _ k.banded.few k.banded.many (row_record _ k.banded.many (sorted p.After-sort_cells)) _ c.leading_symbol.ensures
    ∙ sure_symbol_given k (sym (test-is p.After-lead_surely) ∙ c.if-not-lead_surely.false) in
    record { answer = e; exactly = symbol_exactly _ _ _ e }
