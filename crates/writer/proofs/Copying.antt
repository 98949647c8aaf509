-- What `write_sheet` answers, and the list that it leaves, by the tests that it makes. Assumes nothing.
use mathlib.Core.Path.{◌≡◌, ◌∙◌}
use mathlib.Core.List.{List, ◌++◌}
use Prim.Native.Nat.{ℕ, ◌≤◌, ◌<◌}
use native.Mathlib.Omega.{arith}
use lib.ListN.{length, take, drop, length-append}
use borrow.Author.Tests.{le-leb, lt-leb, ne_eqb}
use Rattle.theory.proofs.Cases.{by_name}
use Rattle.sheet.specs.declared.held.Sheet.{Sheet}
use Rattle.encoding.specs.Faults.{sheet_number}
use Rattle.encoding.specs.SheetBytes.{sheet_bytes}
use Rattle.writer.specs.Answers.{write_number, write_answer, written_on}
use Rattle.sheet.specs.Putting.{Puts}
use Rattle.sheet.proofs.Putting.{laid_length, laid_onto}
use Rattle.writer.specs.declared.answers.Written.{Written}

-- the answer and the list
abbrev Answers : Sheet → List ℕ → Written → List ℕ → Type 0
Answers sheet out r left = (r ≡ write_answer sheet (length out)) × (left ≡ written_on sheet out)

module _ (sheet : Sheet) (out : List ℕ) where
  pub answer_refused : {k : ℕ} → k ≡ sheet_number sheet → (k ≡ 0 → ⊥) → Answers sheet out (record { number = k; length = 0 }) out
  unfolding write_answer written_on write_number
  answer_refused {k} e ne = let no = ne_eqb k 0 ne in (rw (← e, no, no), rw (← e, no, no))

  module _ (none : 0 ≡ sheet_number sheet) where
    pub answer_short : length out < length (sheet_bytes sheet) → Answers sheet out (record { number = 9; length = 0 }) out
    unfolding write_answer written_on write_number
    answer_short h = let short = lt-leb (length (sheet_bytes sheet)) (length out) h in (rw (← none, short), rw (← none, short))

    -- what was put on the page, and copied
    pub answer_put : {blank page left : List ℕ} {end : ℕ} → Puts blank 0 page end (sheet_bytes sheet) → end ≤ length out
        → left ≡ take (length (take end page)) (take end page) ++ drop (length (take end page)) out
        → Answers sheet out (record { number = 0; length = end }) left
    unfolding write_answer written_on write_number
    answer_put p room e =
        let fits = le-leb (length (sheet_bytes sheet)) (length out) (omega (arith, laid_length p)) in
        (rw (← none, fits, laid_length p), laid_onto p out e ∙ rw (← none, fits))

-- the length counts bytes of the list
pub length_in : (sheet : Sheet) (out : List ℕ) → (write_answer sheet (length out)).length ≤ length (written_on sheet out)
unfolding write_answer written_on
length_in sheet out =
    by_name (write_number sheet (length out)) 0
    (λ none e. rw (e, length-append (sheet_bytes sheet)) (omega arith))
    (λ some e. rw e (omega arith))
