-- The permutation that is read from levels, and levels after a row of pushes: they have a permutation still. Assumes nothing.
use mathlib.Core.Path.{◌≡◌, sym, ap, ◌∙◌}
use mathlib.Core.List.{List}
use Prim.Native.Nat.{ℕ}
use native.Mathlib.Omega.{arith}
use lib.ListN.{length}
use Rattle.theory.specs.Lists.{Cells}
use Rattle.theory.specs.Levels.{permutation_of, push_levels, read_number}
use Rattle.theory.proofs.Sorting.{reads_untied}
use Rattle.theory.proofs.Reading as theory
use Rattle.theory.proofs.Reading.{reads_row, row_length}
use Rattle.permutation.specs.Records.{record_of}
use Rattle.permutation.specs.declared.answers.Permuted.{Permuted}
use Rattle.charge.specs.Answers.{read_answer}
use Rattle.theory.proofs.Refusal.{Readable, readable}

pub number_is : (L : List ℕ) {r : Permuted} → r ≡ read_answer L → r.number ≡ read_number L
unfolding read_answer
number_is L e = ap (λ (a : Permuted). a.number) e

-- it was read: it stands in a record
pub record Standing (L : List ℕ) (r : Permuted) : Type 0 where
  pub levels : Readable L
  pub is : r.permutation ≡ record_of (permutation_of L)

pub standing : (L : List ℕ) {r : Permuted} → r ≡ read_answer L → r.number ≡ 0 → Standing L r
unfolding read_answer
standing L e z =
    let done = sym (number_is L e) ∙ z in
    record { levels = readable done; is = ap (λ (a : Permuted). a.permutation) e ∙ rw done }

pub row_readable : {L : List ℕ} (cs : List ℕ) → Cells (length L) cs → Readable L → Readable (push_levels cs L)
row_readable {L} cs k r = record {
  few = omega (arith, row_length cs L, r.few);
  many = omega (arith, row_length cs L, r.many);
  untied = reads_untied (reads_row cs k (theory.reading L r.untied).reads);
}
