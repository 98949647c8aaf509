-- The value of a group, by way of the record that is read from its levels. Assumes nothing.
use mathlib.Core.Path.{◌≡◌, ap, ◌∙◌}
use mathlib.Core.List.{List}
use Prim.Native.Nat.{ℕ}
use lib.ListN.{length}
use Rattle.theory.specs.Levels.{permutation_of, read_number}
use Rattle.theory.proofs.Sorting.{permutation_of_permutation}
use Rattle.ranking.specs.Answers.{value_answer}
use Rattle.permutation.specs.declared.answers.Permuted.{Permuted}
use Rattle.ranking.specs.declared.answers.Valued.{Valued}
use Rattle.ranking.proofs.Values.{valued_record}
use Rattle.charge.specs.Answers.{read_answer}
use Rattle.theory.proofs.Refusal.{readable}
use Rattle.charge.proofs.ReadLevels.{number_is, standing}
use Rattle.ranking.specs.declared.zero.Zero.{Zero}
use Rattle.work.specs.Work.{value_of}
use Rattle.std.specs.Prelude.{Result, Ok, Err}
use Rattle.std.specs.Result.{IsOk}
use borrow.Author.Rules.{rules}
use Rattle.permutation.specs.Answers.{as_permuted}
use Rattle.permutation.specs.Refusals.{number_in}
use Rattle.permutation.proofs.Refusals.{given_ok}
use Rattle.permutation.specs.declared.reasons.Refusal.{Refusal}
use Rattle.permutation.specs.declared.answers.Permutation.{Permutation}

pub read_done : (L : List ℕ) (r : Result Permutation Refusal) → read_number L ≡ 0 → as_permuted r ≡ read_answer L → IsOk r
read_done L r h e = given_ok r (number_is L e ∙ h)

module _ (L : List ℕ) (z : Zero) {read : Permuted} {a : Valued} (h : read_number L ≡ 0) (e : read ≡ read_answer L) (is : a ≡ value_answer read.permutation z) where
  pub read_valued : a ≡ record { number = 0; value = value_of z L }
  read_valued =
      let r = readable h in
      is
      ∙ ap (λ p. value_answer p z) (standing L e (number_is L e ∙ h)).is
      ∙ valued_record (length L) (permutation_of L) r.few r.many (permutation_of_permutation L) z

  pub read_value : a.value ≡ value_of z L
  read_value = ap (λ (a : Valued). a.value) read_valued
