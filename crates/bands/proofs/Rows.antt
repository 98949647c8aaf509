-- The row of the cells sorted by lowest level can be tested. Assumes nothing.
use mathlib.Core.Path.{◌≡◌, ◌∙◌}
use mathlib.Core.Bool.{Bool}
use mathlib.Core.List.{List}
use Prim.Native.Nat.{ℕ, ◌<◌}
use lib.ListN.{length, take}
use Rattle.theory.specs.Permutation.{row}
use Rattle.theory.specs.Levels.{permutation_of}
use Rattle.theory.proofs.Sorting.{permutation_of_permutation}
use Rattle.charge.proofs.Sorting.{row_long, row_first}
use Rattle.symbols.specs.AnyPrefix.{PrefixRow}
use Rattle.bands.specs.LeadTest.{lead_test, sure_test}
use Rattle.bands.specs.Answers.{Banded}

module _ {low high : List ℕ} (b : Banded low high) {cells : List ℕ} (e : cells ≡ row (permutation_of low)) where
  pub row_testable : {p : ℕ} → p < length low → PrefixRow low cells p
  row_testable short = record {
    few = b.few;
    many = b.many;
    long = row_long low b.many e;
    permutation = rw (row_first low b.many e) (permutation_of_permutation low);
    short = short;
  }

  pub row_tested : {k : ℕ} (p : ℕ) {t : Bool} → k ≡ p → t ≡ lead_test low high k (take (length low) cells) → t ≡ sure_test low high p
  row_tested p l h = h ∙ rw (row_first low b.many e, l)
