-- The test on the cells sorted by lowest level holds exactly when cells lead in every choice, and exactly when every choice has one permutation. Assumes nothing.
use mathlib.Core.Path.{◌≡◌, sym, ◌∙◌}
use mathlib.Core.Bool.{true}
use mathlib.Core.List.{List}
use Prim.Native.Nat.{ℕ, ◌-◌, ◌≤◌, ◌<◌}
use native.Mathlib.Omega.{arith}
use lib.ListN.{length, take}
use Rattle.theory.specs.Permutation.{IsPermutation}
use Rattle.theory.specs.Levels.{permutation_of, ReadsAs}
use Rattle.theory.proofs.Sorting.{permutation_of_permutation, reads_permutation_of, reads_untied, reads_is}
use Rattle.bands.specs.Bands.{Bands, Choice, SureOrder, SureLead}
use Rattle.bands.specs.LeadTest.{sure_test}
use Rattle.bands.proofs.Above.{Above, test_above, above_test, falls_above, above_falls}
use Rattle.bands.proofs.Choices.{lowest_choice, above_choices, choices_above}
use Rattle.bands.proofs.Leading.{above_leads, leads_above, leads_first}

module _ {low high : List ℕ} (b : Bands low high) where
  abbrev xs : List ℕ
  xs = permutation_of low

  o : IsPermutation (length low) xs
  o = permutation_of_permutation low

  on : (L : List ℕ) → Choice low high L → IsPermutation (length L) xs
  on L k = rw k.long o

  -- ---- p cells
  module _ (p : ℕ) (fits : p ≤ length low) where
    pub above_lead : Above low high p xs → SureLead low high p (take p xs)
    above_lead a L k = above_leads (on L k) p (omega (arith, k.long)) (above_choices b o p fits a L k)

    module _ {q : List ℕ} (s : SureLead low high p q) where
      pub lead_same : take p xs ≡ q
      lead_same = leads_first fits (s low (lowest_choice b))

      pub lead_above : Above low high p xs
      lead_above = choices_above b o p fits (λ L k. leads_above {L = L} (on L k) p (omega (arith, k.long)) (rw lead_same (s L k)))

  -- ---- all cells
  pub above_order : (p : ℕ) → p ≤ length low → length low - 1 ≤ p → Above low high p xs → SureOrder low high xs
  above_order p fits all a =
      let reads : (L : List ℕ) → Choice low high L → ReadsAs L xs =
      λ L k. record { permutation = on L k; falls = above_falls L p xs (omega (arith, o.long)) (above_choices b o p fits a L k) } in
      record { untied = λ L k. reads_untied (reads L k); same = λ L k. reads_is (reads L k) }

  module _ {ys : List ℕ} (s : SureOrder low high ys) where
    pub order_same : xs ≡ ys
    order_same = s.same low (lowest_choice b)

    pub order_above : (p : ℕ) → p ≤ length low → Above low high p xs
    order_above p fits =
        choices_above b o p fits
        (λ L k. falls_above L p xs (rw (s.same L k ∙ sym order_same) at (reads_permutation_of L (s.untied L k)).falls))

  -- ---- the test
  module _ (p : ℕ) (short : p < length low) where
    pub tested_above : sure_test low high p ≡ true → Above low high p xs
    tested_above e = test_above low high p xs (omega (arith, o.long)) e

    pub above_tested : Above low high p xs → sure_test low high p ≡ true
    above_tested a = above_test low high p xs (omega (arith, o.long)) a
