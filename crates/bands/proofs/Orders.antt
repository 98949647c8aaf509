-- The permutation of bands: what each way out answers, and that it is given exactly when it is sure. Assumes nothing.
use mathlib.Core.Path.{◌≡◌, sym, ap, ◌∙◌}
use mathlib.Core.Bool.{true, false, false≢true}
use mathlib.Core.List.{List, []}
use Prim.Native.Nat.{ℕ, ◌-◌}
use native.Mathlib.Omega.{arith}
use lib.ListN.{length}
use Rattle.theory.specs.Reasons.{unsure}
use Rattle.theory.specs.Levels.{permutation_of}
use Rattle.theory.proofs.Cases.{by_test}
use Rattle.theory.proofs.Refusal.{refused, answered, or_else_done, or_else_refused, or_else_past, tested, test_failed}
use Rattle.theory.proofs.Sorting.{permutation_of_permutation}
use Rattle.permutation.specs.Records.{list_of, record_of}
use Rattle.permutation.specs.Answers.{no_permutation}
use Rattle.permutation.specs.declared.answers.Permutation.{Permutation}
use Rattle.permutation.specs.declared.answers.Permuted.{Permuted}
use Rattle.permutation.proofs.Answering.{permuted_with, list_record}
use Rattle.bands.specs.Bands.{SureOrder}
use Rattle.bands.specs.LeadTest.{sure_test}
use Rattle.bands.specs.Answers.{bands_number, unsure_of, Banded, sure_number, sure_answer, OrderExactly}
use Rattle.bands.proofs.Judging.{banded, banded_done, bands_only}
use Rattle.bands.proofs.Sure.{above_order, order_same, order_above, tested_above, above_tested}

-- ---- what each way out answers

pub order_fault : (low high : List ℕ) {number : ℕ} → number ≡ bands_number low high → (number ≡ 0 → ⊥) → no_permutation number ≡ sure_answer low high
unfolding sure_answer sure_number
order_fault low high e ne =
    refused permuted_with (permutation_of low) [] (or_else_refused (bands_number low high) (unsure_of low high (length low - 1)) e ne) ne

module _ {low high : List ℕ} (b : Banded low high) where
  pub order_unsure : sure_test low high (length low - 1) ≡ false → no_permutation unsure ≡ sure_answer low high
  unfolding sure_answer sure_number
  order_unsure e = refused permuted_with (permutation_of low) [] (rw (banded_done b, e)) (λ z. omega arith)

  module _ (e : sure_test low high (length low - 1) ≡ true) where
    order_given : permuted_with 0 (permutation_of low) ≡ sure_answer low high
    unfolding sure_answer sure_number
    order_given = answered permuted_with (permutation_of low) [] (rw (banded_done b, e))

    pub order_done : {p : Permutation} → p ≡ record_of (permutation_of low)
        → ◌≡◌ {A = Permuted} (record { number = 0; permutation = p }) (sure_answer low high)
    order_done f = ap (λ (p : Permutation). record { number = 0; permutation = p }) f ∙ order_given

  -- ---- the test tells whether an order is sure
  pub sure_order : sure_test low high (length low - 1) ≡ true → SureOrder low high (permutation_of low)
  sure_order e = above_order b.bands (length low - 1) (omega arith) (omega arith) (tested_above b.bands (length low - 1) (omega (arith, b.few)) e)

  order_sure : {xs : List ℕ} → SureOrder low high xs → sure_test low high (length low - 1) ≡ true
  order_sure s = above_tested b.bands (length low - 1) (omega (arith, b.few)) (order_above b.bands s (length low - 1) (omega arith))

-- ---- what the number tells

done_order : (low high : List ℕ) → sure_number low high ≡ 0 → Banded low high × (sure_test low high (length low - 1) ≡ true)
unfolding sure_number
done_order low high z =
    let t = or_else_done (bands_number low high) (unsure_of low high (length low - 1)) z in
    (banded low high t.0, tested _ (λ e. omega arith) t.1)

pub unsure_order : (low high : List ℕ) → sure_number low high ≡ 10 → Banded low high × (sure_test low high (length low - 1) ≡ false)
unfolding sure_number
unsure_order low high z =
    let t = or_else_past (bands_number low high) (unsure_of low high (length low - 1)) (bands_only low high (λ e. omega arith) (λ e. omega arith) (λ e. omega arith)) z in
    (banded low high t.0, test_failed _ 10 (λ e. omega arith) t.1)

pub order_exactly : (low high : List ℕ) {r : Permuted} → r ≡ sure_answer low high → OrderExactly low high r
unfolding sure_answer
order_exactly low high {r} e =
    let number : r.number ≡ sure_number low high = ap (λ (a : Permuted). a.number) e in
    record {
      given_sure = λ z.
          let t = done_order low high (sym number ∙ z) in
          let is : list_of r.permutation ≡ permutation_of low =
          rw (e, sym number ∙ z) (list_record (length low) (permutation_of low) t.0.few t.0.many (permutation_of_permutation low)) in
          (t.0, rw is (sure_order t.0 t.1));
      sure_given = λ b xs s. e ∙ sym (order_given b (order_sure b s)) ∙ ap (permuted_with 0) (order_same b.bands s);
      unsure_none = λ z.
          let t = unsure_order low high (sym number ∙ z) in
          (t.0, λ xs s. false≢true (sym t.1 ∙ order_sure t.0 s));
      none_unsure = λ b none.
          by_test (sure_test low high (length low - 1))
          (λ t. absurd (none (permutation_of low) (sure_order b t)))
          (λ t. e ∙ sym (order_unsure b t));
    }
