-- The check of a record: what its ways out answer, and what its callers have of it. Assumes nothing.
use mathlib.Core.Path.{◌≡◌, sym, ap, ◌∙◌}
use mathlib.Core.Bool.{true, and-true}
use mathlib.Core.List.{List}
use Prim.Native.Nat.{ℕ}
use borrow.Author.Tests.{ne_eqb}
use native.Mathlib.Omega.{arith}
use lib.ListN.{length, take, drop, replicate}
use lib.Seq.{length-take-le}
use Rattle.theory.specs.Refusal.{size_of, given}
use Rattle.theory.proofs.Refusal.{refused, given_refused, size_range}
use Rattle.permutation.specs.Records.{list_of, once_each, all_zero, record_number}
use Rattle.permutation.specs.Spots.{spot_row, leaving, spotted, checked, Checked, HasSpots}
use Rattle.permutation.specs.declared.answers.Permutation.{Permutation}
use Rattle.permutation.proofs.Records.{Sound, sound}
use Rattle.permutation.proofs.Spots.{row_has_spots}

abbrev with_spots : ℕ → List ℕ → Checked
with_spots number spots = record { number = number; spots = spots }

-- beside a refusal it does not matter what the spots are
pub refused_alike : {number : ℕ} (spots other : List ℕ) → (number ≡ 0 → ⊥) → leaving number spots ≡ leaving number other
refused_alike {number} spots other ne = rw (ne_eqb number 0 ne)

-- ---- its ways out
module _ (p : Permutation) where
  pub check_refused : {number : ℕ} (spots : List ℕ) → number ≡ record_number p → (number ≡ 0 → ⊥) → leaving number spots ≡ checked p
  unfolding checked
  check_refused {number} spots e ne =
      let none : given number spots (replicate 21 0) ≡ replicate 21 0 = given_refused number spots (replicate 21 0) ne in
      ap (λ (l : List ℕ). with_spots number l) none ∙ refused with_spots (spot_row (list_of p)) (replicate 21 0) e ne

  -- n is in its range, and nothing stands past n: the pass over the names decides
  pub check_names : size_of p.n ≡ 0 → length p.cells ≡ 20 → {k : ℕ} → k ≡ p.n → {names past : List ℕ} → names ≡ take k p.cells → past ≡ drop k p.cells
      → all_zero past ≡ true → spotted (length names) names ≡ checked p
  unfolding spotted checked record_number
  check_names sized long {k} e {names} {past} front back zeros =
      let whole : names ≡ list_of p = front ∙ ap (λ (m : ℕ). take m p.cells) e in
      let many : length names ≡ p.n = ap length whole ∙ length-take-le p.n p.cells (omega (arith, (size_range p.n sized).1)) in
      let rest : all_zero (drop p.n p.cells) ≡ true = ap (λ (m : ℕ). all_zero (drop m p.cells)) (sym e) ∙ ap all_zero (sym back) ∙ zeros in
      rw (many, whole, sized, rest, and-true (once_each p.n (list_of p)))

-- ---- what it answered
module _ (p : Permutation) {r : Checked} (e : r ≡ checked p) where
  pub check_number : r.number ≡ record_number p
  unfolding checked
  check_number = ap (λ (k : Checked). k.number) e

  pub check_sound : length p.cells ≡ 20 → r.number ≡ 0 → Sound p
  check_sound long z = sound p long (sym check_number ∙ z)

  pub check_spots : Sound p → HasSpots (list_of p) p.n r.spots
  unfolding checked
  check_spots s =
      let row = ap (λ (k : Checked). k.spots) e in
      rw (row, s.fault) (row_has_spots s.many s.permutation)
