-- The number of two lists of levels, by the tests that the code makes. Assumes nothing.
use mathlib.Core.Path.{◌≡◌, refl, sym}
use mathlib.Core.Bool.{true, false, cond, and-eq-true_iff}
use mathlib.Core.List.{List, [], ◌∷◌}
use Prim.Native.Nat.{ℕ, zero, suc, ◌-◌, ◌≤◌, ◌<◌}
use native.Mathlib.Omega.{arith}
use borrow.Author.Tests.{le-leb, leb-true, eq-eqb, ne_eqb, eqb-true}
use lib.Dec.{eqb, leb}
use lib.ListN.{length, get_or}
use Rattle.std.specs.List.{list_all, zip}
use Rattle.theory.specs.Reasons.{done, fit, value, sized}
use Rattle.theory.specs.Refusal.{size_of}
use Rattle.theory.proofs.Refusal.{or_else_done, or_else_only, tested, test_only, size_range, size_done}
use Rattle.bands.specs.Answers.{none_above, bands_number, Banded}

-- ---- no lowest level is above its highest, level by level

none_each : (low high : List ℕ) → length high ≡ length low → none_above low high ≡ true → (i : ℕ) → i < length low → get_or low i 0 ≤ get_or high i 0
unfolding none_above
none_each [] high same e i h = absurd (omega arith)
none_each (a ∷ low) [] same e i h = absurd (omega arith)
none_each (a ∷ low) (b ∷ high) same e zero h = leb-true a b ((and-eq-true_iff (leb a b) (none_above low high)).0 e).0
none_each (a ∷ low) (b ∷ high) same e (suc i) h =
    none_each low high (omega arith) ((and-eq-true_iff (leb a b) (none_above low high)).0 e).1 i (omega arith)

each_none : (low high : List ℕ) → length high ≡ length low → ((i : ℕ) → i < length low → get_or low i 0 ≤ get_or high i 0) → none_above low high ≡ true
unfolding none_above
each_none [] high same h = refl
each_none (a ∷ low) [] same h = refl
each_none (a ∷ low) (b ∷ high) same h =
    rw (le-leb a b (h zero (omega arith))) (each_none low high (omega arith) (λ i l. h (suc i) (omega arith)))

-- said of the lists pair by pair
pub none_pairs : (low high : List ℕ) → list_all (λ (p : ℕ × ℕ). leb p.0 p.1) (zip low high) ≡ none_above low high
unfolding none_above
none_pairs [] high = refl
none_pairs (a ∷ low) [] = refl
none_pairs (a ∷ low) (b ∷ high) = rw (none_pairs low high)

-- ---- the number

module _ (low high : List ℕ) where
  -- by the tests that come before
  module _ (size : size_of (length low) ≡ 0) where
    pub bands_fit : (length high ≡ length low → ⊥) → fit ≡ bands_number low high
    unfolding bands_number
    bands_fit ne = rw (size, ne_eqb (length high) (length low) ne)

    module _ (same : length high ≡ length low) where
      pub bands_value : none_above low high ≡ false → value ≡ bands_number low high
      unfolding bands_number
      bands_value e = rw (size, eq-eqb (length high) (length low) same, e)

      pub bands_done : none_above low high ≡ true → done ≡ bands_number low high
      unfolding bands_number
      bands_done e = rw (size, eq-eqb (length high) (length low) same, e)

  -- size, fit and value are all
  pub bands_only : {k : ℕ} → (k ≡ 1 → ⊥) → (k ≡ 2 → ⊥) → (k ≡ 5 → ⊥) → bands_number low high ≡ k → k ≡ 0
  unfolding bands_number
  bands_only size fit value =
      or_else_only _ _ (test_only (sized (length low)) size)
      (or_else_only _ _ (test_only (eqb (length high) (length low)) fit) (test_only (none_above low high) value))

  pub banded : bands_number low high ≡ 0 → Banded low high
  unfolding bands_number
  banded z =
      let a = or_else_done (size_of (length low)) _ z in
      let b = or_else_done (cond (eqb (length high) (length low)) done fit) _ a.1 in
      let s = size_range (length low) a.0 in
      let same : length high ≡ length low = eqb-true (length high) (length low) (tested _ (λ e. omega arith) b.0) in
      let none : none_above low high ≡ true = tested _ (λ e. omega arith) b.1 in
      record {
        few = s.0;
        many = s.1;
        bands = record { same = same; upward = λ c l h. none_each low high same none (c - 1) (omega arith) };
      }

pub banded_done : {low high : List ℕ} → Banded low high → bands_number low high ≡ 0
banded_done {low} {high} b =
    sym (bands_done low high (size_done (length low) b.few b.many) b.bands.same
    (each_none low high b.bands.same
    (λ i h. let back : suc i - 1 ≡ i = omega arith in rw back at (b.bands.upward (suc i) (omega arith) (omega arith)))))
