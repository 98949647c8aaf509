-- The entries of the smaller permutation, and the next step by the tests that the code makes. Assumes nothing.
use mathlib.Core.Path.{◌≡◌, refl, sym, ap, ◌∙◌}
use mathlib.Core.List.{List}
use Prim.Native.Nat.{ℕ, zero, suc, ◌+◌, ◌-◌, ◌≤◌, ◌<◌}
use native.Mathlib.Omega.{arith}
use borrow.Author.Tests.{le-leb}
use lib.ListN.{length, get_or, take, drop, length-drop, length-reverse}
use lib.Seq.{get_or-take, get_or-drop}
use Rattle.theory.specs.Permutation.{top}
use Rattle.theory.specs.Successor.{smaller, successor}
use Rattle.theory.specs.Deciding.{tests, deciding_size}
use Rattle.theory.proofs.Padding.{reverse_at, padding}
use Rattle.theory.proofs.Splits.{successor_low, successor_top, successor_bounds}
use Rattle.theory.proofs.Deciding.{tests_top, tests_low, size_top, size_low, size_tests}
use Rattle.permutation.specs.Records.{list_of, record_of}
use Rattle.std.specs.Prelude.{Ok}
use Rattle.permutation.specs.Answers.{step_of, placed_if, as_placed}
use Rattle.permutation.specs.declared.answers.Permutation.{Permutation}
use Rattle.permutation.specs.declared.answers.Placed.{Placed}
use Rattle.permutation.specs.declared.answers.Step.{Step}

-- ---- the smaller permutation

pub smaller_length : (xs : List ℕ) → length (smaller xs) ≡ length xs - 1
unfolding smaller
smaller_length xs = length-reverse (drop 1 xs) ∙ length-drop 1 xs

-- its entries are the names from the last on
pub smaller_at : (xs : List ℕ) (i : ℕ) → i < length xs - 1 → get_or xs (length xs - 1 - i) 0 ≡ get_or (smaller xs) i 0
unfolding smaller
smaller_at xs i below =
    let place : 1 + (length xs - 1 - 1 - i) ≡ length xs - 1 - i = omega arith in
    sym (reverse_at (drop 1 xs) i 0 (length-drop 1 xs) below ∙ get_or-drop 1 xs (length xs - 1 - 1 - i) 0 ∙ ap (λ (k : ℕ). get_or xs k 0) place)

-- ---- the next step, by the tests

pub step_small : (n : ℕ) (xs : List ℕ) → n ≤ 2 → record { place = 2; tests = 0; size = 2 } ≡ step_of n xs
unfolding successor tests deciding_size
step_small zero xs h = refl
step_small (suc m) xs h = rw (le-leb (suc m) 2 h)

pub step_last : (n : ℕ) (xs : List ℕ) → 2 < n → (top xs ≡ n → ⊥) → record { place = n; tests = 1; size = n } ≡ step_of n xs
step_last zero xs big ne = absurd (omega arith)
step_last (suc m) xs big ne = rw (successor_low m xs (omega arith) ne, tests_low m xs big ne, size_low m xs big ne)

-- with cell n on top, from that of the smaller permutation
abbrev step_largest : ℕ → Step → Step
step_largest n inner = record { place = n + 1 - inner.place; tests = 1 + inner.tests; size = inner.size }

largest_step : (n : ℕ) (xs : List ℕ) → 2 < n → top xs ≡ n → step_largest n (step_of (n - 1) (smaller xs)) ≡ step_of n xs
largest_step zero xs big e = absurd (omega arith)
largest_step (suc m) xs big e =
    let q : suc m - 1 ≡ m = omega arith in
    rw (q, successor_top m xs (omega arith) e, tests_top m xs big e, size_top m xs big e)

-- its place alone

pub successor_small : (n : ℕ) (xs : List ℕ) → n ≤ 2 → 2 ≡ successor n xs
successor_small n xs h = ap (λ (a : Step). a.place) (step_small n xs h)

pub successor_last : (n : ℕ) (xs : List ℕ) → 2 < n → (top xs ≡ n → ⊥) → n ≡ successor n xs
successor_last n xs big ne = ap (λ (a : Step). a.place) (step_last n xs big ne)

-- ---- names that are those of the record r, which holds the smaller permutation
module _ (xs : List ℕ) (big : 2 < length xs) (high : length xs ≤ 20) {r : Permutation} (is : r ≡ record_of (smaller xs)) where
  pub few_names : r.n ≤ 20
  few_names = omega (arith, ap (λ (p : Permutation). p.n) is, smaller_length xs)

  module _ {names : List ℕ} (held : names ≡ list_of r) where
    names_are : names ≡ smaller xs
    names_are = held ∙ rw is (padding (smaller xs) (omega (arith, smaller_length xs))).first

    pub fewer_names : length names ≡ length xs - 1
    fewer_names = ap length names_are ∙ smaller_length xs

    -- p is their successor
    module _ {p : ℕ} (place : p ≡ successor (length names) names) where
      smaller_place : p ≡ successor (length xs - 1) (smaller xs)
      smaller_place = place ∙ ap (λ (k : ℕ). successor k names) fewer_names ∙ ap (successor (length xs - 1)) names_are

      pub smaller_bound : p ≤ length xs + 1
      smaller_bound = omega (arith, smaller_place, (successor_bounds (length xs - 1) (smaller xs) (omega arith)).1)

      pub successor_first : top xs ≡ length xs → length xs + 1 - p ≡ successor (length xs) xs
      successor_first e = ap (λ (k : ℕ). length xs + 1 - k) smaller_place ∙ ap (λ (a : Step). a.place) (largest_step (length xs) xs big e)

    -- inner is their next step
    module _ {inner : Step} (decided : inner ≡ step_of (length names) names) where
      smaller_decided : inner ≡ step_of (length xs - 1) (smaller xs)
      smaller_decided = decided ∙ ap (λ (k : ℕ). step_of k names) fewer_names ∙ ap (step_of (length xs - 1)) names_are

      pub inner_bounds : (inner.place ≤ length xs + 1) × (inner.tests ≤ length xs)
      inner_bounds =
          let tested = ap (λ (a : Step). a.tests) smaller_decided in
          (smaller_bound (ap (λ (a : Step). a.place) decided), omega (arith, tested, size_tests (length xs - 1) (smaller xs) (omega arith)))

      pub decided_first : top xs ≡ length xs → step_largest (length xs) inner ≡ step_of (length xs) xs
      decided_first e = rw smaller_decided (largest_step (length xs) xs big e)

-- ---- the same of the whole answer, of a row whose first n cells are the names

pub decided_small : (n : ℕ) (xs : List ℕ) → n ≤ 2 → record { number = 0; place = 2; tests = 0; size = 2 } ≡ placed_if 0 n xs
decided_small n xs h = ap (λ (s : Step). as_placed (Ok s)) (step_small n xs h)

pub decided_last : (n : ℕ) (cells : List ℕ) → 2 < n → (get_or cells 0 0 ≡ n → ⊥)
    → record { number = 0; place = n; tests = 1; size = n } ≡ placed_if 0 n (take n cells)
decided_last n cells big ne =
    ap (λ (s : Step). as_placed (Ok s)) (step_last n (take n cells) big (λ e. ne (sym (get_or-take n cells 0 0 (omega arith)) ∙ e)))

-- with cell n on top, from that of the smaller permutation
abbrev with_largest : ℕ → Placed → Placed
with_largest n inner = record { number = 0; place = n + 1 - inner.place; tests = 1 + inner.tests; size = inner.size }
