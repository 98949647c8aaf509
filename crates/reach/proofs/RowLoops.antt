-- Where a cell is in a row, as `position` finds it. Assumes nothing.
use mathlib.Core.Path.{◌≡◌, refl, ap, sym, ◌∙◌}
use mathlib.Core.List.{List, [], ◌∷◌}
use Prim.Native.Nat.{ℕ, ◌+◌, ◌-◌, ◌≤◌, ◌<◌}
use native.Mathlib.Omega.{arith}
use lib.ListN.{length, take, drop, length-drop}
use lib.Seq.{length-take-le}
use borrow.Author.Tests.{eq-eqb, ne_eqb}
use Rattle.std.specs.List.{AllWithin, HoldsAt}
use Rattle.std.specs.Option.{MatchOption, unwrap_or}
use Rattle.std.specs.declared.option.Option.{Option}
use Rattle.std.proofs.lemmas.Iterator.{index_from_first}
use Rattle.std.proofs.lemmas.List.{drop-take}
use Rattle.theory.specs.Permutation.{place_of}
use Rattle.theory.proofs.Places.{place_of_low}

-- ---- what `position` answers, as a place

module _ (c : ℕ) where
  before : List ℕ → ℕ
  before xs = place_of c xs - 1

  found_here : (x : ℕ) (xs : List ℕ) → x ≡ c → before (x ∷ xs) ≡ 0
  unfolding place_of before
  found_here x xs e = rw (eq-eqb x c e)

  found_later : (x : ℕ) (xs : List ℕ) → (x ≡ c → ⊥) → before (x ∷ xs) ≡ before xs + 1
  unfolding place_of before
  found_later x xs ne = rw (ne_eqb x c ne) (omega (arith, place_of_low c xs))

  found_none : before [] ≡ 0
  unfolding place_of before
  found_none = refl

  -- of p cells and those behind them, up to n
  module _ (row : List ℕ) {p n : ℕ} (first : p ≤ n) (long : n ≤ length row) where
    behind : take (n - p) (drop p row) ≡ drop p (take n row)
    behind = let q : p + (n - p) ≡ n = omega arith in sym (rw q at (drop-take p (n - p) row))

    many : length (drop p (take n row)) ≡ n - p
    many = length-drop p (take n row) ∙ rw (length-take-le n row long)

    pub part_long : length (take (n - p) (drop p row)) ≡ n - p
    part_long = ap length behind ∙ many

    pub found_place :
        (r : Option ℕ)
        → let xs : List ℕ = take (n - p) (drop p row) in
        MatchOption r (AllWithin (λ x. x ≡ c → ⊥) xs 0 (length xs)) (λ i. (i < length xs) × HoldsAt (λ x. x ≡ c) xs i × AllWithin (λ x. x ≡ c → ⊥) xs 0 i)
        → p + unwrap_or r (n - p) + 1 ≡ p + place_of c (drop p (take n row))
    unfolding before
    found_place r m =
        let is = index_from_first before (λ x. x ≡ c) (λ x. x ≡ c → ⊥) found_none found_here found_later (take (n - p) (drop p row)) r m in
        let here : place_of c (drop p (take n row)) - 1 ≡ unwrap_or r (n - p) = rw (behind, many) at is in
        omega (arith, here, place_of_low c (drop p (take n row)))
