-- The test, from the bottom up: one turn of the way. Assumes nothing.
use mathlib.Core.Path.{◌≡◌, sym, ◌∙◌}
use mathlib.Core.Bool.{true, false}
use mathlib.Core.List.{List, [], ◌∷◌, map}
use Prim.Native.Nat.{ℕ, zero, suc, ◌-◌, ◌≤◌, ◌<◌, max}
use native.Mathlib.Omega.{arith}
use lib.ListN.{length, get_or, take, drop, drop_of_length-le, length-drop}
use lib.Seq.{drop-cons, get_or-take}
use Rattle.theory.specs.Levels.{level, highest}
use Rattle.theory.proofs.Cases.{by_test}
use Rattle.theory.proofs.Members.{entry_inside}
use Rattle.symbols.specs.AnyPrefix.{PrefixRow}
use Rattle.symbols.proofs.Along.{along_highest, along_below}
use Rattle.bands.specs.LeadTest.{lead_test}
use Rattle.bands.proofs.Above.{Above, test_above, above_test}

-- what was found from the last cell up to that at index i
pub record Found (low high xs : List ℕ) (p bound i : ℕ) : Type 0 where
  pub within : i ≤ length low
  pub bound_is : bound ≡ highest (map (level high) (drop i xs))
  pub above : Above low high (p - i) (drop i xs)

module _ {low cells : List ℕ} {p : ℕ} (t : PrefixRow low cells p) where
  abbrev xs : List ℕ
  xs = take (length low) cells

  short : p < length xs
  short = omega (arith, t.short, t.permutation.long)

  pub found_none : {high : List ℕ} → Found low high xs p 0 (length low)
  found_none =
      let none : drop (length low) xs ≡ [] = drop_of_length-le xs {i = length low} (omega (arith, t.permutation.long)) in
      record { within = omega arith; bound_is = rw none; above = λ j c h m. absurd (omega (arith, t.short)) }

  pub found_all : {high : List ℕ} {bound : ℕ} → Found low high xs p bound 0 → lead_test low high p xs ≡ true
  found_all {high} f = above_test low high p xs short (λ j c h m. f.above j c (omega arith) m)

  module _ {high : List ℕ} {bound i : ℕ} (f : Found low high xs p bound i) (pos : 0 < i) where
    abbrev x : ℕ
    x = get_or cells (i - 1) 0

    up : suc (i - 1) ≡ i
    up = omega arith

    x_is : get_or xs (i - 1) 0 ≡ x
    x_is = get_or-take (length low) cells (i - 1) 0 (omega (arith, f.within))

    parts : drop (i - 1) xs ≡ x ∷ drop i xs
    parts = drop-cons xs (i - 1) 0 (omega (arith, f.within, t.permutation.long)) ∙ rw (up, x_is)

    pub cell_bounds : (1 ≤ x) × (x ≤ length low)
    cell_bounds = rw x_is at (entry_inside t.permutation (i - 1) (omega (arith, f.within, t.permutation.long)))

    -- a cell of the first p whose lowest level is not above the bound
    pub found_not : i - 1 < p → level low x ≤ bound → false ≡ lead_test low high p xs
    found_not first low_is =
        by_test (lead_test low high p xs)
        (λ y.
        let below : highest (map (level high) (drop i xs)) < level low x =
        along_below high (level low x) (drop i xs) (omega (arith, length-drop i xs, short))
        (λ c m. rw x_is at (test_above low high p xs short y (i - 1) c first (rw up m))) in
        absurd (omega (arith, f.bound_is)))
        sym

    -- or one that is not of the first p, or is above it
    module _ (clear : i - 1 < p → bound < level low x) where
      reached : Above low high (p - (i - 1)) (x ∷ drop i xs)
      reached zero c h m =
          let reach : bound < level low x = clear (omega arith) in
          omega (arith, reach, f.bound_is, along_highest high c (drop i xs) m)
      reached (suc j) c h m = f.above j c (omega arith) m

      pub found_more : Found low high xs p (max (level high x) bound) (i - 1)
      found_more = record { within = omega (arith, f.within); bound_is = rw (parts, f.bound_is); above = rw parts reached }
