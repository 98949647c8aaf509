-- The running maximum of the differences. Assumes nothing.
use mathlib.Core.Path.{◌≡◌, refl, ap, sym, ◌∙◌}
use mathlib.Core.List.{List, [], ◌∷◌, map}
use Prim.Native.Nat.{ℕ, ◌≤◌, ◌<◌}
use native.Mathlib.Omega.{arith}
use lib.Dec.{T}
use lib.IntN.{ℤ, pos, nat_abs, ◌-ℤ◌}
use lib.Signed.{non_neg}
use lib.ListN.{length, drop, drop_of_length-le}
use mir.Syntax.{w8}
use mir.Val.{Fits}
use Rattle.std.proofs.lemmas.Int.{ints}
use Rattle.std.specs.List.{fold, reduce, zip}
use Rattle.std.specs.Ordering.{int_cmp, max_by_ordering}
use Rattle.std.specs.declared.option.Option.TheVariants.{Some}
use Rattle.multicell.specs.Cost.{differences, maxℤ, largest_from, largest, cost_of}
use Rattle.multicell.specs.Pricing.{Priced}
use Rattle.multicell.proofs.Differences.{differences_length}

-- ---- the maximum

-- what `max` keeps of two
abbrev pub kept : ℤ → ℤ → ℤ
kept a b = max_by_ordering (int_cmp a b) a b

kept_is : (a b : ℤ) → kept a b ≡ maxℤ a b
kept_is a b = grind (arith, ints)

kept_from : (m : ℤ) (ds : List ℤ) → fold kept m ds ≡ largest_from m ds
kept_from m [] = refl
kept_from m (d ∷ ds) = rw (kept_is m d) (kept_from (maxℤ m d) ds)

kept_of : (ds : List ℤ) → 0 < length ds → reduce kept ds ≡ Some (largest ds)
kept_of [] l = absurd (omega arith)
kept_of (d ∷ ds) l = ap Some (kept_from d ds)

-- ---- the differences, cell by cell

abbrev pub difference : ℕ × ℕ → ℤ
difference p = pos p.0 -ℤ pos p.1

cell_by_cell : (old new : List ℕ) → map difference (zip old new) ≡ differences old new
cell_by_cell [] new = refl
cell_by_cell (o ∷ old) [] = refl
cell_by_cell (o ∷ old) (n ∷ new) = ap (λ (ds : List ℤ). (pos o -ℤ pos n) ∷ ds) (cell_by_cell old new)

-- `x` is the largest of the first i differences
pub record LargestSoFar (old new : List ℕ) (x : ℤ) (i : ℕ) : Type 0 where
  pub within : i ≤ length old
  pub left : largest_from x (drop i (differences old new)) ≡ largest (differences old new)

module _ {old new : List ℕ} (v : Priced old new) where
  many : length (differences old new) ≡ length old
  many = differences_length old new v.same

  none_left : {i : ℕ} → length old ≤ i → drop i (differences old new) ≡ []
  none_left {i} l = drop_of_length-le (differences old new) {i = i} (omega (arith, many))

  -- so is what `max` finds, of all of them
  pub running_found : {x : ℤ} → reduce kept (map difference (zip old new)) ≡ Some x → LargestSoFar old new x (length old)
  running_found {x} e =
      let all : Some (largest (differences old new)) ≡ Some x =
      sym (kept_of (differences old new) (omega (arith, many, v.some))) ∙ ap (reduce kept) (sym (cell_by_cell old new)) ∙ e in
      let is : x ≡ largest (differences old new) = cc in
      record { within = omega arith; left = rw (none_left {i = length old} (omega arith)) is }

  module _ {x : ℤ} {i : ℕ} (r : LargestSoFar old new x i) (l : length old ≤ i) where
    running_end : x ≡ pos (cost_of old new)
    running_end = (rw (none_left l) at r.left) ∙ v.natural

    -- "their largest can't" be negative, so that it can be cast to a byte
    pub running_cast : T (non_neg x) × Fits w8 (nat_abs x)
    running_cast = rw running_end (tt, record { fits = v.small })

    pub running_cost : nat_abs x ≡ cost_of old new
    running_cost = ap nat_abs running_end
