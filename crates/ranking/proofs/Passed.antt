-- The digit of cell m, of m cells, by how many others are passed. Assumes nothing.
use mathlib.Core.Path.{◌≡◌, ap, ap₂, ◌∙◌}
use Prim.Native.Nat.{ℕ, ◌+◌, ◌-◌, ◌<◌}
use native.Mathlib.Omega.{arith}
use Rattle.theory.specs.Rank.{digit}
use Rattle.theory.proofs.Splits.{digit_top, digit_lower}

-- none: the theory's laws are of suc m cells
pub digit_none_passed : (m p : ℕ) → p < m → p ≡ 0 → digit m (p + 1) ≡ m - 1
digit_none_passed m p h e = ap₂ digit (omega arith) (omega arith) ∙ digit_top (m - 1)

-- some
pub digit_some_passed : (m p : ℕ) → 0 < p → p < m → digit m (p + 1) ≡ p - 1
digit_some_passed m p low high =
    ap (λ (k : ℕ). digit k (p + 1)) (omega arith) ∙ digit_lower (m - 1) (p + 1) (omega arith) (omega arith) ∙ omega arith
