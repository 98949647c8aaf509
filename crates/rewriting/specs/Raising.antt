-- The first cells of a row pushed on levels. Only inner contracts cite these. Assumes nothing.
use Rattle.std.specs.Prelude.{◌≡◌, List, reverse, ℕ, zero, suc, ◌+◌, ◌≤◌, ◌<◌, length, get_or, take}
use Rattle.theory.specs.Reasons.{max_level}
use Rattle.theory.specs.Levels.{highest, push_levels}
use Rattle.theory.specs.CountUp.{ceiling_of}
use Rattle.theory.specs.Refusal.{given}

-- the first r of a row of twenty are cells of n
pub record Pushable (n : ℕ) (cells : List ℕ) (r : ℕ) : Type 0 where
  pub long : length cells ≡ 20
  pub few : r ≤ 20
  pub named : (i : ℕ) → i < r → (1 ≤ get_or cells i 0) × (get_or cells i 0 ≤ n)

-- they can be pushed on L: top is its highest level, and there is room above it for r pushes
pub record Raisable (L cells : List ℕ) (r top : ℕ) : Type 0 where
  pub pushable : Pushable (length L) cells r
  pub top_is : top ≡ highest L
  pub room : top + r ≤ max_level

-- the r levels above top, added up
unfoldable pub sum_above : ℕ → ℕ → ℕ
sum_above top zero = 0
sum_above top (suc r) = sum_above top r + (top + suc r)

-- the levels with those cells pushed, the r-th first; where there is no room, as they were
unfoldable pub raised : List ℕ → List ℕ → ℕ → List ℕ
raised L cells r = given (ceiling_of L r) (push_levels (reverse (take r cells)) L) L
