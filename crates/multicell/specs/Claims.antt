-- What is claimed of arrangements, and of a change from one into another; `ArrangementClaims` has it all, with its conditions, and `proofs/Claims` proves it.
-- Assumes nothing.
use Rattle.std.specs.Prelude.{◌≡◌, true, List, [], ◌∷◌, ℕ, ◌+◌, ◌*◌, ◌≤◌, ◌<◌, length, get_or, ℤ, pos, negsuc, ◌≤ℤ◌}
use Rattle.theory.specs.Levels.{highest}
use Rattle.theory.specs.Permutation.{IsPermutation}
use Rattle.multicell.specs.Arrangement.{IsArrangement, used_each, IsRaise}
use Rattle.multicell.specs.Cost.{differences, largest, cost_of, raised_levels}

-- the test tells the arrangements among the lists of q × z levels
pub record ArrangementTest (q z : ℕ) (a : List ℕ) : Type 0 where
  pub is : length a ≡ q * z → used_each q z a ≡ true → IsArrangement q z a
  pub only : IsArrangement q z a → used_each q z a ≡ true

-- with one cell to a level, the levels are a permutation of 1 to q
pub record Plain (q : ℕ) (a : List ℕ) : Type 0 where
  pub permutation : IsArrangement q 1 a → IsPermutation q a
  pub arrangement : IsPermutation q a → IsArrangement q 1 a

-- "the largest": none is larger, and one is it
pub record IsLargest (ds : List ℤ) (m : ℤ) : Type 0 where
  pub each : (i : ℕ) → i < length ds → get_or ds i (pos 0) ≤ℤ m
  pub index : ℕ
  pub within : index < length ds
  pub here : get_or ds index (pos 0) ≡ m

-- what a change from `old` into `new` costs, and the levels that it leaves
pub record LeastRaise (q : ℕ) (old new : List ℕ) (cost : ℕ) (raised : List ℕ) : Type 0 where
  -- "the largest of old level less new level over all cells. Those differences can be negative; their largest can't."
  pub difference : IsLargest (differences old new) (pos cost)
  pub raise : IsRaise old new raised
  -- "The cost is how far the highest level rises above q"
  pub risen : highest raised ≡ q + cost
  -- "and it is to be the least possible": to whatever levels the cells may rise, the highest is not lower
  pub least : (other : List ℕ) → IsRaise old new other → q + cost ≤ highest other
  -- here cells of one new level end on one level
  pub together : (i j : ℕ) → i < length new → j < length new → get_or new i 0 ≡ get_or new j 0 → get_or raised i 0 ≡ get_or raised j 0
  -- so the highest is at most 2q - 1, which is 31 where q is 16
  pub below : cost < q

-- document 000's examples, on whole levels
pub record RaiseExamples : Type 0 where
  -- Example 2: the ranks (2,3,1,2,3,1), which Example 1 reads too, become (1,1,2,2,3,3), and the highest level rises from 4 to 6
  pub example_2 : cost_of (2 ∷ 3 ∷ 1 ∷ 2 ∷ 3 ∷ 1 ∷ []) (1 ∷ 1 ∷ 2 ∷ 2 ∷ 3 ∷ 3 ∷ []) ≡ 2
  pub example_2_differences :
      differences (2 ∷ 3 ∷ 1 ∷ 2 ∷ 3 ∷ 1 ∷ []) (1 ∷ 1 ∷ 2 ∷ 2 ∷ 3 ∷ 3 ∷ []) ≡ pos 1 ∷ pos 2 ∷ negsuc 0 ∷ pos 0 ∷ pos 0 ∷ negsuc 1 ∷ []
  pub example_2_raised : raised_levels 2 (1 ∷ 1 ∷ 2 ∷ 2 ∷ 3 ∷ 3 ∷ []) ≡ 3 ∷ 3 ∷ 4 ∷ 4 ∷ 5 ∷ 5 ∷ []
  -- there the cells of rank 1 stay where they are: a raise of the same cost, in which cells of one new level do not end on one level
  pub example_2_uneven : IsRaise (2 ∷ 3 ∷ 1 ∷ 2 ∷ 3 ∷ 1 ∷ []) (1 ∷ 1 ∷ 2 ∷ 2 ∷ 3 ∷ 3 ∷ []) (2 ∷ 3 ∷ 4 ∷ 4 ∷ 5 ∷ 5 ∷ [])
  -- Example 10: of the ranks (1,2,1,3,2,3), cells 2 and 5 come to rank 1, then 1 and 4 to rank 2, 3 and 6 to rank 3, at "no greater" cost than 1
  pub example_10 : cost_of (1 ∷ 2 ∷ 1 ∷ 3 ∷ 2 ∷ 3 ∷ []) (2 ∷ 1 ∷ 3 ∷ 2 ∷ 1 ∷ 3 ∷ []) ≡ 1

pub record ArrangementClaims : Type 0 where
  pub test : (q z : ℕ) (a : List ℕ) → ArrangementTest q z a
  pub plain : (q : ℕ) (a : List ℕ) → Plain q a
  pub largest : (ds : List ℤ) → 1 ≤ length ds → IsLargest ds (largest ds)
  pub least :
      (q z : ℕ) (old new : List ℕ) → 1 ≤ q → 1 ≤ z → IsArrangement q z old → IsArrangement q z new
      → LeastRaise q old new (cost_of old new) (raised_levels (cost_of old new) new)
  pub examples : RaiseExamples
