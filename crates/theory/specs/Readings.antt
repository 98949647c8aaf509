-- Document 01, "Bench readings": the starred rows, each as it is written there. Assumes nothing.
use Rattle.std.specs.Prelude.{◌≡◌, List, [], ◌∷◌, ℕ}
use Rattle.theory.specs.Successor.{successor, step}
use Rattle.theory.specs.Rank.{digits, rank}
use Rattle.theory.specs.Unrank.{unrank}
use Rattle.theory.specs.Rewrite.{rewrite_pushes}
use Rattle.theory.specs.Prefix.{prefix_at, prefix_number, prefix_length}

-- xs has rank r, and the permutation of rank r is xs
abbrev pub HasRank : ℕ → List ℕ → ℕ → Type 0
HasRank n xs r = (rank n xs ≡ r) × (unrank n r ≡ xs)

pub record Readings : Type 0 where
  -- "[1,2] rank 0; [2,1] rank 1."
  pub two_cells : HasRank 2 (1 ∷ 2 ∷ []) 0 × HasRank 2 (2 ∷ 1 ∷ []) 1
  -- "Ranks 0 to 5 for n = 3: [1,3,2], [2,1,3], [3,2,1], [2,3,1], [1,2,3], [3,1,2]; then [1,3,2] again."
  pub three_cells :
      HasRank 3 (1 ∷ 3 ∷ 2 ∷ []) 0 × (step 3 (1 ∷ 3 ∷ 2 ∷ []) ≡ 2 ∷ 1 ∷ 3 ∷ [])
      × HasRank 3 (2 ∷ 1 ∷ 3 ∷ []) 1 × (step 3 (2 ∷ 1 ∷ 3 ∷ []) ≡ 3 ∷ 2 ∷ 1 ∷ [])
      × HasRank 3 (3 ∷ 2 ∷ 1 ∷ []) 2 × (step 3 (3 ∷ 2 ∷ 1 ∷ []) ≡ 2 ∷ 3 ∷ 1 ∷ [])
      × HasRank 3 (2 ∷ 3 ∷ 1 ∷ []) 3 × (step 3 (2 ∷ 3 ∷ 1 ∷ []) ≡ 1 ∷ 2 ∷ 3 ∷ [])
      × HasRank 3 (1 ∷ 2 ∷ 3 ∷ []) 4 × (step 3 (1 ∷ 2 ∷ 3 ∷ []) ≡ 3 ∷ 1 ∷ 2 ∷ [])
      × HasRank 3 (3 ∷ 1 ∷ 2 ∷ []) 5 × (step 3 (3 ∷ 1 ∷ 2 ∷ []) ≡ 1 ∷ 3 ∷ 2 ∷ [])
  -- "[1,4,2,3] rank 0; [4,2,3,1] rank 3, next push at place 2, giving [2,4,3,1]."
  pub four_cells_low :
      HasRank 4 (1 ∷ 4 ∷ 2 ∷ 3 ∷ []) 0
      × HasRank 4 (4 ∷ 2 ∷ 3 ∷ 1 ∷ []) 3
      × (successor 4 (4 ∷ 2 ∷ 3 ∷ 1 ∷ []) ≡ 2)
      × (step 4 (4 ∷ 2 ∷ 3 ∷ 1 ∷ []) ≡ 2 ∷ 4 ∷ 3 ∷ 1 ∷ [])
  -- "[1,2,3,4] rank 10; [4,1,2,3] rank 11, next push at place 3."
  pub four_cells_middle :
      HasRank 4 (1 ∷ 2 ∷ 3 ∷ 4 ∷ []) 10
      × HasRank 4 (4 ∷ 1 ∷ 2 ∷ 3 ∷ []) 11
      × (successor 4 (4 ∷ 1 ∷ 2 ∷ 3 ∷ []) ≡ 3)
  -- "[4,2,1,3] rank 23, next order [1,4,2,3]."
  pub four_cells_last : HasRank 4 (4 ∷ 2 ∷ 1 ∷ 3 ∷ []) 23 × (step 4 (4 ∷ 2 ∷ 1 ∷ 3 ∷ []) ≡ 1 ∷ 4 ∷ 2 ∷ 3 ∷ [])
  -- "[2,5,4,3,6,1] digits 3,1,3,1,0,0, rank 219."
  pub six_cells :
      (digits 6 (2 ∷ 5 ∷ 4 ∷ 3 ∷ 6 ∷ 1 ∷ []) ≡ 3 ∷ 1 ∷ 3 ∷ 1 ∷ 0 ∷ 0 ∷ [])
      × HasRank 6 (2 ∷ 5 ∷ 4 ∷ 3 ∷ 6 ∷ 1 ∷ []) 219
  -- "[1,6,4,2,3,5] rank 0."
  pub six_cells_zero : HasRank 6 (1 ∷ 6 ∷ 4 ∷ 2 ∷ 3 ∷ 5 ∷ []) 0
  -- "[1,2,3,4,5] to [5,2,1,3,4]: pushes 2 then 5."
  pub rewrite : rewrite_pushes (1 ∷ 2 ∷ 3 ∷ 4 ∷ 5 ∷ []) (5 ∷ 2 ∷ 1 ∷ 3 ∷ 4 ∷ []) ≡ 2 ∷ 5 ∷ []
  -- "n = 4: m = 4 has p = 1, m = 5 and 12 have p = 2, m = 13 has p = 3; prefix [3,1] is number 6 at p = 2."
  pub prefix :
      (prefix_length 4 4 ≡ 1)
      × (prefix_length 4 5 ≡ 2)
      × (prefix_length 4 12 ≡ 2)
      × (prefix_length 4 13 ≡ 3)
      × (prefix_at 4 2 6 ≡ 3 ∷ 1 ∷ [])
      × (prefix_number 4 2 (3 ∷ 1 ∷ []) ≡ 6)
