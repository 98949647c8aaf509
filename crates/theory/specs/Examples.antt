-- Document 02: the examples that its requests give, each as it is written there, and two worked out by hand. Assumes nothing.
use Rattle.std.specs.Prelude.{◌≡◌, [], ◌∷◌}
use Rattle.theory.specs.Rank.{digits, weighted_sum}
use Rattle.theory.specs.Prefix.{symbol_prefix}
use Rattle.theory.specs.Store.{store_pushes}
use Rattle.theory.specs.Zero.{value_from, old_zero, new_zero}
use Rattle.theory.specs.Deciding.{tests, deciding_size, total_tests, factorial_sum}

pub record Examples : Type 0 where
  -- "With [3,1,2,4], 12 symbols and symbol 6 we spend two pushes where none is needed."
  pub settings_that_stand : store_pushes (symbol_prefix 4 12 6) (3 ∷ 1 ∷ 2 ∷ 4 ∷ []) ≡ []
  -- "so [1,2,3,4] is 10 on the old and 0 on the new, and [1,3,2] is 0 and 2"
  pub two_zeros :
      (value_from 4 (old_zero 4) (1 ∷ 2 ∷ 3 ∷ 4 ∷ []) ≡ 10)
      × (value_from 4 (new_zero 4) (1 ∷ 2 ∷ 3 ∷ 4 ∷ []) ≡ 0)
      × (value_from 3 (old_zero 3) (1 ∷ 3 ∷ 2 ∷ []) ≡ 0)
      × (value_from 3 (new_zero 3) (1 ∷ 3 ∷ 2 ∷ []) ≡ 2)
  -- "the sum of i! for i from 3 to n: 6 for three cells, 30 for four": so of all steps of a round, one by one
  pub tests_of_a_round :
      (factorial_sum 3 ≡ 6) × (total_tests 3 6 (1 ∷ 3 ∷ 2 ∷ []) ≡ 6) × (factorial_sum 4 ≡ 30) × (total_tests 4 24 (1 ∷ 4 ∷ 2 ∷ 3 ∷ []) ≡ 30)
  -- of request 9, by hand: [4,2,3,1] shrinks to [1,3,2], where 3 is not on top; [4,1,2,3] to [3,2,1], where it is, and so to two cells
  pub tests_of_a_step :
      (tests 4 (4 ∷ 2 ∷ 3 ∷ 1 ∷ []) ≡ 2)
      × (deciding_size 4 (4 ∷ 2 ∷ 3 ∷ 1 ∷ []) ≡ 3)
      × (tests 4 (4 ∷ 1 ∷ 2 ∷ 3 ∷ []) ≡ 2)
      × (deciding_size 4 (4 ∷ 1 ∷ 2 ∷ 3 ∷ []) ≡ 2)
  -- of request 10, by hand: document 01's [2,5,4,3,6,1], "digits 3,1,3,1,0,0, rank 219", which is 3 × 1 + 1 × 6 + 3 × 30 + 1 × 120
  pub rank_by_weights : weighted_sum 6 6 (digits 6 (2 ∷ 5 ∷ 4 ∷ 3 ∷ 6 ∷ 1 ∷ [])) ≡ 219
