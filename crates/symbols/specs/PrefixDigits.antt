-- What the number of a prefix is worked out from. Only inner contracts cite this. Assumes nothing.
use Rattle.std.specs.Prelude.{◌≡◌, List, ℕ, ◌≤◌, length, take}
use Rattle.theory.specs.Permutation.{IsPermutation}
use Rattle.permutation.specs.Spots.{HasSpots}

-- a permutation of n cells leads the row, and these are its spots; its first p cells are the prefix
pub record RowSpots (n p : ℕ) (cells spots : List ℕ) : Type 0 where
  pub many : n ≤ 20
  pub within : p ≤ n
  pub long : length cells ≡ 20
  pub permutation : IsPermutation n (take n cells)
  pub has_spots : HasSpots (take n cells) n spots
