-- The digits and the permutation of a rank, by spots. Only inner contracts cite these. Assumes nothing.
use Rattle.std.specs.Prelude.{Bool, true, false, cond, not, List, [], ◌∷◌, ◌++◌, ℕ, zero, suc, ◌+◌, ◌-◌, ◌/◌, ◌%◌, ◌≤◌, ◌<◌, leb, ltb, get_or, take, drop}
use Rattle.theory.specs.Rank.{digit}
use Rattle.theory.specs.Unrank.{place_of_digit}

-- what the readers ask of the spots: that of c is below c
pub record Low (spots : List ℕ) (n : ℕ) : Type 0 where
  pub few : n ≤ 20
  pub low : (c : ℕ) → 1 ≤ c → c ≤ n → get_or spots c 0 < c

-- of m cells on a circle, how many are passed from the gap s to the cell at spot j: down the places (true), or up. The gap s is before the cell at spot s,
-- and the gap m past the last
unfoldable pub passed : Bool → ℕ → ℕ → ℕ → ℕ
passed true m s j = cond (leb s j) (j - s) (j + m - s)
passed false m s j = cond (ltb j s) (s - 1 - j) (s + m - 1 - j)

-- the digits of the cells m, m-1, .., 1, read from the gap s on, down the places and up them by turns
unfoldable pub read_digits : Bool → ℕ → ℕ → List ℕ → List ℕ
read_digits down zero s spots = []
read_digits down (suc m) s spots =
    digit (suc m) (passed down (suc m) s (get_or spots (suc m) 0) + 1) ∷ read_digits (not down) m (get_or spots (suc m) 0) spots

-- a row of n digits that gets its last m
abbrev pub read_into : Bool → ℕ → ℕ → ℕ → List ℕ → List ℕ → List ℕ
read_into down n m s spots row = take (n - m) row ++ (read_digits down m s spots ++ drop n row)

-- each digit of a row of n is one that its place can have
pub record Bounded (row : List ℕ) (n : ℕ) : Type 0 where
  pub few : n ≤ 20
  pub small : (i : ℕ) → i < n → get_or row i 0 < n - i

-- the spot that is met past p others from the gap s on: down the places (true), or up
unfoldable pub spot_after : Bool → ℕ → ℕ → ℕ → ℕ
spot_after true m s p = cond (ltb (p + s) m) (p + s) (p + s - m)
spot_after false m s p = cond (ltb p s) (s - 1 - p) (s + m - 1 - p)

-- the cells of rank r, put in one after the other at their spots, the smallest first
unfoldable pub cells_by_spots : Bool → ℕ → ℕ → ℕ → List ℕ
cells_by_spots down zero s r = []
cells_by_spots down (suc m) s r =
    let j = spot_after down (suc m) s (place_of_digit (suc m) (r % suc m) - 1) in
    let others = cells_by_spots (not down) m j (r / suc m) in
    take j others ++ suc m ∷ drop j others
