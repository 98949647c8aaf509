-- Permutations of the cells 1 to n, which document 01 calls orders: lists of names from the highest charge to the lowest. Assumes nothing.
use Rattle.std.specs.Prelude.{◌≡◌, cond, List, [], ◌∷◌, ℕ, suc, ◌-◌, ◌≤◌, eqb, length, get_or}
use Rattle.theory.specs.Lists.{count, padded}

-- "The first n places hold each of 1 to n once"
pub record IsPermutation (n : ℕ) (xs : List ℕ) : Type 0 where
  pub long : length xs ≡ n
  pub once : (c : ℕ) → 1 ≤ c → c ≤ n → count c xs ≡ 1

-- "a row of twenty cell names"; "all places past n hold 0". Digits stand in such a row too, "with 0 past n"
abbrev pub row : List ℕ → List ℕ
row xs = padded 20 0 xs

-- the cell at place i; "Place 1 is the top."
abbrev pub cell_at : ℕ → List ℕ → ℕ
cell_at i xs = get_or xs (i - 1) 0

abbrev pub top : List ℕ → ℕ
top xs = cell_at 1 xs

-- the place of cell c, or one past the end where it stands nowhere
unfoldable pub place_of : ℕ → List ℕ → ℕ
place_of c [] = 1
place_of c (x ∷ xs) = cond (eqb x c) 1 (suc (place_of c xs))
