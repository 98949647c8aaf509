-- What is listed of the permutations that begin with given cells. Only inner contracts cite this. Assumes nothing.
use Rattle.std.specs.Prelude.{◌≡◌, cond, ◌&&◌, ℕ, ◌+◌, ◌-◌, ◌≤◌, eqb, length, take, drop}
use mathlib.Core.List.{List, [], ◌∷◌, ◌++◌, map, flatten}
use Rattle.theory.specs.Lists.{member, without, names}
use Rattle.theory.specs.Permutation.{IsPermutation, top}
use Rattle.reach.specs.Reach.{at_distance}

-- of what is d pushes away from xs, for d from 1 on, what starts with cell c: behind c the others are d - 1 pushes away. Where c is on top now and d is 1 that would be
-- xs itself, 0 pushes away
unfoldable pub starting_with : List ℕ → List ℕ → ℕ → ℕ → List (List ℕ)
starting_with cells xs d c =
    cond (eqb d 1 && eqb c (top xs)) [] (map (λ t. c ∷ t) (at_distance (without (c ∷ []) cells) (without (c ∷ []) xs) (d - 1)))

-- the names of lists one after another, each list after those of q
abbrev pub each_after : List ℕ → List (List ℕ) → List ℕ
each_after q ts = flatten (map (λ t. q ++ t) ts)

-- of the permutations of n cells that begin with the row's first p cells, those whose other cells are d pushes away from the row's: their names, one permutation after another
unfoldable pub led : ℕ → List ℕ → ℕ → ℕ → List ℕ
led n row p d = each_after (take p row) (at_distance (without (take p row) (names n)) (drop p (take n row)) d)

-- of these, those that have c behind the first p
unfoldable pub led_then : ℕ → List ℕ → ℕ → ℕ → ℕ → List ℕ
led_then n row p d c =
    cond (member c (take p row)) []
    (each_after (take p row) (starting_with (without (take p row) (names n)) (drop p (take n row)) d c))

-- a row that has a permutation of n cells, of which the first p lead; d is no more than n
pub record LedRow (row : List ℕ) (n p d : ℕ) : Type 0 where
  pub few : n ≤ 20
  pub long : length row ≡ 20
  pub first : p ≤ n
  pub most : d ≤ n
  pub permutation : IsPermutation n (take n row)

-- the list has room for these bytes from index `from` on
abbrev pub HasRoom : List ℕ → ℕ → List ℕ → Type 0
HasRoom list from bytes = from + length bytes ≤ length list
