-- What is claimed of a listing of the permutations within reach: of `within_reach`, for any number of cells, and by the contract of the bytes that were listed. It
-- speaks of rows of pushes, and not of how their least number is found. `proofs/Reaching` proves it. Assumes nothing.
use Rattle.std.specs.Prelude.{◌≡◌, ◌⊎◌, ℕ, ◌-◌, ◌*◌, ◌/◌, ◌≤◌, ◌<◌, length, get_or, take, drop}
use mathlib.Core.List.{List, [], Lexᴰ}
use Rattle.theory.specs.Factorial.{factorial}
use Rattle.theory.specs.Permutation.{IsPermutation}
use Rattle.theory.specs.Push.{pushes, Places}
use Rattle.reach.specs.Reach.{within_reach}

-- the "least number of pushes from the present one", xs, to t is k: a row of k pushes leads there, and no shorter one does
pub record LeastPushes (n : ℕ) (xs t : List ℕ) (k : ℕ) : Type 0 where
  pub row : List ℕ
  pub places : Places n row
  pub many : length row ≡ k
  pub leads : pushes row xs ≡ t
  pub fewest : (is : List ℕ) → Places n is → pushes is xs ≡ t → k ≤ length is

-- it "is at most r"
pub record AtMost (n : ℕ) (xs t : List ℕ) (r : ℕ) : Type 0 where
  pub distance : ℕ
  pub least : LeastPushes n xs t distance
  pub within : distance ≤ r

-- t is one of the first `many` entries
pub record IsEntry (many : ℕ) (entry : ℕ → List ℕ) (t : List ℕ) : Type 0 where
  pub index : ℕ
  pub within : index < many
  pub here : entry index ≡ t

-- a listing from xs has `many` entries, of which `entry i` is the one at index i
pub record Reaching (n : ℕ) (xs : List ℕ) (r many : ℕ) (entry : ℕ → List ℕ) : Type 0 where
  -- "how many there are, n!/(n-r)!"
  pub counted : many ≡ factorial n / factorial (n - r)
  -- "n names apiece": each entry is a permutation
  pub permutation : (i : ℕ) → i < many → IsPermutation n (entry i)
  -- "every order whose least number of pushes from the present one [..] is at most r": it is so of each entry, and each row of at most r pushes leads to an entry
  pub near : (i : ℕ) → i < many → AtMost n xs (entry i) r
  pub every : (is : List ℕ) → Places n is → length is ≤ r → IsEntry many entry (pushes is xs)
  -- "each exactly once"
  pub once : (i j : ℕ) → i < many → j < many → entry i ≡ entry j → i ≡ j
  -- "Fewest pushes come first, then lexicographic sequence." Of two entries the first has fewer, or (`⊎`) as many and comes first by its names: `Lexᴰ ◌<◌` is
  -- lexicographic sequence
  pub sequence :
      (i j : ℕ) → i < j → j < many → (a b : ℕ) → LeastPushes n xs (entry i) a → LeastPushes n xs (entry j) b
      → (a < b) ⊎ ((a ≡ b) × Lexᴰ ◌<◌ (entry i) (entry j))

-- "n names apiece": the entry at index i of a list of bytes
abbrev pub entry_of : ℕ → List ℕ → ℕ → List ℕ
entry_of n list i = take n (drop (i * n) list)

-- what is proved of the meaning
pub record ReachClaims : Type 0 where
  pub reaching :
      (n : ℕ) (xs : List ℕ) → IsPermutation n xs → (r : ℕ) → r < n
      → Reaching n xs r (length (within_reach n xs r)) (λ i. get_or (within_reach n xs r) i [])
