-- Prefixes of permutations in lexicographic sequence, and the symbols that they stand for. Assumes nothing.
use Rattle.std.specs.Prelude.{◌≡◌, false, ℕ, zero, suc, ◌-◌, ◌/◌, leb, length, get_or}
use mathlib.Core.List.{List, [], ◌∷◌, map, flat_map}
use Rattle.theory.specs.Lists.{repeats, without, begins, names, Cells}
use Rattle.theory.specs.Least.{least}
use Rattle.theory.specs.Factorial.{factorial}

-- a prefix of length p: p of the names 1 to n, none of them twice
pub record IsPrefix (n p : ℕ) (q : List ℕ) : Type 0 where
  pub long : length q ≡ p
  pub distinct : repeats q ≡ false
  pub named : Cells n q

-- all prefixes of length p over the names of `free`, which ascend: each name in turn, followed by each prefix over the names that then are left
unfoldable pub prefixes : ℕ → List ℕ → List (List ℕ)
unfolding flat_map
prefixes zero free = [] ∷ []
prefixes (suc p) free = flat_map (λ c. map (λ q. c ∷ q) (prefixes p (without (c ∷ []) free))) free

-- "prefix number s of that length, counted from 0 in lexicographic sequence"
unfoldable pub prefix_at : ℕ → ℕ → ℕ → List ℕ
prefix_at n p s = get_or (prefixes p (names n)) s []

-- the number of the prefix of length p that leads xs; where none does, how many there are
unfoldable pub prefix_number : ℕ → ℕ → List ℕ → ℕ
prefix_number n p xs = least (λ s. begins (prefix_at n p s) xs) (length (prefixes p (names n)))

-- "prefixes of length p, the smallest p with n!/(n-p)! at least m"
unfoldable pub prefix_length : ℕ → ℕ → ℕ
prefix_length n m = least (λ p. leb m (factorial n / factorial (n - p))) n

-- "Symbol s, 0 to m - 1, is prefix number s of that length"
unfoldable pub symbol_prefix : ℕ → ℕ → ℕ → List ℕ
symbol_prefix n m s = prefix_at n (prefix_length n m) s

-- "Reading gives the symbol whose prefix leads the order." Where it is m or higher, no symbol does
unfoldable pub symbol_of : ℕ → ℕ → List ℕ → ℕ
symbol_of n m xs = prefix_number n (prefix_length n m) xs
