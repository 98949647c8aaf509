-- Document 02, request 12: prefixes for symbols of given weights, and the code that is asked for. Assumes nothing.
use Rattle.std.specs.Prelude.{◌≡◌, true, false, cond, ◌⊎◌, ℕ, zero, suc, ◌+◌, ◌*◌, ◌≤◌, ◌<◌, leb, length, get_or}
use mathlib.Core.List.{List, [], ◌∷◌, Lexᴰ}
use Rattle.theory.specs.Lists.{begins}
use Rattle.theory.specs.Prefix.{IsPrefix}

-- "choose prefixes of lengths 1 to n - 1, none the start of another": symbol s, 0 to m - 1, has the prefix `code s`
pub record PrefixFree (n m : ℕ) (code : ℕ → List ℕ) : Type 0 where
  pub prefix : (s : ℕ) → s < m → IsPrefix n (length (code s)) (code s)
  pub some : (s : ℕ) → s < m → 1 ≤ length (code s)
  pub short : (s : ℕ) → s < m → length (code s) < n
  pub free : (s t : ℕ) → s < m → t < m → begins (code s) (code t) ≡ true → s ≡ t

-- the weight of symbol s
abbrev pub weight_of : List ℕ → ℕ → ℕ
weight_of ws s = get_or ws s 0

-- f 0 + f 1 + .. + f (m - 1)
abbrev pub sum_below : ℕ → (ℕ → ℕ) → ℕ
sum_below zero f = 0
sum_below (suc m) f = f m + sum_below m f

-- "the sum of weight times length"; the weights are those of symbols 0, 1, .., one for each
abbrev pub weighted_length : List ℕ → (ℕ → List ℕ) → ℕ
weighted_length ws code = sum_below (length ws) (λ s. weight_of ws s * length (code s))

-- "sorted from short to long"
abbrev pub insert_up : ℕ → List ℕ → List ℕ
insert_up l [] = l ∷ []
insert_up l (k ∷ ks) = cond (leb l k) (l ∷ k ∷ ks) (k ∷ insert_up l ks)

-- f 0, f 1, .., f (m - 1), so
abbrev pub sort_up : ℕ → (ℕ → ℕ) → List ℕ
sort_up zero f = []
sort_up (suc m) f = insert_up (f m) (sort_up m f)

-- "the lengths sorted from short to long"
abbrev pub sorted_lengths : List ℕ → (ℕ → List ℕ) → List ℕ
sorted_lengths ws code = sort_up (length ws) (λ s. length (code s))

-- p is q, or comes before it lexicographically
abbrev pub NotAfter : List ℕ → List ℕ → Type 0
NotAfter p q = (p ≡ q) ⊎ Lexᴰ ◌<◌ p q

pub record IsBest (n : ℕ) (ws : List ℕ) (code : ℕ → List ℕ) : Type 0 where
  pub choice : PrefixFree n (length ws) code
  -- "so that the sum of weight times length is least among all such choices"
  pub least : (other : ℕ → List ℕ) → PrefixFree n (length ws) other → weighted_length ws code ≤ weighted_length ws other
  -- "Among equals the lengths sorted from short to long come first lexicographically."
  pub shortest : (other : ℕ → List ℕ) → PrefixFree n (length ws) other → weighted_length ws code ≡ weighted_length ws other
      → NotAfter (sorted_lengths ws code) (sorted_lengths ws other)

-- the sequence of the symbols, "Heavier symbols" first, "the lower symbol first where weights tie": s comes before t
abbrev pub Ahead : List ℕ → ℕ → ℕ → Type 0
Ahead ws s t = (weight_of ws t < weight_of ws s) ⊎ ((weight_of ws t ≡ weight_of ws s) × (s < t))

-- the code that is asked for
pub record IsCode (n : ℕ) (ws : List ℕ) (code : ℕ → List ℕ) : Type 0 where
  pub best : IsBest n ws code
  -- "Heavier symbols get the shorter ones, the lower symbol first where weights tie."
  pub heavier : (s t : ℕ) → s < length ws → t < length ws → Ahead ws s t → length (code s) ≤ length (code t)
  -- "Taken in that sequence, each symbol gets the first prefix of its length, lexicographically, that no earlier one starts."
  pub first :
      (s : ℕ) (q : List ℕ) → s < length ws → IsPrefix n (length (code s)) q
      → ((t : ℕ) → t < length ws → Ahead ws t s → begins (code t) q ≡ false) → NotAfter (code s) q
