-- What is claimed of the code of weighted symbols. Assumes nothing.
use Rattle.std.specs.Prelude.{◌≡◌, true, false, List, ℕ, ◌≤◌, ◌<◌, length}
use Rattle.theory.specs.Lists.{begins}
use Rattle.theory.specs.Factorial.{factorial}
use Rattle.theory.specs.Permutation.{IsPermutation}
use Rattle.theory.specs.Push.{push_cells}
use Rattle.theory.specs.Store.{store_pushes}
use Rattle.theory.specs.Claims.{Storing}
use Rattle.prefixcodes.specs.Code.{IsCode}
use Rattle.prefixcodes.specs.Construction.{code_prefix, code_symbol}
use Rattle.prefixcodes.specs.Examples.{CodeExamples}

-- q is the prefix of symbol s in the code of weights ws on n cells: there is such a code, q is its prefix of s, and no such code has another
pub record PrefixBy (n : ℕ) (ws : List ℕ) (s : ℕ) (q : List ℕ) : Type 0 where
  pub code : ℕ → List ℕ
  pub asked : IsCode n ws code
  pub gives : code s ≡ q
  pub only : (other : ℕ → List ℕ) → IsCode n ws other → other s ≡ q

-- by that code the permutation xs is read as symbol s: its prefix leads xs, and that of no other symbol does
pub record SymbolBy (n : ℕ) (ws xs : List ℕ) (s : ℕ) : Type 0 where
  pub below : s < length ws
  pub leads : (code : ℕ → List ℕ) → IsCode n ws code → begins (code s) xs ≡ true
  pub only : (code : ℕ → List ℕ) → IsCode n ws code → (t : ℕ) → t < length ws → begins (code t) xs ≡ true → t ≡ s

-- "an order that starts with none of the prefixes is idle"
abbrev pub IdleBy : ℕ → List ℕ → List ℕ → Type 0
IdleBy n ws xs = (code : ℕ → List ℕ) → IsCode n ws code → (s : ℕ) → s < length ws → begins (code s) xs ≡ false

-- of m = length ws symbols on n cells
pub record CodeClaims (n : ℕ) (ws : List ℕ) : Type 0 where
  -- there is such a code, there is no other, and this is it
  pub asked : IsCode n ws (code_prefix n ws)
  pub prefix : (s : ℕ) → s < length ws → PrefixBy n ws s (code_prefix n ws s)
  -- reading
  pub read : (xs : List ℕ) → code_symbol n ws xs < length ws → SymbolBy n ws xs (code_symbol n ws xs)
  pub idle : (xs : List ℕ) → length ws ≤ code_symbol n ws xs → IdleBy n ws xs
  -- "Storing and reading work with these as with the even code, with the least pushes"
  pub stores : (s : ℕ) (xs : List ℕ) → s < length ws → IsPermutation n xs → Storing n (length (code_prefix n ws s)) (code_prefix n ws s) xs
  -- "A symbol stored so is the one read back next under the same weights"
  pub read_back : (s : ℕ) (xs : List ℕ) → s < length ws → IsPermutation n xs → code_symbol n ws (push_cells (store_pushes (code_prefix n ws s) xs) xs) ≡ s

pub record UnevenClaims : Type 0 where
  -- for every n from 2 on, and at most n! symbols of any weights
  pub code : (n : ℕ) (ws : List ℕ) → 2 ≤ n → length ws ≤ factorial n → CodeClaims n ws
  pub examples : CodeExamples
