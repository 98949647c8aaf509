-- What the public functions answer, and the levels that they leave, for all inputs: m symbols of weights ws on n cells. Assumes nothing.
use Rattle.std.specs.Prelude.{◌≡◌, Bool, cond, ◌&&◌, List, [], ℕ, eqb, leb, ltb, length}
use Rattle.theory.specs.Reasons.{done, size, fit, value, idle}
use Rattle.theory.specs.Factorial.{factorial}
use Rattle.theory.specs.Permutation.{row}
use Rattle.theory.specs.Levels.{permutation_of, read_number}
use Rattle.theory.specs.Refusal.{given, or_else}
use Rattle.charge.specs.Answers.{no_pushes}
use Rattle.charge.specs.declared.answers.Pushes.{Pushes}
use Rattle.symbols.specs.Answers.{lead_answer, lead_levels, LedBy}
use Rattle.symbols.specs.declared.answers.Symbol.{Symbol}
use Rattle.symbols.specs.declared.answers.Prefixed.{Prefixed}
use Rattle.prefixcodes.specs.Construction.{code_prefix, code_symbol}
use Rattle.prefixcodes.specs.Claims.{PrefixBy}

-- "An n outside 2 to 8 is size, then a weight list that hasn't m entries is fit"
unfoldable pub misfit : ℕ → ℕ → ℕ → ℕ
misfit n entries m = or_else (cond (leb 2 n && leb n 8) done size) (cond (eqb entries m) done fit)

-- "and an m outside 2 to 64 or above n! is value"
unfoldable pub in_range : ℕ → ℕ → Bool
in_range n m = leb 2 m && (leb m 64 && leb m (factorial n))

abbrev pub range_of : ℕ → ℕ → ℕ
range_of n m = cond (in_range n m) done value

-- "symbol at or above m" is value too
unfoldable pub symbol_range : ℕ → ℕ → ℕ → ℕ
symbol_range n m s = or_else (range_of n m) (cond (ltb s m) done value)

abbrev pub uneven_number : ℕ → List ℕ → ℕ → ℕ → ℕ
uneven_number n ws m s = or_else (misfit n (length ws) m) (symbol_range n m s)

-- the prefix of symbol s; its length beside it, and 0 past it in a row of twenty
unfoldable pub uneven_prefix : ℕ → List ℕ → ℕ → ℕ → Prefixed
uneven_prefix n ws m s = record {
  number = uneven_number n ws m s;
  length = given (uneven_number n ws m s) (length (code_prefix n ws s)) 0;
  cells = row (given (uneven_number n ws m s) (code_prefix n ws s) []);
}

-- the prefix of symbol s on the cells of L
abbrev pub uneven_on : List ℕ → List ℕ → ℕ → List ℕ
uneven_on L ws s = code_prefix (length L) ws s

-- size and fit; then "as with the even code": tie, value, ceiling
unfoldable pub uneven_store : List ℕ → List ℕ → ℕ → ℕ → Pushes
uneven_store L ws m s =
    given (misfit (length L) (length ws) m) (lead_answer (symbol_range (length L) m s) L (uneven_on L ws s)) (no_pushes (misfit (length L) (length ws) m))

unfoldable pub uneven_levels : List ℕ → List ℕ → ℕ → ℕ → List ℕ
uneven_levels L ws m s = given (misfit (length L) (length ws) m) (lead_levels (symbol_range (length L) m s) L (uneven_on L ws s)) L

-- "an order that starts with none of the prefixes is idle"
abbrev pub uneven_idle : ℕ → List ℕ → ℕ → List ℕ → ℕ
uneven_idle n ws m xs = cond (ltb (code_symbol n ws xs) m) done idle

-- size and fit, tie, value, then idle
unfoldable pub read_uneven_number : List ℕ → List ℕ → ℕ → ℕ
read_uneven_number L ws m =
    or_else (misfit (length L) (length ws) m)
    (or_else (read_number L) (or_else (range_of (length L) m) (uneven_idle (length L) ws m (permutation_of L))))

unfoldable pub uneven_symbol : List ℕ → List ℕ → ℕ → Symbol
uneven_symbol L ws m = record {
  number = read_uneven_number L ws m;
  symbol = given (read_uneven_number L ws m) (code_symbol (length L) ws (permutation_of L)) 0;
}

-- symbol s stored on L: done, with r pushes answered and L' left
pub record UnevenStored (L ws : List ℕ) (m s : ℕ) (L' : List ℕ) (r : ℕ) : Type 0 where
  pub prefix : List ℕ
  pub by_code : PrefixBy (length L) ws s prefix
  -- the prefix on top, the others below it in their old sequence, and no shorter row of pushes brings it there
  pub led : LedBy prefix L L' r
  -- "A symbol stored so is the one read back next under the same weights"
  pub read_back : uneven_symbol L' ws m ≡ record { number = 0; symbol = s }
