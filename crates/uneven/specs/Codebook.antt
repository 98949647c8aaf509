-- What the code works out and keeps of the code of weighted symbols. Only inner contracts cite these. Assumes nothing.
use Rattle.std.specs.Prelude.{◌≡◌, cond, List, [], ◌∷◌, ◌++◌, map, ℕ, suc, ◌+◌, ◌-◌, ◌*◌, ◌≤◌, ◌<◌, ltb, length, get_or, take, drop}
use Rattle.theory.specs.Lists.{names, without}
use Rattle.theory.specs.Factorial.{factorial}
use Rattle.theory.specs.Permutation.{row}
use Rattle.theory.specs.Refusal.{given}
use Rattle.symbols.specs.declared.answers.Symbol.{Symbol}
use Rattle.symbols.specs.declared.answers.Prefixed.{Prefixed}
use Rattle.prefixcodes.specs.Code.{weight_of}
use Rattle.prefixcodes.specs.Leaves.{leaves}
use Rattle.prefixcodes.specs.Construction.{heavy_first, dot, plan, best_lengths, code_prefix, code_symbol}
use Rattle.uneven.specs.Answers.{uneven_number, uneven_idle}
use Rattle.uneven.specs.declared.lengths.Plan.{Plan}

-- there is a code for these weights on n cells
pub record HasCode (n : ℕ) (ws : List ℕ) : Type 0 where
  pub few : 2 ≤ n
  pub many : n ≤ 8
  pub most : length ws ≤ 64
  pub fits : length ws ≤ factorial n

-- 1 where symbol t, of weight v, comes before symbol s, of weight w, and otherwise 0
unfoldable pub ahead_bit : ℕ → ℕ → ℕ → ℕ → ℕ
ahead_bit t v s w = cond (ltb w v) 1 (cond (ltb v w) 0 (cond (ltb t s) 1 0))

-- rows of 64 that hold the symbols from heavy to light, and their weights
pub record HoldsSorted (ws symbols heavy : List ℕ) : Type 0 where
  pub symbols_are : take (length ws) symbols ≡ heavy_first ws
  pub heavy_are : take (length ws) heavy ≡ map (weight_of ws) (heavy_first ws)

-- ---- the lengths

abbrev pub sum_of : List ℕ → ℕ
sum_of [] = 0
sum_of (w ∷ ws) = w + sum_of ws

-- at each index the sum of the weights from there on
pub record HasTails (heavy tails : List ℕ) : Type 0 where
  pub long : length tails ≡ 65
  pub is : (i : ℕ) → i ≤ length heavy → get_or tails i 0 ≡ sum_of (drop i heavy)
  pub small : (i : ℕ) → i ≤ length heavy → get_or tails i 0 ≤ 65535 * (length heavy - i)

-- lengths from n - h on are wanted for the weights from index k on, with b permutations left
pub record PlanAsked (n h : ℕ) (heavy tails : List ℕ) (k b : ℕ) : Type 0 where
  pub some : 1 ≤ h
  pub below : h < n
  pub many : n ≤ 8
  pub few : length heavy ≤ 64
  pub tails_are : HasTails heavy tails
  pub within : k ≤ length heavy
  pub room : length heavy - k ≤ b

-- they stand in the row from index k on
pub record PlanGiven (n h : ℕ) (heavy : List ℕ) (k b : ℕ) (r : Plan) : Type 0 where
  pub long : length r.lengths ≡ 64
  pub lengths_are : take (length heavy - k) (drop k r.lengths) ≡ plan n h (drop k heavy) b
  pub cost_is : r.cost ≡ dot (drop k heavy) (plan n h (drop k heavy) b)
  pub cost_fits : r.cost ≤ 16711425 * (length heavy - k)

-- ---- the prefixes

-- the symbols from heavy to light, and the lengths of their prefixes, lead two rows of 64
pub record HoldsCode (n : ℕ) (ws symbols lengths : List ℕ) : Type 0 where
  pub symbols_long : length symbols ≡ 64
  pub lengths_long : length lengths ≡ 64
  pub symbols_are : take (length ws) symbols ≡ heavy_first ws
  pub lengths_are : take (length ws) lengths ≡ best_lengths n ws

-- of blocks of permutations, one for each length and one behind another, that with index k holds this number; and where k is how many there are, none does
pub record IndexLed (n : ℕ) (ls : List ℕ) (number k : ℕ) : Type 0 where
  pub within : k ≤ length ls
  pub from : leaves n (take k ls) ≤ number
  pub before : k < length ls → number < leaves n (take (suc k) ls)

-- ---- answers

-- as `uneven_prefix`, with the other names, ascending, behind the prefix
unfoldable pub uneven_row : ℕ → List ℕ → ℕ → ℕ → Prefixed
uneven_row n ws m s = record {
  number = uneven_number n ws m s;
  length = given (uneven_number n ws m s) (length (code_prefix n ws s)) 0;
  cells = row (given (uneven_number n ws m s) (code_prefix n ws s ++ without (code_prefix n ws s) (names n)) []);
}

-- the row of symbol s where it has one
abbrev pub symbol_row : ℕ → List ℕ → ℕ → Prefixed
symbol_row n ws s = record { number = 0; length = length (code_prefix n ws s); cells = row (code_prefix n ws s ++ without (code_prefix n ws s) (names n)) }

-- idle, or the symbol whose prefix leads the permutation
unfoldable pub uneven_read : ℕ → List ℕ → List ℕ → Symbol
uneven_read n ws xs = record {
  number = uneven_idle n ws (length ws) xs;
  symbol = given (uneven_idle n ws (length ws) xs) (code_symbol n ws xs) 0;
}
