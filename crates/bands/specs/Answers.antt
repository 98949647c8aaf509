-- What the public functions answer, for all inputs, and what that says of every choice of levels. Assumes nothing.
use Rattle.std.specs.Prelude.{◌≡◌, Bool, true, cond, ◌&&◌, List, [], ◌∷◌, ℕ, ◌-◌, ◌≤◌, ◌<◌, eqb, leb, length}
use Rattle.theory.specs.Reasons.{done, fit, value, unsure}
use Rattle.theory.specs.Refusal.{given, or_else, size_of}
use Rattle.theory.specs.Factorial.{factorial}
use Rattle.theory.specs.Levels.{permutation_of}
use Rattle.theory.specs.Prefix.{prefix_length, prefix_number, symbol_prefix, symbol_of}
use Rattle.permutation.specs.Records.{list_of}
use Rattle.permutation.specs.Answers.{permuted, no_permutation}
use Rattle.permutation.specs.declared.answers.Permuted.{Permuted}
use Rattle.symbols.specs.Answers.{code_of, idle_of}
use Rattle.symbols.specs.declared.answers.Symbol.{Symbol}
use Rattle.bands.specs.Bands.{Bands, SureOrder, SureLead}
use Rattle.bands.specs.LeadTest.{sure_test}

-- is no lowest level above its highest?
unfoldable pub none_above : List ℕ → List ℕ → Bool
none_above [] high = true
none_above (a ∷ low) [] = true
none_above (a ∷ low) (b ∷ high) = leb a b && none_above low high

-- "With n the length of the list of lowest levels, lists of different length are fit, a lowest above its highest is value, and tie doesn't arise here"
unfoldable pub bands_number : List ℕ → List ℕ → ℕ
bands_number low high = or_else (size_of (length low)) (or_else (cond (eqb (length high) (length low)) done fit) (cond (none_above low high) done value))

-- "10 unsure, when the condition fails": the first p cells, by lowest level, do not lead in every choice
abbrev pub unsure_of : List ℕ → List ℕ → ℕ → ℕ
unsure_of low high p = cond (sure_test low high p) done unsure

-- bands that are taken
pub record Banded (low high : List ℕ) : Type 0 where
  pub few : 2 ≤ length low
  pub many : length low ≤ 20
  pub bands : Bands low high

-- ---- the order

-- size, fit, value, then unsure; where all cells but one lead, the last has its place
unfoldable pub sure_number : List ℕ → List ℕ → ℕ
sure_number low high = or_else (bands_number low high) (unsure_of low high (length low - 1))

unfoldable pub sure_answer : List ℕ → List ℕ → Permuted
sure_answer low high = permuted (sure_number low high) (permutation_of low)

-- "The order is given exactly when every choice of one level from each band has no tie and yields that same order."
pub record OrderExactly (low high : List ℕ) (r : Permuted) : Type 0 where
  pub given_sure : r.number ≡ 0 → Banded low high × SureOrder low high (list_of r.permutation)
  pub sure_given : Banded low high → (xs : List ℕ) → SureOrder low high xs → r ≡ permuted 0 xs
  -- "10 unsure, when the condition fails"
  pub unsure_none : r.number ≡ 10 → Banded low high × ((xs : List ℕ) → SureOrder low high xs → ⊥)
  pub none_unsure : Banded low high → ((xs : List ℕ) → SureOrder low high xs → ⊥) → r ≡ no_permutation 10

-- ---- a symbol of m

-- bands and a code that are taken
pub record BandedCode (low high : List ℕ) (m : ℕ) : Type 0 where
  pub banded : Banded low high
  pub one : 1 ≤ m
  pub most : m ≤ factorial (length low)

-- size, fit, value, then unsure: "for a symbol it comes before idle"
unfoldable pub sure_symbol_number : List ℕ → List ℕ → ℕ → ℕ
sure_symbol_number low high m =
    or_else (bands_number low high)
    (or_else (code_of (length low) m)
    (or_else (unsure_of low high (prefix_length (length low) m)) (idle_of (length low) m (permutation_of low))))

unfoldable pub sure_symbol_answer : List ℕ → List ℕ → ℕ → Symbol
sure_symbol_answer low high m = record {
  number = sure_symbol_number low high m;
  symbol = given (sure_symbol_number low high m) (symbol_of (length low) m (permutation_of low)) 0;
}

-- "in every choice, the same p cells lead in the same sequence", which is q, for the p of a code of m symbols
abbrev pub LedSurely : List ℕ → List ℕ → ℕ → List ℕ → Type 0
LedSurely low high m q = SureLead low high (prefix_length (length low) m) q

-- the cells that lead in every choice are no symbol's prefix: theirs "has number m or higher"
pub record LedIdle (low high : List ℕ) (m : ℕ) : Type 0 where
  pub prefix : List ℕ
  pub led : LedSurely low high m prefix
  pub idle : m ≤ prefix_number (length low) (prefix_length (length low) m) prefix

-- "Where it isn't idle, it is given exactly when, in every choice, the same p cells lead in the same sequence"
pub record SymbolExactly (low high : List ℕ) (m : ℕ) (r : Symbol) : Type 0 where
  pub given_led : r.number ≡ 0 → BandedCode low high m × (r.symbol < m) × LedSurely low high m (symbol_prefix (length low) m r.symbol)
  pub led_given : BandedCode low high m → (s : ℕ) → s < m → LedSurely low high m (symbol_prefix (length low) m s) → r ≡ record { number = 0; symbol = s }
  -- idle is said of a prefix that leads in every choice, and of no other
  pub idle_led : r.number ≡ 7 → BandedCode low high m × LedIdle low high m
  pub led_idle : BandedCode low high m → LedIdle low high m → r ≡ record { number = 7; symbol = 0 }
  -- "10 unsure, when the condition fails"
  pub unsure_none : r.number ≡ 10 → BandedCode low high m × ((q : List ℕ) → LedSurely low high m q → ⊥)
  pub none_unsure : BandedCode low high m → ((q : List ℕ) → LedSurely low high m q → ⊥) → r ≡ record { number = 10; symbol = 0 }
