-- What the public functions answer, and the levels that they leave, for all inputs: m symbols on n cells. Assumes nothing.
use Rattle.std.specs.Prelude.{◌≡◌, Bool, cond, ◌&&◌, List, [], ◌++◌, ℕ, ◌≤◌, leb, ltb, length, take, replicate, Result, Ok, Err}
use Rattle.theory.specs.Reasons.{done, value, idle}
use Rattle.theory.specs.Lists.{without}
use Rattle.theory.specs.Factorial.{factorial}
use Rattle.theory.specs.Permutation.{row}
use Rattle.theory.specs.Push.{pushes, Places}
use Rattle.theory.specs.Levels.{permutation_of, push_levels, read_number}
use Rattle.theory.specs.CountUp.{ceiling_of}
use Rattle.theory.specs.Prefix.{prefix_length, symbol_prefix, symbol_of}
use Rattle.theory.specs.Store.{store_count, store_pushes}
use Rattle.theory.specs.Spent.{charge_of}
use Rattle.theory.specs.Refusal.{given, or_else, size_of}
use Rattle.permutation.specs.Answers.{permuted}
use Rattle.permutation.specs.Refusals.{number_of, number_in, given_in}
use Rattle.permutation.specs.declared.reasons.Refusal.{Refusal}
use Rattle.charge.specs.Answers.{pushes_of, read_answer}
use Rattle.charge.specs.declared.answers.Pushes.{Pushes}
use Rattle.symbols.specs.declared.answers.Symbol.{Symbol}
use Rattle.symbols.specs.declared.answers.Prefix.{Prefix}
use Rattle.symbols.specs.declared.answers.Prefixed.{Prefixed}

-- a job's symbol as C gets it: a number, and 0 where it is not 0
abbrev pub as_symbol : Result ℕ Refusal → Symbol
as_symbol r = record { number = number_in r; symbol = given_in 0 r }

-- a job's prefix as C gets it: a number, and zeros where it is not 0
abbrev pub as_prefixed : Result Prefix Refusal → Prefixed
as_prefixed (Ok p) = record { number = done; length = p.length; cells = p.cells }
as_prefixed (Err e) = record { number = number_of e; length = 0; cells = replicate 20 0 }

-- "m outside 1 to n!" is value
abbrev pub coded : ℕ → ℕ → Bool
coded n m = leb 1 m && leb m (factorial n)

abbrev pub code_of : ℕ → ℕ → ℕ
code_of n m = cond (coded n m) done value

-- "symbol at or above m" is value too
unfoldable pub code_number : ℕ → ℕ → ℕ → ℕ
code_number n m s = or_else (size_of n) (or_else (code_of n m) (cond (ltb s m) done value))

-- "Symbol s, 0 to m - 1, is prefix number s of that length"; its length beside it, and 0 past it in a row of twenty
unfoldable pub prefix_answer : ℕ → ℕ → ℕ → Prefixed
prefix_answer n m s = record {
  number = code_number n m s;
  length = given (code_number n m s) (prefix_length n m) 0;
  cells = row (given (code_number n m s) (symbol_prefix n m s) []);
}

-- the prefix of symbol s on the cells of L
abbrev pub prefix_on : List ℕ → ℕ → ℕ → List ℕ
prefix_on L m s = symbol_prefix (length L) m s

-- "the smallest r" of the storing rule, for a prefix q on the permutation of L
abbrev pub pushes_for : List ℕ → List ℕ → ℕ
pushes_for L q = store_count q (permutation_of L)

-- a prefix q stored on L: size and tie; the number of the code that q is of; then ceiling, which "is judged on the new number"
unfoldable pub lead_number : ℕ → List ℕ → List ℕ → ℕ
lead_number code L q = or_else (read_number L) (or_else code (ceiling_of L (pushes_for L q)))

-- "Count up, rewrite and store, when done, give their number of pushes"; document 02: they "give the total of their jumps"
unfoldable pub lead_answer : ℕ → List ℕ → List ℕ → Pushes
lead_answer code L q = pushes_of (lead_number code L q) (pushes_for L q) (charge_of (store_pushes q (permutation_of L)) L)

-- "then cells r to 1 are pushed"
unfoldable pub lead_levels : ℕ → List ℕ → List ℕ → List ℕ
lead_levels code L q = given (lead_number code L q) (push_levels (store_pushes q (permutation_of L)) L) L

-- a symbol is stored by its prefix
abbrev pub store_number : List ℕ → ℕ → ℕ → ℕ
store_number L m s = lead_number (code_number (length L) m s) L (prefix_on L m s)

abbrev pub store_answer : List ℕ → ℕ → ℕ → Pushes
store_answer L m s = lead_answer (code_number (length L) m s) L (prefix_on L m s)

abbrev pub store_levels : List ℕ → ℕ → ℕ → List ℕ
store_levels L m s = lead_levels (code_number (length L) m s) L (prefix_on L m s)

-- idle: "reading: the order's prefix has number m or higher"
abbrev pub idle_of : ℕ → ℕ → List ℕ → ℕ
idle_of n m xs = cond (ltb (symbol_of n m xs) m) done idle

-- size and tie, value, then idle
unfoldable pub symbol_number : List ℕ → ℕ → ℕ
symbol_number L m = or_else (read_number L) (or_else (code_of (length L) m) (idle_of (length L) m (permutation_of L)))

-- "Reading gives the symbol whose prefix leads the order."
unfoldable pub symbol_answer : List ℕ → ℕ → Symbol
symbol_answer L m = record {
  number = symbol_number L m;
  symbol = given (symbol_number L m) (symbol_of (length L) m (permutation_of L)) 0;
}

-- a prefix q stored on L: done, with r pushes answered and L' left
pub record LedBy (q L L' : List ℕ) (r : ℕ) : Type 0 where
  -- the permutation then read: the prefix, and below it the other cells in their old sequence
  pub read : read_answer L' ≡ permuted 0 (q ++ without q (permutation_of L))
  -- "no shorter row of pushes reaches any order with that prefix"
  pub fewest : (is : List ℕ) → Places (length L) is → take (length q) (pushes is (permutation_of L)) ≡ q → r ≤ length is

-- so a symbol s of m, and it is read back under the same m
pub record StoreOf (L : List ℕ) (m s : ℕ) (L' : List ℕ) (r : ℕ) : Type 0 where
  pub led : LedBy (prefix_on L m s) L L' r
  pub read_back : symbol_answer L' m ≡ record { number = 0; symbol = s }
