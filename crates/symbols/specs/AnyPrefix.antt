-- A prefix with the other cells behind it, in a row of twenty, and how much of it must be pushed, by the levels along the row. Only inner contracts cite
-- these. Assumes nothing.
use Rattle.std.specs.Prelude.{◌≡◌, List, [], ◌++◌, ℕ, suc, ◌-◌, ◌≤◌, ◌<◌, length, get_or, take, drop, Result, IfOk}
use Rattle.theory.specs.Refusal.{given}
use Rattle.theory.specs.Lists.{names, without}
use Rattle.theory.specs.Permutation.{IsPermutation, row}
use Rattle.theory.specs.Levels.{highest}
use Rattle.theory.specs.Prefix.{prefix_length, symbol_prefix}
use Rattle.symbols.specs.Answers.{code_number}
use Rattle.permutation.specs.declared.reasons.Refusal.{Refusal}
use Rattle.symbols.specs.declared.answers.Prefix.{Prefix}
use Rattle.symbols.specs.declared.answers.Prefixed.{Prefixed}

-- as `prefix_answer`, with the other names, ascending, behind the prefix
unfoldable pub row_answer : ℕ → ℕ → ℕ → Prefixed
row_answer n m s = record {
  number = code_number n m s;
  length = given (code_number n m s) (prefix_length n m) 0;
  cells = row (given (code_number n m s) (symbol_prefix n m s ++ without (symbol_prefix n m s) (names n)) []);
}

-- the cells of L lead the row, each once; its first p are a prefix, and others follow it
pub record PrefixRow (L cells : List ℕ) (p : ℕ) : Type 0 where
  pub few : 2 ≤ length L
  pub many : length L ≤ 20
  pub long : length cells ≡ 20
  pub permutation : IsPermutation (length L) (take (length L) cells)
  pub short : p < length L

-- q is the prefix that was found, or any list, where none was
abbrev pub FoundAs : Result Prefix Refusal → List ℕ → Type 0
FoundAs r q = IfOk r (λ p. take p.length p.cells ≡ q)

-- of levels along a row, r is the smallest number for which each of the first p, but for the first r, is above all behind it
pub record FallsFrom (along : List ℕ) (p r : ℕ) : Type 0 where
  pub short : p < length along
  pub within : r ≤ p
  pub above : (j : ℕ) → r ≤ j → j < p → highest (drop (suc j) along) < get_or along j 0
  pub smallest : 0 < r → get_or along (r - 1) 0 ≤ highest (drop r along)
