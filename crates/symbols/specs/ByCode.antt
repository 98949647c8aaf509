-- What a code is judged by, and what a permutation is read as by it. Only inner contracts cite these; their functions serve other crates
-- too. Assumes nothing.
use Rattle.std.specs.Prelude.{List, ℕ, Result}
use Rattle.theory.specs.Prefix.{prefix_length, symbol_of}
use Rattle.theory.specs.Refusal.{given}
use Rattle.symbols.specs.Answers.{code_of, idle_of}
use Rattle.symbols.specs.declared.answers.Symbol.{Symbol}
use Rattle.permutation.specs.Refusals.{number_in, given_in}
use Rattle.permutation.specs.declared.reasons.Refusal.{Refusal}

-- a code's number and, beside a 0, the length of its prefixes
pub record Code : Type 0 where
  pub number : ℕ
  pub length : ℕ

abbrev pub as_code : Result ℕ Refusal → Code
as_code r = record { number = number_in r; length = given_in 0 r }

-- the number of a code of m symbols on n cells, and beside a 0 the length of its prefixes
unfoldable pub code_judged : ℕ → ℕ → Code
code_judged n m = record { number = code_of n m; length = given (code_of n m) (prefix_length n m) 0 }

-- idle, or the symbol whose prefix leads the permutation
unfoldable pub code_read : ℕ → ℕ → List ℕ → Symbol
code_read n m xs = record { number = idle_of n m xs; symbol = given (idle_of n m xs) (symbol_of n m xs) 0 }
