-- All that is claimed, and under which conditions. `proofs/Theory` proves it. Assumes nothing.
use Rattle.std.specs.Prelude.{◌≡◌, false, List, ℕ, ◌≤◌, ◌<◌, length}
use Rattle.theory.specs.Factorial.{factorial}
use Rattle.theory.specs.Permutation.{IsPermutation}
use Rattle.theory.specs.Levels.{tied}
use Rattle.theory.specs.Prefix.{IsPrefix}
use Rattle.theory.specs.Claims.{Reasons, Factorials, Padding, Ranking, Stepping, Deciding, Valuing, Zeros, Reading, Rewriting, Numbering, Coding, Storing, SymbolStoring, Calling, Spending}
use Rattle.theory.specs.Demand3.{Demand3}
use Rattle.theory.specs.Readings.{Readings}
use Rattle.theory.specs.Examples.{Examples}

pub record Theory : Type 0 where
  pub reasons : Reasons
  pub factorials : Factorials
  pub padding : (xs : List ℕ) → length xs ≤ 20 → Padding xs
  pub ranking : (n : ℕ) → Ranking n
  pub stepping : (n : ℕ) → 2 ≤ n → Stepping n
  pub deciding : (n : ℕ) → 2 ≤ n → Deciding n
  pub valuing : (n : ℕ) (z : List ℕ) → 2 ≤ n → Valuing n z
  pub zeros : (n : ℕ) → 2 ≤ n → Zeros n
  pub reading : (L : List ℕ) → tied L ≡ false → Reading L
  pub rewriting : (n : ℕ) (xs target : List ℕ) → 1 ≤ n → IsPermutation n xs → IsPermutation n target → Rewriting n xs target
  pub numbering : (n p : ℕ) → p ≤ n → Numbering n p
  pub coding : (n m : ℕ) → m ≤ factorial n → Coding n m
  pub storing : (n p : ℕ) (q xs : List ℕ) → IsPrefix n p q → IsPermutation n xs → Storing n p q xs
  pub symbol_storing : (n m s : ℕ) (xs : List ℕ) → m ≤ factorial n → s < m → IsPermutation n xs → SymbolStoring n m s xs
  pub calling : (k : ℕ) (L : List ℕ) → Calling k L
  pub spending : (L : List ℕ) → Spending L
  pub demand3 : (n : ℕ) → 2 ≤ n → Demand3 n
  pub readings : Readings
  pub examples : Examples
