-- Reading a symbol: what a record of a permutation is read as by a code, and what each way out answers, by the tests that the code makes. Assumes nothing.
use mathlib.Core.Path.{◌≡◌, ap, ◌∙◌}
use mathlib.Core.List.{List}
use Prim.Native.Nat.{ℕ, ◌≤◌, ◌<◌}
use native.Mathlib.Omega.{arith}
use borrow.Author.Tests.{lt-ltb, le-ltb}
use lib.ListN.{length}
use Rattle.theory.specs.Reasons.{idle}
use Rattle.theory.specs.Factorial.{factorial}
use Rattle.theory.specs.Levels.{permutation_of, read_number}
use Rattle.theory.specs.Prefix.{prefix_number, prefix_length, symbol_of}
use Rattle.theory.proofs.Prefixes.{coding}
use Rattle.theory.proofs.Refusal.{refused, or_else_refused}
use Rattle.theory.proofs.Sorting.{permutation_of_permutation, permutation_of_length}
use Rattle.permutation.specs.Records.{list_of, record_of, record_number}
use Rattle.permutation.specs.Spots.{Checked, checked}
use Rattle.permutation.specs.declared.answers.Permutation.{Permutation}
use Rattle.permutation.proofs.Records.{Sound, fault_record}
use Rattle.permutation.proofs.Answering.{list_record}
use Rattle.permutation.proofs.Checking.{check_spots}
use Rattle.symbols.specs.Answers.{code_of, symbol_number, symbol_answer}
use Rattle.symbols.specs.ByCode.{code_read}
use Rattle.symbols.specs.PrefixDigits.{RowSpots}
use Rattle.symbols.specs.declared.answers.Symbol.{Symbol}

-- ---- a record that is read by its spots

abbrev pub symbol_with : ℕ → ℕ → Symbol
symbol_with number symbol = record { number = number; symbol = symbol }

module _ {r : Permutation} (s : Sound r) where
  pub row_spots : {p : ℕ} {k : Checked} → length r.cells ≡ 20 → k ≡ checked r → p ≤ r.n → RowSpots r.n p r.cells k.spots
  row_spots long h short = record {
    many = s.many;
    within = short;
    long = long;
    permutation = s.permutation;
    has_spots = check_spots r h s;
  }

pub code_short : (n m : ℕ) {p : ℕ} → m ≤ factorial n → p ≡ prefix_length n m → p ≤ n
code_short n m fits e = omega (arith, (coding n m fits).at_most)

pub symbol_is : (n m : ℕ) (xs : List ℕ) {s p : ℕ} → s ≡ prefix_number n p xs → p ≡ prefix_length n m → s ≡ symbol_of n m xs
unfolding symbol_of
symbol_is n m xs e l = cc e

-- the answer by the symbol
module _ (n m : ℕ) (xs : List ℕ) {s : ℕ} (e : s ≡ symbol_of n m xs) where
  pub code_read_idle : m ≤ s → symbol_with idle 0 ≡ code_read n m xs
  unfolding code_read
  code_read_idle h = rw (le-ltb (symbol_of n m xs) m (omega (arith, e)))

  pub code_read_done : s < m → symbol_with 0 s ≡ code_read n m xs
  unfolding code_read
  code_read_done h = rw (lt-ltb (symbol_of n m xs) m (omega (arith, e)), e)

-- ---- a record that holds the permutation of levels: what `leading_symbol` asks for, and what it gives
module _ (L : List ℕ) {r : Permutation} (few : 2 ≤ length L) (many : length L ≤ 20) (is : r ≡ record_of (permutation_of L)) where
  size_is : r.n ≡ length L
  size_is = ap (λ (p : Permutation). p.n) is ∙ permutation_of_length L

  pub record_asked : {p : ℕ} (m : ℕ) → m ≤ factorial (length L) → p ≡ prefix_length (length L) m
      → (record_number r ≡ 0) × (m ≤ factorial r.n) × (p ≡ prefix_length r.n m)
  record_asked m fits e =
      (rw is (fault_record (length L) (permutation_of L) few many (permutation_of_permutation L)), rw size_is fits, rw size_is e)

  pub record_read : (m : ℕ) {a : Symbol} → a ≡ code_read r.n m (list_of r) → a ≡ code_read (length L) m (permutation_of L)
  record_read m e = e ∙ rw (is, list_record (length L) (permutation_of L) few many (permutation_of_permutation L), permutation_of_length L)

-- ---- what is answered
module _ (L : List ℕ) (m : ℕ) where
  pub symbol_refused : {number : ℕ} → number ≡ symbol_number L m → (number ≡ 0 → ⊥) → symbol_with number 0 ≡ symbol_answer L m
  unfolding symbol_answer
  symbol_refused e ne = refused symbol_with (symbol_of (length L) m (permutation_of L)) 0 e ne

  pub symbol_fault : {number : ℕ} → number ≡ read_number L → (number ≡ 0 → ⊥) → number ≡ symbol_number L m
  unfolding symbol_number
  symbol_fault e ne = or_else_refused (read_number L) _ e ne

  module _ (read : read_number L ≡ 0) where
    pub symbol_code : {number : ℕ} → number ≡ code_of (length L) m → (number ≡ 0 → ⊥) → number ≡ symbol_number L m
    unfolding symbol_number
    symbol_code e ne = rw read (or_else_refused (code_of (length L) m) _ e ne)

    pub symbol_given : code_of (length L) m ≡ 0 → code_read (length L) m (permutation_of L) ≡ symbol_answer L m
    unfolding symbol_answer symbol_number code_read
    symbol_given z = rw (read, z)
