-- Reading a weighted symbol: what each way out answers, and whose prefix leads. Assumes nothing.
use mathlib.Core.Path.{◌≡◌, refl, sym, ap, ◌∙◌}
use mathlib.Core.List.{List}
use Prim.Native.Nat.{ℕ, ◌≤◌}
use native.Mathlib.Omega.{arith}
use borrow.Author.Tests.{ltb-true, ltb-false}
use lib.ListN.{length}
use Rattle.theory.specs.Reasons.{tie, idle}
use Rattle.theory.specs.Levels.{permutation_of, read_number, tied}
use Rattle.theory.proofs.Refusal.{refused, or_else_refused, or_else_past, tested, test_failed, size_done}
use Rattle.theory.proofs.Cases.{by_test}
use Rattle.theory.proofs.Sorting.{permutation_of_permutation, permutation_of_length}
use Rattle.permutation.specs.Records.{list_of, record_of, record_number}
use Rattle.permutation.specs.declared.answers.Permutation.{Permutation}
use Rattle.permutation.proofs.Records.{fault_record}
use Rattle.permutation.proofs.Answering.{list_record}
use Rattle.symbols.specs.declared.answers.Symbol.{Symbol}
use Rattle.permutation.specs.declared.reasons.Refusal.{Refusal}
use Rattle.std.specs.Result.{IfOk}
use Rattle.std.proofs.Common.{Result, Ok, Err}
use Rattle.permutation.specs.Refusals.{number_in}
use Rattle.symbols.specs.Answers.{as_symbol}
use Rattle.symbols.proofs.Symbols.{symbol_with}
use Rattle.prefixcodes.specs.Construction.{code_symbol}
use Rattle.prefixcodes.specs.Claims.{SymbolBy, IdleBy, CodeClaims}
use Rattle.uneven.specs.Answers.{misfit, range_of, uneven_idle, read_uneven_number, uneven_symbol}
use Rattle.uneven.specs.Codebook.{HasCode, uneven_read}
use Rattle.uneven.proofs.Ranges.{Fitting, fitting, misfit_only, range_only, has_code}
use Rattle.prefixcodes.proofs.Claims.{code_claims}

-- ---- a record that holds the permutation of levels: what `symbol_of` asks for, and what it gives
module _ (L ws : List ℕ) {r : Permutation} (few : 2 ≤ length L) (many : length L ≤ 20) (is : r ≡ record_of (permutation_of L)) where
  size_is : r.n ≡ length L
  size_is = ap (λ (p : Permutation). p.n) is ∙ permutation_of_length L

  pub record_asked : HasCode (length L) ws → HasCode r.n ws × (record_number r ≡ 0)
  record_asked v = (rw size_is v, rw is (fault_record (length L) (permutation_of L) few many (permutation_of_permutation L)))

  pub record_read : {a : Symbol} → a ≡ uneven_read r.n ws (list_of r) → a ≡ uneven_read (length L) ws (permutation_of L)
  record_read e = e ∙ rw (is, list_record (length L) (permutation_of L) few many (permutation_of_permutation L), permutation_of_length L)

-- what is said of the symbol of a job that is done, by its number
if_done : (P : ℕ → Type 0) (r : Result ℕ Refusal) → ((as_symbol r).number ≡ 0 → P (as_symbol r).symbol) → IfOk r P
if_done P (Ok s) h = h refl
if_done P (Err e) h = tt

-- ---- the job
module _ (L ws : List ℕ) (m : ℕ) where
  abbrev n : ℕ
  n = length L

  abbrev xs : List ℕ
  xs = permutation_of L

  -- ---- the number

  pub symbol_misfit : {number : ℕ} → number ≡ misfit n (length ws) m → (number ≡ 0 → ⊥) → number ≡ read_uneven_number L ws m
  unfolding read_uneven_number
  symbol_misfit e ne = or_else_refused (misfit n (length ws) m) _ e ne

  module _ (fits : misfit n (length ws) m ≡ 0) where
    pub symbol_fault : {number : ℕ} → number ≡ read_number L → (number ≡ 0 → ⊥) → number ≡ read_uneven_number L ws m
    unfolding read_uneven_number
    symbol_fault e ne = rw fits (or_else_refused (read_number L) _ e ne)

    module _ (read : read_number L ≡ 0) where
      pub symbol_value : {number : ℕ} → number ≡ range_of n m → (number ≡ 0 → ⊥) → number ≡ read_uneven_number L ws m
      unfolding read_uneven_number
      symbol_value e ne = rw (fits, read) (or_else_refused (range_of n m) _ e ne)

      pub symbol_given : range_of n m ≡ 0 → uneven_read n ws xs ≡ uneven_symbol L ws m
      unfolding read_uneven_number uneven_symbol uneven_read
      symbol_given range = let v : Fitting n ws m = fitting fits in rw (fits, read, range, v.entries)

  -- ---- what holds of the answer

  -- done, or idle, it is past all other reasons
  past : {k : ℕ} → (k ≡ 1 → ⊥) → (k ≡ 2 → ⊥) → (k ≡ tie → ⊥) → (k ≡ 5 → ⊥) → read_uneven_number L ws m ≡ k → HasCode n ws × (uneven_idle n ws (length ws) xs ≡ k)
  unfolding read_uneven_number read_number
  past {k} a b t c h =
      let fit = or_else_past (misfit n (length ws) m) _ (misfit_only n (length ws) m a b) h in
      let v : Fitting n ws m = fitting fit.0 in
      let group : read_number L ≡ k → k ≡ 0 = λ e. by_test (tied L)
      (λ u. absurd (t (sym (rw (size_done n v.few (omega (arith, v.many)), u) at e))))
      (λ u. sym (rw (size_done n v.few (omega (arith, v.many)), u) at e)) in
      let read = or_else_past (read_number L) _ group fit.1 in
      let range = or_else_past (range_of n m) _ (range_only n m c) read.1 in
      (has_code v range.0, rw v.entries range.1)

  claims : HasCode n ws → CodeClaims n ws
  claims v = code_claims n ws v.few v.fits

  module _ {a : Symbol} (e : a ≡ uneven_symbol L ws m) where
    number_is : a.number ≡ read_uneven_number L ws m
    unfolding uneven_symbol
    number_is = ap (λ (r : Symbol). r.number) e

    symbol_by : a.number ≡ 0 → SymbolBy n ws xs a.symbol
    unfolding uneven_symbol
    symbol_by z =
        let number : read_uneven_number L ws m ≡ 0 = sym number_is ∙ z in
        let p = past (λ q. omega arith) (λ q. omega arith) (λ q. omega arith) (λ q. omega arith) number in
        let symbol : a.symbol ≡ code_symbol n ws xs = ap (λ (r : Symbol). r.symbol) e ∙ rw number in
        rw symbol ((claims p.0).read xs (ltb-true (code_symbol n ws xs) (length ws) (tested _ (λ q. omega arith) p.1)))

    idle_by : a.number ≡ idle → IdleBy n ws xs
    idle_by z =
        let p = past (λ q. omega arith) (λ q. omega arith) (λ q. omega arith) (λ q. omega arith) (sym number_is ∙ z) in
        (claims p.0).idle xs (ltb-false (code_symbol n ws xs) (length ws) (test_failed _ idle (λ q. omega arith) p.1))

  -- what the contract says of an answer
  pub answered : (r : Result ℕ Refusal) → as_symbol r ≡ uneven_symbol L ws m
      → (as_symbol r ≡ uneven_symbol L ws m) × IfOk r (SymbolBy n ws xs) × (number_in r ≡ idle → IdleBy n ws xs)
  answered r e = (e, if_done (SymbolBy n ws xs) r (symbol_by e), idle_by e)

  pub symbol_refused : {number : ℕ} → number ≡ read_uneven_number L ws m → (number ≡ 0 → ⊥) → symbol_with number 0 ≡ uneven_symbol L ws m
  unfolding uneven_symbol
  symbol_refused e ne = refused symbol_with (code_symbol n ws xs) 0 e ne
