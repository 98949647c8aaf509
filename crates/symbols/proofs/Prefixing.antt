-- What each way out of the row of a symbol answers: a number where there is none, or its prefix with the other names behind it; and its prefix alone.
-- Assumes nothing.
use mathlib.Core.Path.{◌≡◌, refl}
use mathlib.Core.Bool.{cond}
use mathlib.Core.List.{List}
use Prim.Native.Nat.{ℕ, ◌≤◌, ◌<◌}
use native.Mathlib.Omega.{arith}
use borrow.Author.Tests.{ne_eqb, ltb-true, lt-ltb, le-ltb}
use lib.Dec.{ltb}
use lib.ListN.{length, replicate}
use Rattle.theory.specs.Reasons.{done, value}
use Rattle.theory.specs.Refusal.{or_else, size_of}
use Rattle.theory.specs.Factorial.{factorial, falling}
use Rattle.theory.specs.Permutation.{row}
use Rattle.theory.specs.Prefix.{IsPrefix, prefix_at, prefix_length, symbol_prefix}
use Rattle.theory.proofs.Refusal.{or_else_refused, or_else_done, tested, size_done, size_range}
use Rattle.theory.proofs.Factorials.{falling_quotient}
use Rattle.theory.proofs.Cases.{by_test, by_name}
use Rattle.theory.proofs.Prefixes.{prefix_at_prefix, coding}
use Rattle.symbols.specs.Answers.{coded, code_of, code_number, prefix_answer}
use Rattle.symbols.specs.AnyPrefix.{row_answer}
use Rattle.symbols.specs.declared.answers.Prefixed.{Prefixed}
use Rattle.symbols.proofs.Writing.{cleared}
use Rattle.symbols.proofs.PrefixRows.{with_others, row_long, row_alone}
use Rattle.symbols.proofs.Codes.{code_many, code_done, code_range}

abbrev zeros : List ℕ
zeros = replicate 20 0

-- ---- none

abbrev none : ℕ → Prefixed
none k = record { number = k; length = 0; cells = zeros }

module _ (n m s : ℕ) where
  pub row_refused : {number : ℕ} → number ≡ code_number n m s → (number ≡ 0 → ⊥) → none number ≡ row_answer n m s
  unfolding row_answer
  row_refused e ne = rw (← e, ne_eqb _ 0 ne)

  pub size_reason : {number : ℕ} → number ≡ size_of n → (number ≡ 0 → ⊥) → number ≡ code_number n m s
  unfolding code_number
  size_reason e ne = or_else_refused (size_of n) _ e ne

  module _ (sized : size_of n ≡ 0) where
    pub too_large : factorial n < m → value ≡ code_number n m s
    unfolding code_number
    too_large h = rw sized (or_else_refused (code_of n m) (cond (ltb s m) done value) (code_many n m h) (λ z. omega arith))

    pub no_symbol : m ≤ s → value ≡ code_number n m s
    unfolding code_number
    no_symbol h = by_test (coded n m) (λ e. rw (sized, e, le-ltb s m h)) (λ e. rw (sized, e))

-- ---- the prefix of symbol s of m on n cells
pub record Coded (n m s : ℕ) : Type 0 where
  pub few : 2 ≤ n
  pub many : n ≤ 20
  pub most : m ≤ factorial n
  pub below : s < m

pub coded_right : {n m s : ℕ} → Coded n m s → code_of n m ≡ done
coded_right {n} {m} v = code_done n m (omega (arith, v.below)) v.most

prefix_done : {n m s : ℕ} → Coded n m s → code_number n m s ≡ done
unfolding code_number
prefix_done {n} {m} {s} v = rw (size_done n v.few v.many, coded_right v, lt-ltb s m v.below)

-- it has a prefix where there is no reason against it
pub in_range_lem : {n m s : ℕ} → code_number n m s ≡ done → Coded n m s
unfolding code_number
in_range_lem {n} {m} {s} h =
    let past = or_else_done (size_of n) (or_else (code_of n m) (cond (ltb s m) done value)) h in
    let size = size_range n past.0 in
    let code = or_else_done (code_of n m) (cond (ltb s m) done value) past.1 in
    record { few = size.0; many = size.1; most = (code_range n m code.0).1; below = ltb-true s m (tested (ltb s m) (λ z. omega arith) code.1) }

-- p is its length
module _ {n m s : ℕ} (v : Coded n m s) {p : ℕ} (e : p ≡ prefix_length n m) where
  pub short : p ≤ n
  short = rw e (coding n m v.most).at_most

  pub fits : s < falling n p
  fits = rw (e, falling_quotient n (prefix_length n m) (coding n m v.most).at_most) (omega (arith, v.below, (coding n m v.most).enough))

  pub is_prefix : IsPrefix n p (prefix_at n p s)
  is_prefix = prefix_at_prefix n p s fits

  pub row_done : {cells : List ℕ} → cells ≡ row (with_others n (prefix_at n p s)) → ◌≡◌ {A = Prefixed} (record { number = 0; length = p; cells = cells }) (row_answer n m s)
  unfolding row_answer symbol_prefix
  row_done is = rw (is, e, prefix_done v)

-- ---- its prefix alone

module _ (n m s : ℕ) {found : Prefixed} (e : found ≡ row_answer n m s) where
  pub row_lengths : (found.length ≤ 20) × (length found.cells ≡ 20)
  unfolding row_answer symbol_prefix
  row_lengths =
      rw e (by_name (code_number n m s) 0
      (λ z t. let v = in_range_lem z in rw t (omega (arith, short v refl, v.many), row_long (is_prefix v refl) v.many))
      (λ ne t. rw t (omega arith, refl)))

  pub row_cleared : {cells : List ℕ} → cells ≡ cleared found.length found.cells
      → ◌≡◌ {A = Prefixed} (record { number = found.number; length = found.length; cells = cells }) (prefix_answer n m s)
  unfolding row_answer prefix_answer symbol_prefix
  row_cleared is =
      rw (is, e) (by_name (code_number n m s) 0 (λ z t. rw (t, row_alone (is_prefix (in_range_lem z) refl))) (λ ne t. rw t refl))
