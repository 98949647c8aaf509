-- What each way out of the row of a weighted symbol answers, and its prefix alone. Assumes nothing.
use mathlib.Core.Path.{◌≡◌, refl, sym, ap, ◌∙◌}
use mathlib.Core.List.{List}
use Prim.Native.Nat.{ℕ, ◌≤◌, ◌<◌}
use native.Mathlib.Omega.{arith}
use borrow.Author.Tests.{ne_eqb}
use lib.ListN.{length, take, replicate}
use Rattle.theory.specs.Permutation.{row}
use Rattle.theory.specs.Prefix.{IsPrefix}
use Rattle.theory.proofs.Refusal.{or_else_refused, or_else_done}
use Rattle.theory.proofs.Cases.{by_name}
use Rattle.theory.proofs.Padding.{padding}
use Rattle.symbols.specs.declared.answers.Prefixed.{Prefixed}
use Rattle.symbols.proofs.Writing.{cleared}
use Rattle.symbols.proofs.PrefixRows.{with_others, row_long, row_alone}
use Rattle.prefixcodes.specs.Construction.{code_prefix}
use Rattle.prefixcodes.specs.Claims.{PrefixBy}
use Rattle.uneven.specs.Answers.{misfit, range_of, symbol_range, uneven_number, uneven_prefix}
use Rattle.uneven.specs.Codebook.{HasCode, uneven_row, symbol_row}
use Rattle.uneven.proofs.Ranges.{Fitting, fitting, symbol_range_lem, has_code}
use Rattle.prefixcodes.proofs.Claims.{code_claims}

-- a symbol that has a prefix
pub record Coded (n : ℕ) (ws : List ℕ) (m s : ℕ) : Type 0 where
  pub fits : Fitting n ws m
  pub range : range_of n m ≡ 0
  pub code : HasCode n ws
  pub below : s < length ws

pub coded : {n m s : ℕ} {ws : List ℕ} → misfit n (length ws) m ≡ 0 → symbol_range n m s ≡ 0 → Coded n ws m s
coded {n} {m} {s} z r =
    let v = fitting z in
    let range = symbol_range_lem n m s r in
    record { fits = v; range = range.0; code = has_code v range.0; below = omega (arith, range.1, v.entries) }

module _ {n m s : ℕ} {ws : List ℕ} (v : Coded n ws m s) where
  pub its_claims : PrefixBy n ws s (code_prefix n ws s)
  its_claims = (code_claims n ws v.code.few v.code.fits).prefix s v.below

  pub its_prefix : IsPrefix n (length (code_prefix n ws s)) (code_prefix n ws s)
  its_prefix = (code_claims n ws v.code.few v.code.fits).asked.best.choice.prefix s v.below

  pub its_length : length (code_prefix n ws s) < n
  its_length = (code_claims n ws v.code.few v.code.fits).asked.best.choice.short s v.below

abbrev none : ℕ → Prefixed
none k = record { number = k; length = 0; cells = replicate 20 0 }

module _ (n : ℕ) (ws : List ℕ) (m s : ℕ) where
  pub row_refused : {number : ℕ} → number ≡ uneven_number n ws m s → (number ≡ 0 → ⊥) → none number ≡ uneven_row n ws m s
  unfolding uneven_row
  row_refused e ne = rw (← e, ne_eqb _ 0 ne)

  pub row_misfit : {number : ℕ} → number ≡ misfit n (length ws) m → (number ≡ 0 → ⊥) → number ≡ uneven_number n ws m s
  row_misfit e ne = or_else_refused (misfit n (length ws) m) _ e ne

  pub row_value : {number : ℕ} → misfit n (length ws) m ≡ 0 → number ≡ symbol_range n m s → number ≡ uneven_number n ws m s
  row_value z e = rw z e

  pub row_done : misfit n (length ws) m ≡ 0 → symbol_range n m s ≡ 0 → {a : Prefixed} → a ≡ symbol_row n ws s → a ≡ uneven_row n ws m s
  unfolding uneven_row
  row_done z r e = e ∙ rw (z, r)

  both_done : uneven_number n ws m s ≡ 0 → Coded n ws m s
  both_done z = let past = or_else_done (misfit n (length ws) m) (symbol_range n m s) z in coded past.0 past.1

  module _ {found : Prefixed} (e : found ≡ uneven_row n ws m s) where
    pub row_number : found.number ≡ uneven_number n ws m s
    unfolding uneven_row
    row_number = ap (λ (f : Prefixed). f.number) e

    -- it was found
    module _ (z : found.number ≡ 0) where
      pub found_coded : Coded n ws m s
      found_coded = both_done (sym row_number ∙ z)

      pub found_length : found.length ≡ length (code_prefix n ws s)
      unfolding uneven_row
      found_length = ap (λ (f : Prefixed). f.length) e ∙ rw (sym row_number ∙ z)

      pub found_cells : found.cells ≡ row (with_others n (code_prefix n ws s))
      unfolding uneven_row
      found_cells = ap (λ (f : Prefixed). f.cells) e ∙ rw (sym row_number ∙ z)

    pub row_lengths : (found.length ≤ 20) × (length found.cells ≡ 20)
    unfolding uneven_row
    row_lengths =
        rw e (by_name (uneven_number n ws m s) 0
        (λ z t.
        let v = both_done z in
        rw t (omega (arith, its_length v, v.code.many), row_long (its_prefix v) (omega (arith, v.code.many))))
        (λ ne t. rw t (omega arith, refl)))

    pub row_cleared : {cells : List ℕ} → cells ≡ cleared found.length found.cells
        → ◌≡◌ {A = Prefixed} (record { number = found.number; length = found.length; cells = cells }) (uneven_prefix n ws m s)
    unfolding uneven_row uneven_prefix
    row_cleared is = rw (is, e) (by_name (uneven_number n ws m s) 0 (λ z t. rw (t, row_alone (its_prefix (both_done z)))) (λ ne t. rw t refl))

  -- the prefix that is answered is that of the code
  pub prefix_by : {a : Prefixed} → a ≡ uneven_prefix n ws m s → a.number ≡ 0 → PrefixBy n ws s (take a.length a.cells)
  unfolding uneven_prefix
  prefix_by {a} e z =
      let done : uneven_number n ws m s ≡ 0 = sym (ap (λ (f : Prefixed). f.number) e) ∙ z in
      let v = both_done done in
      let q : List ℕ = code_prefix n ws s in
      let is : take a.length a.cells ≡ q = rw (e, done) (padding q (omega (arith, its_length v, v.code.many))).first in
      rw is (its_claims v)
