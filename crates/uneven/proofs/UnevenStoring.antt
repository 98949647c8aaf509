-- Storing a weighted symbol: what each way out answers, and what the levels then are read as. Assumes nothing.
use mathlib.Core.Path.{◌≡◌, refl, sym, ap, ◌∙◌}
use mathlib.Core.List.{List, ◌++◌}
use Prim.Native.Nat.{ℕ}
use native.Mathlib.Omega.{arith}
use borrow.Author.Tests.{ne_eqb, lt-ltb}
use lib.ListN.{length, take}
use Rattle.theory.specs.Lists.{without}
use Rattle.theory.specs.Levels.{read_number, permutation_of, push_levels}
use Rattle.theory.specs.Store.{store_pushes}
use Rattle.theory.specs.Spent.{Spends}
use Rattle.theory.proofs.Refusal.{given_done, or_else_done, readable, read_done, Readable}
use Rattle.theory.proofs.Reading.{row_length}
use Rattle.theory.proofs.Prefixes.{begins_append}
use Rattle.charge.specs.Answers.{no_pushes}
use Rattle.charge.specs.declared.answers.Pushes.{Pushes}
use Rattle.symbols.specs.Answers.{as_prefixed, lead_number, lead_answer, lead_levels}
use Rattle.permutation.specs.Refusals.{number_in}
use Rattle.permutation.specs.declared.reasons.Refusal.{Refusal}
use Rattle.std.specs.Result.{IfOk}
use Rattle.std.proofs.Common.{Result, Ok, Err}
use Rattle.symbols.specs.AnyPrefix.{PrefixRow, FoundAs}
use Rattle.symbols.specs.declared.answers.Prefix.{Prefix}
use Rattle.symbols.specs.declared.answers.Prefixed.{Prefixed}
use Rattle.symbols.proofs.PrefixRows.{row_front, row_stored}
use Rattle.symbols.proofs.Storing.{Led, prefix_readable, prefix_left, lead_spends, not_done}
use Rattle.prefixcodes.specs.Construction.{code_symbol}
use Rattle.uneven.specs.Answers.{misfit, symbol_range, uneven_on, uneven_store, uneven_levels, read_uneven_number, uneven_symbol, UnevenStored}
use Rattle.uneven.specs.Codebook.{uneven_row}
use Rattle.prefixcodes.proofs.Claims.{code_read_lem}
use Rattle.uneven.proofs.UnevenRows.{Coded, coded, its_claims, its_prefix, its_length, row_number, found_coded, found_length, found_cells}

-- what the contract says of an answer, and of the levels that are left
abbrev Answered : List ℕ → List ℕ → ℕ → ℕ → Pushes → List ℕ → Type 0
Answered L ws m s a L' =
    (a ≡ uneven_store L ws m s) × ((L' ≡ uneven_levels L ws m s) × ((a.number ≡ 0 → UnevenStored L ws m s L' a.pushes) × Spends L L' a.charge))

module _ (L ws : List ℕ) (m s : ℕ) where
  -- size and fit
  pub store_misfit : {a : Pushes} {number : ℕ} → a ≡ no_pushes number → number ≡ misfit (length L) (length ws) m → (number ≡ 0 → ⊥) → Answered L ws m s a L
  unfolding uneven_store uneven_levels
  store_misfit {a} {number} e is ne =
      let differs = ne_eqb number 0 ne in
      (e ∙ rw (← is, differs), (rw (← is, differs), ((λ z. absurd (not_done e ne z)), rw e (omega arith))))

  -- then as with any prefix
  module _ (fits : misfit (length L) (length ws) m ≡ 0) where
    abbrev q : List ℕ
    q = uneven_on L ws s

    abbrev code : ℕ
    code = symbol_range (length L) m s

    codes : lead_number code L q ≡ 0 → Coded (length L) ws m s
    unfolding lead_number
    codes z = coded fits (or_else_done code _ (or_else_done (read_number L) _ z).1).0

    -- the symbol is read back
    back : Readable L → Coded (length L) ws m s → uneven_symbol (push_levels (store_pushes q (permutation_of L)) L) ws m ≡ record { number = 0; symbol = s }
    unfolding uneven_symbol read_uneven_number
    back r v =
        let cs : List ℕ = store_pushes q (permutation_of L) in
        let read : code_symbol (length L) ws (q ++ without q (permutation_of L)) ≡ s =
        code_read_lem (length L) ws v.code.few v.code.fits s _ v.below (begins_append q (without q (permutation_of L))) in
        rw (
          row_length cs L,
          fits,
          read_done (prefix_readable r (its_prefix v)),
          v.range,
          prefix_left r (its_prefix v),
          read,
          lt-ltb s m (omega (arith, v.below, v.fits.entries)),
        )

    pub store_led : {a : Pushes} {L' : List ℕ} → Led code L q a L' → Answered L ws m s a L'
    unfolding uneven_store uneven_levels lead_levels lead_answer lead_number
    store_led {a} {L'} k = (
      k.0 ∙ sym (given_done (misfit (length L) (length ws) m) (lead_answer code L q) _ fits),
      (
        k.1.0 ∙ sym (given_done (misfit (length L) (length ws) m) (lead_levels code L q) L fits),
        (
          λ z.
              let none : lead_number code L q ≡ 0 = sym (ap (λ (b : Pushes). b.number) k.0) ∙ z in
              let v = codes none in
              let left : L' ≡ push_levels (store_pushes q (permutation_of L)) L = k.1.0 ∙ given_done (lead_number code L q) _ L none in
              record {
                prefix = q;
                by_code = its_claims v;
                led = k.1.1 z;
                read_back = rw left (back (readable (or_else_done (read_number L) _ none).0) v);
              },
          rw (k.0, k.1.0) (lead_spends code L q (λ z. its_prefix (codes z))),
        ),
      ),
    )

-- by what the row was found to be
module _ (L ws : List ℕ) (m s : ℕ) where
  -- found
  module _ {found : Prefixed} (e : found ≡ uneven_row (length L) ws m s) (z : found.number ≡ 0) where
    v : Coded (length L) ws m s
    v = found_coded (length L) ws m s e z

    found_stored : PrefixRow L found.cells found.length
    found_stored =
        rw (found_cells (length L) ws m s e z, found_length (length L) ws m s e z)
        (row_stored v.code.few (omega (arith, v.code.many)) (its_prefix v) (its_length v))

    found_front : take found.length found.cells ≡ uneven_on L ws s
    found_front = rw (found_cells (length L) ws m s e z, found_length (length L) ws m s e z) (row_front (its_prefix v))

  pub found_number : misfit (length L) (length ws) m ≡ 0 → (r : Result Prefix Refusal) → as_prefixed r ≡ uneven_row (length L) ws m s → number_in r ≡ symbol_range (length L) m s
  found_number fits (Ok p) e = rw fits at (row_number (length L) ws m s e)
  found_number fits (Err x) e = rw fits at (row_number (length L) ws m s e)

  pub found_as : (r : Result Prefix Refusal) → as_prefixed r ≡ uneven_row (length L) ws m s → FoundAs r (uneven_on L ws s)
  found_as (Ok p) e = found_front e refl
  found_as (Err x) e = tt

  pub found_row : (r : Result Prefix Refusal) → as_prefixed r ≡ uneven_row (length L) ws m s → IfOk r (λ p. PrefixRow L p.cells p.length)
  found_row (Ok p) e = found_stored e refl
  found_row (Err x) e = tt
