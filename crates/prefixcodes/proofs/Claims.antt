-- All that is claimed of the code of weighted symbols. Assumes nothing.
use mathlib.Core.Path.{◌≡◌, refl, sym, ◌∙◌}
use mathlib.Core.Bool.{Bool, true, false≢true}
use mathlib.Core.Logic.{◌⊎◌, inl, inr, ⊎_elim}
use mathlib.Core.List.{List, [], ◌∷◌}
use Prim.Native.Nat.{ℕ, zero, suc, ◌+◌, ◌≤◌, ◌<◌}
use native.Mathlib.Omega.{arith}
use borrow.Author.Tests.{eq-eqb}
use lib.ListN.{length}
use Rattle.theory.specs.Lists.{without, begins}
use Rattle.theory.specs.Least.{least_from, least}
use Rattle.theory.specs.Factorial.{factorial}
use Rattle.theory.specs.Permutation.{IsPermutation}
use Rattle.theory.specs.Claims.{Storing}
use Rattle.theory.proofs.Cases.{by_test, by_name}
use Rattle.theory.proofs.Least.{least_holds, least_min}
use Rattle.theory.proofs.Prefixes.{begins_append}
use Rattle.theory.proofs.Storing.{storing}
use Rattle.prefixcodes.specs.Code.{PrefixFree}
use Rattle.prefixcodes.specs.Construction.{code_prefix, code_symbol}
use Rattle.prefixcodes.specs.Claims.{SymbolBy, IdleBy, CodeClaims, UnevenClaims}
use Rattle.prefixcodes.proofs.Examples.{code_examples}
use Rattle.prefixcodes.proofs.Only.{code_asked, code_only}

-- of two prefixes that lead a list, one is the start of the other
both_lead : (p q ys : List ℕ) → begins p ys ≡ true → begins q ys ≡ true → (begins p q ≡ true) ⊎ (begins q p ≡ true)
both_lead [] q ys a b = inl refl
both_lead (c ∷ p) [] ys a b = inr refl
both_lead (c ∷ p) (d ∷ q) [] a b = absurd (false≢true a)
both_lead (c ∷ p) (d ∷ q) (y ∷ ys) a b =
    by_name c y
    (λ e u. by_name d y
    (λ f v. rw (eq-eqb c d (e ∙ sym f), eq-eqb d c (f ∙ sym e)) (both_lead p q ys (rw u at a) (rw v at b)))
    (λ f v. absurd (false≢true (rw v at b))))
    (λ e u. absurd (false≢true (rw u at a)))

-- a search that ended below its bound has found
least_from_found : (test : ℕ → Bool) (k r : ℕ) → least_from test k r < k + r → test (least_from test k r) ≡ true
least_from_found test zero r h = absurd (omega arith)
least_from_found test (suc k) r h =
    by_test (test r) (λ e. rw e e) (λ e. let below : least_from test k (suc r) < k + suc r = omega (arith, rw e at h) in rw e (least_from_found test k (suc r) below))

module _ (n : ℕ) (ws : List ℕ) (two : 2 ≤ n) (few : length ws ≤ factorial n) where
  choice : PrefixFree n (length ws) (code_prefix n ws)
  choice = (code_asked n ws two few).best.choice

  -- only one symbol's prefix leads
  leads_one : (s t : ℕ) (xs : List ℕ) → s < length ws → t < length ws → begins (code_prefix n ws s) xs ≡ true → begins (code_prefix n ws t) xs ≡ true → t ≡ s
  leads_one s t xs h k a b =
      ⊎_elim (λ e. sym (choice.free s t h k e)) (λ e. choice.free t s k h e) (both_lead (code_prefix n ws s) (code_prefix n ws t) xs a b)

  -- the symbol whose prefix leads is the one that is read
  pub code_read_lem : (s : ℕ) (xs : List ℕ) → s < length ws → begins (code_prefix n ws s) xs ≡ true → code_symbol n ws xs ≡ s
  unfolding code_symbol
  code_read_lem s xs h e =
      let test : ℕ → Bool = λ t. begins (code_prefix n ws t) xs in
      let t : ℕ = least test (length ws) in
      let low : t ≤ s = least_min test (length ws) s e in
      leads_one s t xs h (omega arith) e (least_holds test (length ws) s (omega arith) e)

  pub code_leads : (xs : List ℕ) → code_symbol n ws xs < length ws → begins (code_prefix n ws (code_symbol n ws xs)) xs ≡ true
  unfolding code_symbol
  code_leads xs h = least_from_found (λ t. begins (code_prefix n ws t) xs) (length ws) 0 (omega arith)

  symbol_by : (xs : List ℕ) → code_symbol n ws xs < length ws → SymbolBy n ws xs (code_symbol n ws xs)
  symbol_by xs h = record {
    below = h;
    leads = λ code a. rw (code_only n ws two few code a (code_symbol n ws xs) h) (code_leads xs h);
    only = λ code a t k e. leads_one (code_symbol n ws xs) t xs h k (code_leads xs h) (rw (code_only n ws two few code a t k) at e);
  }

  idle_by : (xs : List ℕ) → length ws ≤ code_symbol n ws xs → IdleBy n ws xs
  unfolding code_symbol
  idle_by xs h code a s k =
      by_test (begins (code s) xs)
      (λ e. absurd (omega (arith, least_min (λ t. begins (code_prefix n ws t) xs) (length ws) s (rw (code_only n ws two few code a s k) at e))))
      (λ e. e)

  code_stores : (s : ℕ) (xs : List ℕ) → s < length ws → IsPermutation n xs → Storing n (length (code_prefix n ws s)) (code_prefix n ws s) xs
  code_stores s xs h o = storing n (length (code_prefix n ws s)) (code_prefix n ws s) xs (choice.prefix s h) o

  pub code_claims : CodeClaims n ws
  code_claims = record {
    asked = code_asked n ws two few;
    prefix = λ s h. record {
      code = code_prefix n ws;
      asked = code_asked n ws two few;
      gives = refl;
      only = λ other a. code_only n ws two few other a s h;
    };
    read = symbol_by;
    idle = idle_by;
    stores = code_stores;
    read_back = λ s xs h o.
        code_read_lem s _ h (rw (code_stores s xs h o).reaches (begins_append (code_prefix n ws s) (without (code_prefix n ws s) xs)));
  }

pub uneven_claims : UnevenClaims
uneven_claims = record { code = code_claims; examples = code_examples }
