-- The least number of pushes to a target from its first cell on: where that cell is on top and the others stand already there is none; otherwise it is one more
-- than that of the other cells. Assumes nothing.
use mathlib.Core.Path.{◌≡◌, refl, ap, sym, ◌∙◌}
use mathlib.Core.Bool.{true, false, cond, not, ◌&&◌, false≢true, and-false, and-eq-true_iff}
use mathlib.Core.Logic.{⊎_elim}
use mathlib.Core.List
use mathlib.Core.List.{List, [], ◌∷◌, Sublistᴰ}
use Prim.Native.Nat.{ℕ, suc, ◌-◌, ◌≤◌}
use native.Mathlib.Omega.{arith}
use lib.Dec.{eqb}
use lib.ListN.{length, drop}
use borrow.Author.Tests.{eq-eqb, ne_eqb, eqb-true}
use Rattle.theory.specs.Lists.{member, without}
use Rattle.theory.specs.Permutation.{top}
use Rattle.theory.specs.Rewrite.{rewrite_count}
use Rattle.theory.proofs.Cases.{by_test, by_name, by_le}
use Rattle.theory.proofs.Members.{member_drop}
use Rattle.theory.proofs.Sublists.{without_sublist, sublist_without, sublist_long}
use Rattle.theory.proofs.Rewriting.{rewrite_sublist, rewrite_least, top_sublist}

-- a target c ∷ t of the cells xs
module _ (c : ℕ) (t xs : List ℕ) (here : member c xs ≡ true) (out : member c t ≡ false) (long : suc (length t) ≡ length xs) where
  abbrev whole : ℕ
  whole = rewrite_count xs (c ∷ t)

  abbrev rest : ℕ
  rest = rewrite_count (without (c ∷ []) xs) t

  abbrev stands : Type 0
  stands = (rest ≡ 0) × (c ≡ top xs)

  rest_out : (k : ℕ) → member c (drop k t) ≡ false
  rest_out k = by_test (member c (drop k t)) (λ e. absurd (false≢true (sym out ∙ member_drop c k t e))) (λ e. e)

  whole_high : whole ≤ suc rest
  whole_high =
      rewrite_least xs (c ∷ t) (suc rest) (List.Sublistᴰ.trans (rewrite_sublist (without (c ∷ []) xs) t) (without_sublist (c ∷ []) xs))

  rest_low : (k : ℕ) → whole ≡ suc k → rest ≤ k
  rest_low k e =
      rewrite_least (without (c ∷ []) xs) t k (sublist_without c (rw e at (rewrite_sublist xs (c ∷ t))) (rest_out k))

  none_stands : whole ≡ 0 → stands
  none_stands e = first xs long (rw e at (rewrite_sublist xs (c ∷ t)))
    where
      first : (ys : List ℕ) → suc (length t) ≡ length ys → Sublistᴰ (c ∷ t) ys → (rewrite_count (without (c ∷ []) ys) t ≡ 0) × (c ≡ top ys)
      first [] l k = absurd (omega arith)
      first (y ∷ ys) l k =
          ⊎_elim
          (λ d. absurd (omega (arith, sublist_long d)))
          (λ d. (
            (let least : rewrite_count (without (c ∷ []) (y ∷ ys)) t ≤ 0 =
                rewrite_least (without (c ∷ []) (y ∷ ys)) t 0 (sublist_without c (List.Sublistᴰ.cons d.1) out) in
                omega arith),
            d.0,
          ))
          (List.Sublistᴰ.cases_cons-cons k)

  stands_none : stands → whole ≡ 0
  stands_none s =
      let same : Sublistᴰ t (without (c ∷ []) xs) = rw s.0 at (rewrite_sublist (without (c ∷ []) xs) t) in
      let least : whole ≤ 0 =
      rewrite_least xs (c ∷ t) 0 (top_sublist c t xs here (sym s.1) out (List.Sublistᴰ.trans same (without_sublist (c ∷ []) xs))) in
      omega arith

  first_cell : whole ≡ cond (eqb rest 0 && eqb c (top xs)) 0 (suc rest)
  first_cell =
      by_test (eqb rest 0 && eqb c (top xs))
      (λ e.
      let w = (and-eq-true_iff (eqb rest 0) (eqb c (top xs))).0 e in
      rw e (stands_none (eqb-true rest 0 w.0, eqb-true c (top xs) w.1)))
      (λ e.
      by_le whole 0
      (λ l.
      let w = none_stands (omega arith) in
      absurd (false≢true (sym e ∙ rw (eq-eqb rest 0 w.0, eq-eqb c (top xs) w.1))))
      (λ l. let more : rest ≤ whole - 1 = rest_low (whole - 1) (omega arith) in rw e (omega (arith, whole_high))))

  -- as it is tested
  pub none_test : eqb whole 0 ≡ (eqb rest 0 && eqb c (top xs))
  none_test =
      by_test (eqb rest 0 && eqb c (top xs)) (λ e. cc (first_cell, eq-eqb 0 0 refl)) (λ e. cc (first_cell, ne_eqb (suc rest) 0 (λ q. omega arith)))

  pub more_test : (d : ℕ) → eqb whole (suc d) ≡ (not (eqb d 0 && eqb c (top xs)) && eqb rest d)
  more_test d =
      by_name rest d
      (λ q e. by_test (eqb d 0 && eqb c (top xs))
      (λ f. cc (first_cell, ap (λ (k : ℕ). eqb k 0) q, ne_eqb 0 (suc d) (λ z. omega arith)))
      (λ f. cc (first_cell, ap (λ (k : ℕ). eqb k 0) q, eq-eqb (suc rest) (suc d) (ap suc q))))
      (λ q e.
      ne_eqb whole (suc d) (λ z.
      by_test (eqb rest 0 && eqb c (top xs))
      (λ f. omega (arith, z, rw f at first_cell))
      (λ f. q (omega (arith, z, rw f at first_cell))))
      ∙ rw e (sym (and-false (not (eqb d 0 && eqb c (top xs))))))
