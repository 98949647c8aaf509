-- The levels of cells along a row: each of them, the highest, and whether two are equal. Assumes nothing.
use mathlib.Core.Path.{◌≡◌, refl, ap, sym, ◌∙◌, subst}
use mathlib.Core.Bool.{true, false, false≢true}
use mathlib.Core.List.{List, [], ◌∷◌, map}
use Prim.Native.Nat.{ℕ, zero, suc, ◌≤◌, ◌<◌}
use native.Mathlib.Omega.{arith}
use lib.ListN.{length, get_or, drop, length-map, get_or-map}
use Rattle.theory.specs.Lists.{member}
use Rattle.theory.specs.Permutation.{IsPermutation}
use Rattle.theory.specs.Levels.{level, highest, tied}
use Rattle.theory.proofs.Cases.{by_test, by_name, by_le}
use Rattle.theory.proofs.Permutations.{inside}
use Rattle.theory.proofs.Members.{Distinct, permutation_distinct, member_count, member_first, member_later, distinct_head, distinct_tail, distinct_cons, cell_member}
use Rattle.theory.proofs.Padding.{get_or_any}
use Rattle.theory.proofs.Ties.{Apart, untied_apart, apart_untied}

module _ (L : List ℕ) where
  pub along_at : (xs : List ℕ) (j : ℕ) → j < length xs → get_or (map (level L) xs) j 0 ≡ level L (get_or xs j 0)
  along_at xs j h = get_or_any (map (level L) xs) j 0 (level L 0) (omega (arith, length-map xs (level L))) ∙ get_or-map (level L) xs j 0

  pub along_drop : (k : ℕ) (xs : List ℕ) → drop k (map (level L) xs) ≡ map (level L) (drop k xs)
  along_drop zero xs = refl
  along_drop (suc k) [] = refl
  along_drop (suc k) (x ∷ xs) = along_drop k xs

  -- the highest of them bounds each, and is below what all are below
  pub along_highest : (c : ℕ) (xs : List ℕ) → member c xs ≡ true → level L c ≤ highest (map (level L) xs)
  along_highest c [] m = absurd (false≢true m)
  along_highest c (x ∷ xs) m =
      by_name c x (λ q e. omega (arith, ap (level L) q)) (λ ne e. omega (arith, along_highest c xs (rw e at m)))

  pub along_below : (v : ℕ) (xs : List ℕ) → 1 ≤ length xs → ((c : ℕ) → member c xs ≡ true → level L c < v) → highest (map (level L) xs) < v
  along_below v [] pos h = absurd (omega arith)
  along_below v (x ∷ []) pos h = omega (arith, h x (member_first x []))
  along_below v (x ∷ y ∷ xs) pos h =
      omega (arith, h x (member_first x (y ∷ xs)), along_below v (y ∷ xs) (omega arith) (λ c m. h c (member_later c x (y ∷ xs) m)))

-- ---- ties

-- a level above all of a list is none of them
above_none : (v : ℕ) (x : List ℕ) → highest x < v → member v x ≡ false
above_none v [] h = refl
above_none v (a ∷ x) h = by_name v a (λ q e. absurd (omega arith)) (λ ne e. cc (above_none v x (omega arith)))

-- where each of the first p is above all that come after it, a tie is among the others
pub tied_others : (x : List ℕ) (p : ℕ) → ((j : ℕ) → j < p → highest (drop (suc j) x) < get_or x j 0) → tied (drop p x) ≡ tied x
tied_others x zero h = refl
tied_others [] (suc p) h = refl
tied_others (a ∷ x) (suc p) h = rw (above_none a x (h 0 (omega arith))) (tied_others x p (λ j l. h (suc j) (omega arith)))

-- cells that are different have different levels
abbrev Separate : List ℕ → List ℕ → Type 0
Separate L xs = (c d : ℕ) → member c xs ≡ true → member d xs ≡ true → (c ≡ d → ⊥) → level L c ≡ level L d → ⊥

module _ (L : List ℕ) where
  along_member : (c : ℕ) (xs : List ℕ) → member c xs ≡ true → member (level L c) (map (level L) xs) ≡ true
  along_member c [] m = absurd (false≢true m)
  along_member c (x ∷ xs) m =
      by_name c x
      (λ q e. subst (λ (d : ℕ). member (level L d) (map (level L) (x ∷ xs)) ≡ true) (sym q) (member_first (level L x) (map (level L) xs)))
      (λ ne e. member_later (level L c) (level L x) (map (level L) xs) (along_member c xs (rw e at m)))

  along_absent : (v : ℕ) (xs : List ℕ) → ((d : ℕ) → member d xs ≡ true → v ≡ level L d → ⊥) → member v (map (level L) xs) ≡ false
  along_absent v [] h = refl
  along_absent v (x ∷ xs) h =
      by_name v (level L x)
      (λ q e. absurd (h x (member_first x xs) q))
      (λ ne e. cc (along_absent v xs (λ d m. h d (member_later d x xs m))))

  separate_untied : (xs : List ℕ) → Distinct xs → Separate L xs → tied (map (level L) xs) ≡ false
  separate_untied [] d s = refl
  separate_untied (x ∷ xs) d s =
      distinct_cons (level L x) (map (level L) xs)
      (along_absent (level L x) xs (λ b m. s x b (member_first x xs) (member_later b x xs m) (λ e. false≢true (sym (distinct_head x xs d) ∙ rw e m))))
      (separate_untied xs (distinct_tail x xs d) (λ b c mb mc. s b c (member_later b x xs mb) (member_later c x xs mc)))

  untied_separate : (xs : List ℕ) → tied (map (level L) xs) ≡ false → Separate L xs
  untied_separate [] t c d mc md ne e = false≢true mc
  untied_separate (x ∷ xs) t c d mc md ne e =
      let out : member (level L x) (map (level L) xs) ≡ false = distinct_head (level L x) (map (level L) xs) t in
      by_name c x
      (λ qc ec. by_name d x
      (λ qd ed. ne (qc ∙ sym qd))
      (λ qd ed. false≢true (sym out ∙ rw (← qc, e) (along_member d xs (rw ed at md)))))
      (λ qc ec. by_name d x
      (λ qd ed. false≢true (sym out ∙ rw (← qd, ← e) (along_member c xs (rw ec at mc))))
      (λ qd ed. untied_separate xs (distinct_tail (level L x) (map (level L) xs) t) c d (rw ec at mc) (rw ed at md) ne e))

  -- the levels along a row that has all cells have a tie where the levels have one
  pub tied_row : (ys : List ℕ) → IsPermutation (length L) ys → tied (map (level L) ys) ≡ tied L
  tied_row ys o =
      by_test (tied L)
      (λ t. by_test (tied (map (level L) ys)) (λ e. e ∙ sym t) (λ e. absurd (false≢true (sym (apart_untied L (apart e)) ∙ t))))
      (λ t. separate_untied ys (permutation_distinct o) (separate (untied_apart L t)) ∙ sym t)
    where
      stands : (c : ℕ) → 1 ≤ c → c ≤ length L → member c ys ≡ true
      stands c low high = cell_member o c (low, high)

      apart : tied (map (level L) ys) ≡ false → Apart L
      apart e c d low less high = untied_separate ys e c d (stands c low (omega arith)) (stands d (omega arith) high) (λ q. omega arith)

      separate : Apart L → Separate L ys
      separate a c d mc md ne e =
          let bc = inside (length L) ys o c (member_count c ys mc) in
          let bd = inside (length L) ys o d (member_count d ys md) in
          by_le (suc c) d (λ l. a c d bc.0 l bd.1 e) (λ l. a d c bd.0 (omega (arith, ne)) bc.1 (sym e))
