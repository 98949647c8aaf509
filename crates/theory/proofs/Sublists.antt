-- The test of a relative sequence decides sublists; what is left of a list is a sublist of it; no sublist is longer than its list. Assumes nothing.
use mathlib.Core.Path.{◌≡◌, refl, sym, ◌∙◌}
use mathlib.Core.Bool.{true, false, not, false≢true}
use mathlib.Core.Logic.{⊎_elim}
use mathlib.Core.List.Sublistᴰ
use mathlib.Core.List.{List, [], ◌∷◌, cons≢nil, Sublistᴰ}
use Prim.Native.Nat.{ℕ, ◌≤◌}
use native.Mathlib.Omega.{arith}
use lib.Dec.{eqb}
use lib.ListN.{length}
use borrow.Author.Tests.{ne_eqb}
use Rattle.theory.specs.Lists.{member, without}
use Rattle.theory.specs.Rewrite.{in_sequence}
use Rattle.theory.proofs.Cases.{by_test, by_name}
use Rattle.theory.proofs.Members.{Distinct, distinct_head, distinct_tail, member_first, member_later, member_differs}

-- the test holds of sublists only
pub sequence_sublist : (xs s : List ℕ) → in_sequence xs s ≡ true → Sublistᴰ s xs
sequence_sublist xs [] h = Sublistᴰ.nil-sublist xs
sequence_sublist [] (c ∷ s) h = absurd (false≢true h)
sequence_sublist (x ∷ xs) (c ∷ s) h =
    by_name c x
    (λ q e. Sublistᴰ.cons-cons q (sequence_sublist xs s (rw e at h)))
    (λ q e. Sublistᴰ.cons (sequence_sublist xs (c ∷ s) (rw e at h)))

-- the first cells crossed off, whether they are the same or not
pub rest_sublist : {c x : ℕ} {s xs : List ℕ} → Sublistᴰ (c ∷ s) (x ∷ xs) → Sublistᴰ s xs
rest_sublist {s = s} k = ⊎_elim (λ d. Sublistᴰ.trans (Sublistᴰ.cons (Sublistᴰ.refl s)) d) (λ d. d.1) (Sublistᴰ.cases_cons-cons k)

-- a first cell that is not the one looked for is skipped
pub skip_sublist : {c x : ℕ} {s xs : List ℕ} → (c ≡ x → ⊥) → Sublistᴰ (c ∷ s) (x ∷ xs) → Sublistᴰ (c ∷ s) xs
skip_sublist ne k = ⊎_elim (λ d. d) (λ d. absurd (ne d.0)) (Sublistᴰ.cases_cons-cons k)

-- and of all of them
pub sublist_sequence : (xs s : List ℕ) → Sublistᴰ s xs → in_sequence xs s ≡ true
sublist_sequence xs [] k = refl
sublist_sequence [] (c ∷ s) k = absurd (cons≢nil (Sublistᴰ.eq-nil k))
sublist_sequence (x ∷ xs) (c ∷ s) k =
    by_name c x
    (λ q e. rw e (sublist_sequence xs s (rest_sublist k)))
    (λ ne e. rw e (sublist_sequence xs (c ∷ s) (skip_sublist ne k)))

pub without_sublist : (a xs : List ℕ) → Sublistᴰ (without a xs) xs
without_sublist a [] = Sublistᴰ.slnil
without_sublist a (x ∷ xs) =
    by_test (member x a)
    (λ e. rw e (Sublistᴰ.cons (without_sublist a xs)))
    (λ e. rw e (Sublistᴰ.cons-cons refl (without_sublist a xs)))

-- cells in sequence, without a cell that is none of them
pub sublist_without : (c : ℕ) {s xs : List ℕ} → Sublistᴰ s xs → member c s ≡ false → Sublistᴰ s (without (c ∷ []) xs)
sublist_without c Sublistᴰ.slnil out = Sublistᴰ.slnil
sublist_without c (Sublistᴰ.cons {a = y} k) out =
    by_test (member y (c ∷ []))
    (λ e. rw e (sublist_without c k out))
    (λ e. rw e (Sublistᴰ.cons (sublist_without c k out)))
sublist_without c (Sublistᴰ.cons-cons {a = x} {b = y} {l₁ = s} q k) out =
    by_name c x
    (λ r e. absurd (false≢true (sym out ∙ rw e)))
    (λ r e. rw (ne_eqb y c (λ w. r (sym w ∙ sym q))) (Sublistᴰ.cons-cons q (sublist_without c k (rw e at out))))

-- no more cells than the list has
pub sublist_long : {s xs : List ℕ} → Sublistᴰ s xs → length s ≤ length xs
sublist_long Sublistᴰ.slnil = omega arith
sublist_long (Sublistᴰ.cons k) = omega (arith, sublist_long k)
sublist_long (Sublistᴰ.cons-cons q k) = omega (arith, sublist_long k)

pub sublist_one : (c : ℕ) (xs : List ℕ) → member c xs ≡ true → Sublistᴰ (c ∷ []) xs
sublist_one c [] m = absurd (false≢true m)
sublist_one c (x ∷ xs) m =
    by_name c x
    (λ q e. Sublistᴰ.cons-cons q (Sublistᴰ.nil-sublist xs))
    (λ q e. Sublistᴰ.cons (sublist_one c xs (rw e at m)))

pub sublist_member : (c : ℕ) {s xs : List ℕ} → Sublistᴰ s xs → member c s ≡ true → member c xs ≡ true
sublist_member c Sublistᴰ.slnil m = m
sublist_member c (Sublistᴰ.cons {a = y} {l₂ = ys} k) m = member_later c y ys (sublist_member c k m)
sublist_member c (Sublistᴰ.cons-cons {b = y} q k) m =
    by_test (eqb c y) (λ e. cc) (λ e. cc (sublist_member c k (cc)))

-- where s stands in xs in sequence and a has the other cells of xs: xs without a is s
pub without_others :
    (a : List ℕ) {s xs : List ℕ} → Sublistᴰ s xs → Distinct xs → ((c : ℕ) → member c xs ≡ true → member c s ≡ not (member c a))
    → without a xs ≡ s
without_others a Sublistᴰ.slnil d h = refl
without_others a (Sublistᴰ.cons {a = y} {l₁ = s} {l₂ = ys} k) d h =
    let ih : without a ys ≡ s = without_others a k (distinct_tail y ys d) (λ c m. h c (member_later c y ys m)) in
    by_test (member y a)
    (λ f. cc)
    (λ f. by_test (member y s)
    (λ e. cc (distinct_head y ys d, sublist_member y k e))
    (λ e. cc (h y (member_first y ys))))
without_others a (Sublistᴰ.cons-cons {a = x} {b = y} {l₁ = s} {l₂ = ys} q k) d h =
    let here : member y (x ∷ s) ≡ true = rw q (member_first y s) in
    let stays : member y a ≡ false = by_test (member y a) (λ f. cc (h y (member_first y ys))) (λ f. f) in
    cc (without_others a k (distinct_tail y ys d) (λ c m.
    let ne : eqb c y ≡ false = member_differs c y ys (distinct_head y ys d) m in
    cc (h c (member_later c y ys m))))
