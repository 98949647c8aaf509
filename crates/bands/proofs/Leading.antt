-- Cells that lead on levels: each above all after it, in a permutation that they begin, and the first of the sorted cells. Assumes nothing.
use mathlib.Core.Path.{◌≡◌, refl, sym, ap, ◌∙◌}
use mathlib.Core.Bool.{true, false, false≢true}
use mathlib.Core.List.{List, [], ◌∷◌, ◌++◌}
use Prim.Native.Nat.{ℕ, zero, suc, ◌-◌, ◌≤◌, ◌<◌}
use native.Mathlib.Omega.{arith}
use lib.ListN.{length, get_or, take, drop, take-append-drop}
use lib.Seq.{take_all, take-suc, take-take, get_or-take, drop-cons}
use Rattle.theory.specs.Lists.{member}
use Rattle.theory.specs.Permutation.{IsPermutation, cell_at}
use Rattle.theory.specs.Levels.{level, permutation_of}
use Rattle.theory.proofs.Cases.{by_test, by_name}
use Rattle.theory.proofs.Members.{Distinct, member_first, member_get_or, member_append, distinct_apart, permutation_distinct, cell_member}
use Rattle.theory.proofs.Prefixes.{permutation_prefix}
use Rattle.theory.proofs.Sorting.{permutation_of_permutation}
use Rattle.charge.proofs.Indexing.{sorted_sinks}
use Rattle.bands.specs.Bands.{Leads}
use Rattle.bands.proofs.Above.{Above}
use Rattle.bands.proofs.Choices.{cell_here, cell_after}

-- ---- a list cut at an index

-- a name of the list that is not before the cut is after it
after_cut : (xs : List ℕ) (i c : ℕ) → member c xs ≡ true → member c (take i xs) ≡ false → member c (drop i xs) ≡ true
after_cut xs i c m out =
    let whole : take i xs ++ drop i xs ≡ xs = take-append-drop i xs in
    cc (member_append c (take i xs) (drop i xs))

-- and the other way round
before_cut : (xs : List ℕ) (i c : ℕ) → Distinct xs → member c (drop i xs) ≡ true → member c (take i xs) ≡ false
before_cut xs i c d m =
    by_test (member c (take i xs))
    (λ e. absurd (false≢true (sym (distinct_apart (take i xs) (drop i xs) (rw (take-append-drop i xs) d) c e) ∙ m)))
    (λ e. e)

entry_new : (xs : List ℕ) (i : ℕ) → Distinct xs → i < length xs → member (get_or xs i 0) (take i xs) ≡ false
entry_new xs i d h = before_cut xs i (get_or xs i 0) d (rw (drop-cons xs i 0 h) (member_first (get_or xs i 0) (drop (suc i) xs)))

-- ---- the first p cells of a permutation
module _ {L xs : List ℕ} (o : IsPermutation (length L) xs) (p : ℕ) (fits : p ≤ length L) where
  pub above_leads : Above L L p xs → Leads L p (take p xs)
  above_leads a = record {
    prefix = permutation_prefix p xs fits o;
    above = λ i c first last low high out.
        let k : suc (i - 1) ≡ i = omega arith in
        let cut : member c (take (suc (i - 1)) xs) ≡ false = rw (k, ← take-take i p xs (omega arith)) out in
        rw (get_or-take p xs (i - 1) 0 (omega arith))
        (a (i - 1) c (omega arith) (after_cut xs (suc (i - 1)) c (cell_member o c (low, high)) cut));
  }

  pub leads_above : Leads L p (take p xs) → Above L L p xs
  leads_above l j c less m =
      let back : suc j - 1 ≡ j = omega arith in
      let cell = cell_after o j c m in
      let out : member c (take (suc j) (take p xs)) ≡ false =
      rw (take-take (suc j) p xs less) (before_cut xs (suc j) c (permutation_distinct o) m) in
      rw (back, get_or-take p xs j 0 less) at (l.above (suc j) c (omega arith) less cell.0 cell.1 out)

-- ---- the first of the sorted cells
module _ {L : List ℕ} {p : ℕ} {q : List ℕ} (fits : p ≤ length L) (l : Leads L p q) where
  abbrev xs : List ℕ
  xs = permutation_of L

  o : IsPermutation (length L) xs
  o = permutation_of_permutation L

  -- the cell at index i of the sorted cells is that of q, if those before it are
  module _ (i : ℕ) (h : i < p) (before : take i xs ≡ take i q) where
    in_q : i < length q
    in_q = omega (arith, l.prefix.long)

    in_xs : i < length xs
    in_xs = omega (arith, o.long)

    -- it does not stand below it
    reached : level L (get_or q i 0) ≤ level L (get_or xs i 0)
    reached =
        let x : ℕ = get_or q i 0 in
        sorted_sinks L i x (after_cut xs i x (cell_member o x (l.prefix.named x (member_get_or q i in_q))) (rw before (entry_new q i l.prefix.distinct in_q)))

    -- and no cell but that of q reaches it
    same_cell : get_or xs i 0 ≡ get_or q i 0
    same_cell =
        let y : ℕ = get_or xs i 0 in
        by_name y (get_or q i 0)
        (λ e t. e)
        (λ ne t.
        let cell = cell_here o i (omega arith) in
        let first : member y (take i q) ≡ false = rw (← before) (entry_new xs i (permutation_distinct o) in_xs) in
        let out : member y (take (suc i) q) ≡ false = rw (take-suc q i 0 in_q, member_append y (take i q) (get_or q i 0 ∷ []), first, t) in
        let place : suc i - 1 ≡ i = omega arith in
        let less : level L y < level L (cell_at (suc i) q) = l.above (suc i) y (omega arith) h cell.0 cell.1 out in
        absurd (omega (arith, reached, ap (λ (j : ℕ). level L (get_or q j 0)) place)))

  leads_take : (i : ℕ) → i ≤ p → take i xs ≡ take i q
  leads_take zero h = refl
  leads_take (suc i) h =
      let before = leads_take i (omega arith) in
      take-suc xs i 0 (in_xs i h before) ∙ cc (take-suc q i 0 (in_q i h before), same_cell i h before)

  pub leads_first : take p (permutation_of L) ≡ q
  leads_first = leads_take p (omega arith) ∙ take_all p q (omega (arith, l.prefix.long))
