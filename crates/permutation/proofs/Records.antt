-- When a record is refused, and what one has that is not: it is the record of a permutation. Assumes nothing.
use mathlib.Core.Path.{◌≡◌, refl, ap, sym, ◌∙◌}
use mathlib.Core.Bool.{Bool, true, false, cond, ◌&&◌, and-eq-true_iff}
use mathlib.Core.List.{List, [], ◌∷◌, ◌++◌}
use Prim.Native.Nat.{ℕ, zero, suc, ◌-◌, ◌≤◌}
use native.Mathlib.Omega.{arith}
use borrow.Author.Tests.{eqb-true, eq-eqb}
use lib.Dec.{eqb}
use Rattle.std.specs.List.{list_all}
use lib.ListN.{length, drop, replicate, length-drop, take-append-drop}
use lib.Seq.{length-take-le, take-append_seam, drop-append_seam}
use Rattle.theory.specs.Reasons.{done, muddle}
use Rattle.theory.specs.Refusal.{size_of}
use Rattle.theory.specs.Lists.{count}
use Rattle.theory.specs.Permutation.{IsPermutation, row}
use Rattle.theory.proofs.Cases.{by_name}
use Rattle.theory.proofs.Refusal.{or_else_refused, or_else_done, tested, size_done, size_range}
use Rattle.permutation.specs.Records.{list_of, record_of, once_each, all_zero, record_number}
use Rattle.permutation.specs.declared.answers.Permutation.{Permutation}

-- ---- each of 1 to n once
pub once_count : (n : ℕ) (xs : List ℕ) → once_each n xs ≡ true → (c : ℕ) → 1 ≤ c → c ≤ n → count c xs ≡ 1
unfolding once_each
once_count zero xs h c low high = absurd (omega arith)
once_count (suc m) xs h c low high =
    let b = (and-eq-true_iff (eqb (count (suc m) xs) 1) (once_each m xs)).0 h in
    by_name c (suc m)
    (λ q e. ap (λ (k : ℕ). count k xs) q ∙ eqb-true (count (suc m) xs) 1 b.0)
    (λ ne e. once_count m xs b.1 c low (omega (arith, ne)))

pub count_once : (n : ℕ) (xs : List ℕ) → ((c : ℕ) → 1 ≤ c → c ≤ n → count c xs ≡ 1) → once_each n xs ≡ true
unfolding once_each
count_once zero xs h = refl
count_once (suc m) xs h =
    rw (eq-eqb (count (suc m) xs) 1 (h (suc m) (omega arith) (omega arith))) (count_once m xs (λ c low high. h c low (omega arith)))

pub once_permutation : (n : ℕ) (xs : List ℕ) → length xs ≡ n → once_each n xs ≡ true → IsPermutation n xs
once_permutation n xs long h = record { long = long; once = once_count n xs h }

permutation_once : (n : ℕ) (xs : List ℕ) → IsPermutation n xs → once_each n xs ≡ true
permutation_once n xs o = count_once n xs o.once

-- ---- nothing but zeros
pub zeros_tested : (xs : List ℕ) → list_all (λ x. eqb x 0) xs ≡ all_zero xs
unfolding all_zero
zeros_tested [] = refl
zeros_tested (x ∷ xs) = ap (λ (b : Bool). eqb x 0 && b) (zeros_tested xs)

pub zeros_all : (n : ℕ) → all_zero (replicate n 0) ≡ true
unfolding all_zero
zeros_all zero = refl
zeros_all (suc n) = zeros_all n

all_zeros : (xs : List ℕ) → all_zero xs ≡ true → xs ≡ replicate (length xs) 0
unfolding all_zero
all_zeros [] h = refl
all_zeros (x ∷ xs) h =
    let b = (and-eq-true_iff (eqb x 0) (all_zero xs)).0 h in
    let first : x ≡ 0 = eqb-true x 0 b.0 in
    let rest : xs ≡ replicate (length xs) 0 = all_zeros xs b.1 in
    cc

abbrev made : ℕ → List ℕ → Permutation
made k l = record { n = k; cells = l }

-- a record whose places past n hold 0 is that of its names
pub record_back : (p : Permutation) → p.n ≤ 20 → length p.cells ≡ 20 → all_zero (drop p.n p.cells) ≡ true → p ≡ record_of (list_of p)
record_back p few long none =
    let n : ℕ = p.n in
    let rest : List ℕ = drop n p.cells in
    let names : length (list_of p) ≡ n = length-take-le n p.cells (omega arith) in
    let left : length rest ≡ 20 - length (list_of p) = omega (arith, length-drop n p.cells) in
    let cells : p.cells ≡ row (list_of p) =
    sym (take-append-drop n p.cells) ∙ ap (λ (l : List ℕ). list_of p ++ l) (all_zeros rest none ∙ rw left) in
    ap (λ (k : ℕ). made k p.cells) (sym names) ∙ ap (made (length (list_of p))) cells

-- ---- why a record is refused, by the tests that tell
module _ (p : Permutation) where
  -- a number that its size is refused by
  pub size_first : {k : ℕ} → k ≡ size_of p.n → (k ≡ 0 → ⊥) → k ≡ record_number p
  unfolding record_number
  size_first e ne = or_else_refused (size_of p.n) _ e ne

  module _ (sized : size_of p.n ≡ 0) where
    pub fault_muddle : (once_each p.n (list_of p) && all_zero (drop p.n p.cells)) ≡ false → muddle ≡ record_number p
    unfolding record_number
    fault_muddle e = rw (sized, e)

    fault_none : (once_each p.n (list_of p) && all_zero (drop p.n p.cells)) ≡ true → done ≡ record_number p
    unfolding record_number
    fault_none e = rw (sized, e)

-- what a record has that is not refused
pub record Sound (p : Permutation) : Type 0 where
  pub few : 2 ≤ p.n
  pub many : p.n ≤ 20
  pub fault : record_number p ≡ 0
  pub permutation : IsPermutation p.n (list_of p)
  pub is : p ≡ record_of (list_of p)

pub sound : (p : Permutation) → length p.cells ≡ 20 → record_number p ≡ 0 → Sound p
unfolding record_number
sound p long h =
    let n : ℕ = p.n in
    let rest : List ℕ = drop n p.cells in
    let f = or_else_done (size_of n) (cond (once_each n (list_of p) && all_zero rest) done muddle) h in
    let s = size_range n f.0 in
    let g = (and-eq-true_iff (once_each n (list_of p)) (all_zero rest)).0 (tested (once_each n (list_of p) && all_zero rest) (λ z. omega arith) f.1) in
    let high : n ≤ 20 = s.1 in
    let names : length (list_of p) ≡ n = length-take-le n p.cells (omega arith) in
    record {
      few = s.0;
      many = high;
      fault = h;
      permutation = once_permutation n (list_of p) names g.0;
      is = record_back p high long g.1;
    }

-- the record of a permutation is not refused
pub fault_record : (n : ℕ) (xs : List ℕ) → 2 ≤ n → n ≤ 20 → IsPermutation n xs → record_number (record_of xs) ≡ 0
fault_record n xs low high o =
    let rest : List ℕ = replicate (20 - length xs) 0 in
    let once : once_each (length xs) xs ≡ true = rw o.long (permutation_once n xs o) in
    sym (fault_none (record_of xs) (size_done (length xs) (omega arith) (omega arith))
    (rw (take-append_seam xs rest, drop-append_seam xs rest, once) (zeros_all (20 - length xs))))
