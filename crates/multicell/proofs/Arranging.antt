-- Arrangements: q × z levels of which each from 1 to q is used z times have no other, and those that are all from 1 to q, none more than z times, are one.
-- Assumes nothing.
use mathlib.Core.Path.{◌≡◌, refl, ap, sym, ◌∙◌}
use mathlib.Core.Bool.{true, and-eq-true_iff}
use mathlib.Core.List.{List, [], ◌∷◌}
use Prim.Native.Nat.{ℕ, zero, suc, ◌+◌, ◌-◌, ◌*◌, ◌≤◌, ◌<◌}
use native.Mathlib.Omega.{arith}
use borrow.Author.Tests.{eq-eqb, eqb-true}
use lib.Dec.{eqb}
use lib.ListN.{length, get_or}
use Rattle.theory.specs.Lists.{delta, count}
use Rattle.theory.specs.Permutation.{place_of}
use Rattle.theory.proofs.Cases.{by_name, by_le}
use Rattle.theory.proofs.Counts.{delta_ne}
use Rattle.theory.proofs.Members.{count_member}
use Rattle.theory.proofs.Places.{place_of_low, place_of_high, cell_at_place_of}
use Rattle.theory.proofs.Sums.{sum_to, sum_add, sum_constant, sum_delta}
use Rattle.multicell.specs.Arrangement.{IsArrangement, used_each}
use Rattle.multicell.specs.Claims.{ArrangementTest, Plain}

-- ---- the test

pub used_count : (q z : ℕ) (a : List ℕ) → used_each q z a ≡ true → (v : ℕ) → 1 ≤ v → v ≤ q → count v a ≡ z
unfolding used_each
used_count zero z a h v low high = absurd (omega arith)
used_count (suc m) z a h v low high =
    let both = (and-eq-true_iff (eqb (count (suc m) a) z) (used_each m z a)).0 h in
    by_name v (suc m)
    (λ is _. ap (λ (k : ℕ). count k a) is ∙ eqb-true (count (suc m) a) z both.0)
    (λ ne _. used_count m z a both.1 v low (omega arith))

count_used : (q z : ℕ) (a : List ℕ) → ((v : ℕ) → 1 ≤ v → v ≤ q → count v a ≡ z) → used_each q z a ≡ true
unfolding used_each
count_used zero z a h = refl
count_used (suc m) z a h =
    rw (eq-eqb (count (suc m) a) z (h (suc m) (omega arith) (omega arith)), count_used m z a (λ v low high. h v low (omega arith)))

-- ---- how many cells have a level from 1 to q

abbrev on_levels : ℕ → List ℕ → ℕ
on_levels q a = sum_to (λ v. count v a) q

module _ (q : ℕ) where
  on_none : on_levels q [] ≡ 0
  on_none = sum_constant (λ v. count v []) 0 q (λ v low high. refl) ∙ omega arith

  on_more : (x : ℕ) (a : List ℕ) → on_levels q (x ∷ a) ≡ sum_to (delta x) q + on_levels q a
  on_more x a = sum_add (delta x) (λ v. count v a) q

  outside : (x : ℕ) → ((1 ≤ x) × (x ≤ q) → ⊥) → sum_to (delta x) q ≡ 0
  outside x out =
      sum_constant (delta x) 0 q (λ v low high. delta_ne x v (λ e. out (rw e (low, high)))) ∙ omega arith

  by_level : {P : Type 0} (x : ℕ) → ((1 ≤ x) × (x ≤ q) → P) → (((1 ≤ x) × (x ≤ q) → ⊥) → P) → P
  by_level x f g = by_le 1 x (λ low. by_le x q (λ high. f (low, high)) (λ l. g (λ b. omega (arith, b.1)))) (λ l. g (λ b. omega (arith, b.0)))

  on_most : (a : List ℕ) → on_levels q a ≤ length a
  on_most [] = omega (arith, on_none)
  on_most (x ∷ a) =
      by_level x
      (λ b. omega (arith, on_more x a, sum_delta x q b.0 b.1, on_most a))
      (λ out. omega (arith, on_more x a, outside x out, on_most a))

  -- where all have one, each has
  on_each : (a : List ℕ) → on_levels q a ≡ length a → (i : ℕ) → i < length a → (1 ≤ get_or a i 0) × (get_or a i 0 ≤ q)
  on_each [] e i l = absurd (omega arith)
  on_each (x ∷ a) e i l =
      by_level x
      (λ b. at i l b (on_each a (omega (arith, on_more x a, sum_delta x q b.0 b.1))))
      (λ out. absurd (omega (arith, on_more x a, outside x out, on_most a)))
    where
      at :
          (i : ℕ) → i < length (x ∷ a) → (1 ≤ x) × (x ≤ q) → ((j : ℕ) → j < length a → (1 ≤ get_or a j 0) × (get_or a j 0 ≤ q))
          → (1 ≤ get_or (x ∷ a) i 0) × (get_or (x ∷ a) i 0 ≤ q)
      at zero l b h = b
      at (suc j) l b h = h j (omega arith)

  -- and where each has one, all have
  each_on : (a : List ℕ) → ((i : ℕ) → i < length a → (1 ≤ get_or a i 0) × (get_or a i 0 ≤ q)) → on_levels q a ≡ length a
  each_on [] h = on_none
  each_on (x ∷ a) h =
      let b : (1 ≤ x) × (x ≤ q) = h 0 (omega arith) in
      omega (arith, on_more x a, sum_delta x q b.0 b.1, each_on a (λ i l. h (suc i) (omega arith)))

-- ---- terms that are at most z

sum_most : (f : ℕ → ℕ) (z q : ℕ) → ((v : ℕ) → 1 ≤ v → v ≤ q → f v ≤ z) → sum_to f q ≤ q * z
unfolding sum_to
sum_most f z zero h = omega arith
sum_most f z (suc m) h = omega (arith, sum_most f z m (λ v low high. h v low (omega arith)), h (suc m) (omega arith) (omega arith))

-- are all z where their sum is the most
sum_all : (f : ℕ → ℕ) (z q : ℕ) → ((v : ℕ) → 1 ≤ v → v ≤ q → f v ≤ z) → sum_to f q ≡ q * z → (v : ℕ) → 1 ≤ v → v ≤ q → f v ≡ z
unfolding sum_to
sum_all f z zero h e v low high = absurd (omega arith)
sum_all f z (suc m) h e v low high =
    let less : (v : ℕ) → 1 ≤ v → v ≤ m → f v ≤ z = λ v low high. h v low (omega arith) in
    let last : f (suc m) ≤ z = h (suc m) (omega arith) (omega arith) in
    by_name v (suc m)
    (λ is _. ap f is ∙ omega (arith, sum_most f z m less))
    (λ ne _. sum_all f z m less (omega (arith, sum_most f z m less)) v low (omega arith))

-- ---- arrangements

pub arrangement : (q z : ℕ) (a : List ℕ) → length a ≡ q * z → used_each q z a ≡ true → IsArrangement q z a
arrangement q z a long h =
    let used : (v : ℕ) → 1 ≤ v → v ≤ q → count v a ≡ z = used_count q z a h in
    record { long = long; level = on_each q a (sum_constant (λ v. count v a) z q used ∙ sym long); used = used }

pub test : (q z : ℕ) (a : List ℕ) → ArrangementTest q z a
test q z a = record { is = arrangement q z a; only = λ o. count_used q z a o.used }

-- levels from 1 to q, none of them used more than z times
pub none_more :
    (q z : ℕ) (a : List ℕ) → length a ≡ q * z → ((i : ℕ) → i < length a → (1 ≤ get_or a i 0) × (get_or a i 0 ≤ q))
    → ((v : ℕ) → 1 ≤ v → v ≤ q → count v a ≤ z) → used_each q z a ≡ true
none_more q z a long each few = count_used q z a (sum_all (λ v. count v a) z q few (each_on q a each ∙ long))

pub plain : (q : ℕ) (a : List ℕ) → Plain q a
plain q a = record {
  permutation = λ o. record { long = o.long ∙ omega arith; once = o.used };
  arrangement = λ o. arrangement q 1 a (o.long ∙ omega arith) (count_used q 1 a o.once);
}

-- an index at which a level stands
pub record CellOn (v : ℕ) (a : List ℕ) : Type 0 where
  pub index : ℕ
  pub within : index < length a
  pub here : get_or a index 0 ≡ v

pub count_at_lem : (v : ℕ) (a : List ℕ) → 1 ≤ count v a → CellOn v a
count_at_lem v a h =
    let there = count_member v a h in
    record { index = place_of v a - 1; within = omega (arith, place_of_low v a, place_of_high v a there); here = cell_at_place_of v a there }
