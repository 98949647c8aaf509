-- The names a, a + 1, .., and lists of names that ascend. Assumes nothing.
use mathlib.Core.Path.{◌≡◌, refl, ap, sym, ◌∙◌}
use mathlib.Core.Bool.{true, false≢true}
use mathlib.Core.List.{List, [], ◌∷◌, map}
use Prim.Native.Nat.{ℕ, zero, suc, ◌+◌, ◌≤◌, ◌<◌}
use native.Mathlib.Omega.{arith}
use lib.ListN.{length, get_or}
use Rattle.theory.specs.Lists.{member, without, names_from, names}
use Rattle.theory.specs.Permutation.{IsPermutation}
use Rattle.theory.proofs.Cases.{by_test, by_name}
use Rattle.theory.proofs.Permutations.{inside}
use Rattle.theory.proofs.Members.{Distinct, Same, distinct_cons, distinct_single, member_count, without_among, cell_member}

-- each name is below all later ones
abbrev pub Ascending : List ℕ → Type 0
Ascending [] = Unit {0}
Ascending (x ∷ xs) = ((c : ℕ) → member c xs ≡ true → x < c) × Ascending xs

pub ascending_distinct : (xs : List ℕ) → Ascending xs → Distinct xs
ascending_distinct [] a = refl
ascending_distinct (x ∷ xs) a =
    distinct_cons x xs (by_test (member x xs) (λ e. absurd (omega (arith, a.0 x e))) (λ e. e)) (ascending_distinct xs a.1)

pub ascending_without : (a xs : List ℕ) → Ascending xs → Ascending (without a xs)
ascending_without a [] h = tt
ascending_without a (x ∷ xs) h =
    let rest : Ascending (without a xs) = ascending_without a xs h.1 in
    by_test (member x a)
    (λ e. rw e rest)
    (λ e. rw e ((λ c m. h.0 c (without_among a xs c m)), rest))

pub names_length : (a n : ℕ) → length (names_from a n) ≡ n
names_length a zero = refl
names_length a (suc n) = ap suc (names_length (suc a) n)

pub names_at : (a n j : ℕ) → j < n → get_or (names_from a n) j 0 ≡ a + j
names_at a zero j h = absurd (omega arith)
names_at a (suc n) zero h = omega arith
names_at a (suc n) (suc j) h = names_at (suc a) n j (omega arith) ∙ omega arith

-- a row of the values of a function at each of them: the entry of c
pub names_map_at : {A : Type 0} (z : A) (f : ℕ → A) (a n j c : ℕ) → a + j ≡ c → j < n → get_or (map f (names_from a n)) j z ≡ f c
names_map_at z f a zero j c e h = absurd (omega arith)
names_map_at z f a (suc n) zero c e h = ap f (omega arith)
names_map_at z f a (suc n) (suc j) c e h = names_map_at z f (suc a) n j c (omega arith) (omega arith)

-- they are the names from a to below a + n, and no others
pub names_low : (a n c : ℕ) → member c (names_from a n) ≡ true → a ≤ c
names_low a zero c m = absurd (false≢true m)
names_low a (suc n) c m = by_name c a (λ q e. omega arith) (λ q e. omega (arith, names_low (suc a) n c (rw e at m)))

pub names_high : (a n c : ℕ) → member c (names_from a n) ≡ true → c < a + n
names_high a zero c m = absurd (false≢true m)
names_high a (suc n) c m = by_name c a (λ q e. omega arith) (λ q e. omega (arith, names_high (suc a) n c (rw e at m)))

pub names_member : (a n c : ℕ) → a ≤ c → c < a + n → member c (names_from a n) ≡ true
names_member a zero c low high = absurd (omega arith)
names_member a (suc n) c low high = by_name c a (λ q e. cc) (λ q e. cc (names_member (suc a) n c (omega arith) (omega arith)))

pub names_ascending : (a n : ℕ) → Ascending (names_from a n)
names_ascending a zero = tt
names_ascending a (suc n) = (names_low (suc a) n, names_ascending (suc a) n)

-- a permutation of n cells has just the names 1 to n
pub permutation_member : {n : ℕ} {xs : List ℕ} → IsPermutation n xs → Same xs (names n)
permutation_member {n} {xs} o c =
    by_test (member c xs)
    (λ e.
    let b : (1 ≤ c) × (c ≤ n) = inside n xs o c (member_count c xs e) in
    e ∙ sym (names_member 1 n c b.0 (omega (arith, b.1))))
    (λ e. by_test (member c (names n))
    (λ f.
    let low : 1 ≤ c = names_low 1 n c f in
    let high : c ≤ n = omega (arith, names_high 1 n c f) in
    absurd (false≢true (sym e ∙ cell_member o c (low, high))))
    (λ f. e ∙ sym f))

-- and a list of n names that has just these is one
pub names_permutation : {n : ℕ} {xs : List ℕ} → length xs ≡ n → Distinct xs → Same xs (names n) → IsPermutation n xs
names_permutation {n} {xs} long d same = record {
  long = long;
  once = λ c low high.
      let there : member c xs ≡ true = same c ∙ names_member 1 n c low (omega arith) in
      omega (arith, member_count c xs there, distinct_single c xs d);
}
