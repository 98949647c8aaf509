-- Prefixes of permutations of n cells and their numbers, and the prefix length of a code. Assumes nothing.
use mathlib.Core.Path.{◌≡◌, refl, ap, ◌∙◌}
use mathlib.Core.Bool.{Bool, true, false≢true}
use mathlib.Core.List.{List, [], ◌∷◌, ◌++◌}
use Prim.Native.Nat.{ℕ, ◌-◌, ◌/◌, ◌≤◌, ◌<◌}
use native.Mathlib.Nat.{div-one, div_self}
use native.Mathlib.Omega.{arith}
use lib.Dec.{leb}
use lib.ListN.{length, take, drop, take-append-drop}
use lib.Seq.{length-take-le}
use borrow.Author.Tests.{eq-eqb, le-leb, leb-true, leb-false}
use Rattle.theory.specs.Lists.{begins, names}
use Rattle.theory.specs.Factorial.{factorial, falling}
use Rattle.theory.specs.Least.{least}
use Rattle.theory.specs.Permutation.{IsPermutation}
use Rattle.theory.specs.Prefix.{IsPrefix, prefixes, prefix_at, prefix_number, prefix_length, symbol_prefix, symbol_of}
use Rattle.theory.specs.Claims.{Numbering, Coding}
use Rattle.theory.proofs.Cases.{by_test, by_name, by_le}
use Rattle.theory.proofs.Permutations.{inside}
use Rattle.theory.proofs.Members.{Distinct, Among, permutation_distinct, distinct_left, member_count, member_take}
use Rattle.theory.proofs.Names.{ascending_distinct, names_length, names_low, names_high, names_member, names_ascending, permutation_member}
use Rattle.theory.proofs.Least.{least_holds, least_bound, least_min}
use Rattle.theory.proofs.Factorials.{factorial_pos, falling_quotient}
use Rattle.theory.proofs.Numbering.{prefix_of, number_of, Over, prefixes_length, prefixes_at, prefix_of_length, prefix_of_over, prefix_of_before, number_of_prefix_of, number_of_below, prefix_of_number_of}

-- a list begins with q where its first names are q
pub begins_take : (q xs : List ℕ) → begins q xs ≡ true → take (length q) xs ≡ q
begins_take [] xs h = refl
begins_take (c ∷ q) [] h = absurd (false≢true h)
begins_take (c ∷ q) (x ∷ xs) h =
    by_name c x (λ r e. cc (begins_take q xs (rw e at h))) (λ r e. absurd (false≢true (rw e at h)))

pub begins_append : (q xs : List ℕ) → begins q (q ++ xs) ≡ true
begins_append [] xs = refl
begins_append (c ∷ q) xs = cc (eq-eqb c c refl, begins_append q xs)

pub names_distinct : (n : ℕ) → Distinct (names n)
names_distinct n = ascending_distinct (names n) (names_ascending 1 n)

pub prefix_over : {n p : ℕ} {q : List ℕ} → IsPrefix n p q → Over (names n) q
prefix_over {n} h = record {
  distinct = h.distinct;
  named = λ c m. names_member 1 n c (h.named c m).0 (omega (arith, (h.named c m).1));
}

-- every permutation has the cells of a prefix
pub prefix_among : {n p : ℕ} {q xs : List ℕ} → IsPrefix n p q → IsPermutation n xs → Among q xs
prefix_among h o c k = permutation_member o c ∙ (prefix_over h).named c k

module _ (n p : ℕ) where
  prefixes_many : length (prefixes p (names n)) ≡ falling n p
  prefixes_many = prefixes_length p (names n) (names_distinct n) ∙ ap (λ (k : ℕ). falling k p) (names_length 1 n)

  -- a number of a prefix, as the laws over any names have it
  below : {s : ℕ} → s < falling n p → s < falling (length (names n)) p
  below l = rw (names_length 1 n) l

  -- the prefix of a number is the one that its digits choose
  pub prefix_at_digits : (s : ℕ) → s < falling n p → prefix_at n p s ≡ prefix_of p (names n) s
  unfolding prefix_at
  prefix_at_digits s l = prefixes_at p (names n) s (names_distinct n) (below l)

  pub prefix_at_prefix : (s : ℕ) → s < falling n p → IsPrefix n p (prefix_at n p s)
  prefix_at_prefix s l =
      let o : Over (names n) (prefix_of p (names n) s) = prefix_of_over p (names n) s (names_distinct n) (below l) in
      rw (prefix_at_digits s l) (record {
        long = prefix_of_length p (names n) s;
        distinct = o.distinct;
        named = λ c m. (names_low 1 n c (o.named c m), omega (arith, names_high 1 n c (o.named c m)));
      })

  -- of the prefixes of one length only number s begins a list that begins with it
  prefix_number_prefix_at : (s : ℕ) (rest : List ℕ) → s < falling n p → prefix_number n p (prefix_at n p s ++ rest) ≡ s
  unfolding prefix_number
  prefix_number_prefix_at s rest l =
      let xs : List ℕ = prefix_at n p s ++ rest in
      let test : ℕ → Bool = λ t. begins (prefix_at n p t) xs in
      let bound : ℕ = length (prefixes p (names n)) in
      let found : ℕ = least test bound in
      let here : test s ≡ true = begins_append (prefix_at n p s) rest in
      let low : found ≤ s = least_min test bound s here in
      let there : test found ≡ true = least_holds test bound s (omega (arith, prefixes_many)) here in
      let fits : found < falling n p = omega arith in
      cc (
        begins_take (prefix_at n p s) xs here,
        begins_take (prefix_at n p found) xs there,
        (prefix_at_prefix s l).long,
        (prefix_at_prefix found fits).long,
        prefix_at_digits s l,
        prefix_at_digits found fits,
        number_of_prefix_of p (names n) s (names_distinct n) (below l),
        number_of_prefix_of p (names n) found (names_distinct n) (below fits),
      )

  module _ (xs : List ℕ) (h : IsPrefix n p (take p xs)) where
    number_of_fits : number_of (names n) (take p xs) < falling n p
    number_of_fits = rw (names_length 1 n, h.long) at (number_of_below (names n) (take p xs) (names_distinct n) (prefix_over h))

    prefix_at_number_of : prefix_at n p (number_of (names n) (take p xs)) ≡ take p xs
    prefix_at_number_of =
        prefix_at_digits (number_of (names n) (take p xs)) number_of_fits
        ∙ rw h.long at (prefix_of_number_of (names n) (take p xs) (names_distinct n) (prefix_over h))

    -- the number of the prefix that leads xs, by the places of its cells
    pub prefix_number_number_of : prefix_number n p xs ≡ number_of (names n) (take p xs)
    prefix_number_number_of =
        let s : ℕ = number_of (names n) (take p xs) in
        let whole : prefix_at n p s ++ drop p xs ≡ xs = rw prefix_at_number_of (take-append-drop p xs) in
        rw whole at (prefix_number_prefix_at s (drop p xs) number_of_fits)

pub numbering : (n p : ℕ) → p ≤ n → Numbering n p
numbering n p l =
    let many : length (prefixes p (names n)) ≡ falling n p = prefixes_many n p in
    record {
      many = many ∙ falling_quotient n p l;
      lexicographic = λ s t less high.
          let u : t < falling n p = omega arith in
          rw (prefix_at_digits n p s (omega arith), prefix_at_digits n p t u)
          (prefix_of_before p (names n) s t (names_ascending 1 n) less (rw (names_length 1 n) u));
      prefix = λ s high. prefix_at_prefix n p s (omega arith);
      number_prefix = λ s rest high. prefix_number_prefix_at n p s rest (omega arith);
      prefix_number_lem = λ xs h.
          rw (prefix_number_number_of n p xs h, many) (number_of_fits n p xs h, prefix_at_number_of n p xs h);
    }

-- the first p cells of a permutation are a prefix
pub permutation_prefix : {n : ℕ} (p : ℕ) (xs : List ℕ) → p ≤ n → IsPermutation n xs → IsPrefix n p (take p xs)
permutation_prefix {n} p xs h o =
    let whole : take p xs ++ drop p xs ≡ xs = take-append-drop p xs in
    record {
      long = length-take-le p xs (omega (arith, o.long));
      distinct = distinct_left (take p xs) (drop p xs) (rw whole (permutation_distinct o));
      named = λ c m. inside n xs o c (member_count c xs (member_take c p xs m));
    }

pub coding : (n m : ℕ) → m ≤ factorial n → Coding n m
unfolding prefix_length symbol_prefix symbol_of
coding n m fits =
    let test : ℕ → Bool = λ p. leb m (factorial n / factorial (n - p)) in
    let none : n - n ≡ 0 = omega arith in
    let all : n - 0 ≡ n = omega arith in
    let last : m ≤ factorial n / factorial (n - n) = rw (none, div-one (factorial n)) fits in
    let p : ℕ = prefix_length n m in
    record {
      at_most = least_bound _ n;
      enough = leb-true m (factorial n / factorial (n - p)) (least_holds test n n (omega arith) (le-leb m (factorial n / factorial (n - n)) last));
      least = λ q less.
          by_test (test q) (λ e. absurd (omega (arith, least_min test n q e))) (leb-false m (factorial n / factorial (n - q)));
      reads = λ xs o.
          let numbers : Numbering n p = numbering n p (least_bound _ n) in
          let w = numbers.prefix_number_lem xs (permutation_prefix p xs (least_bound _ n) o) in
          (omega (arith, w.0, numbers.many), w.1);
      one = λ e.
          let first : m ≤ factorial n / factorial (n - 0) = rw (all, div_self (factorial_pos n)) (omega arith) in
          omega (arith, least_min test n 0 (le-leb m (factorial n / factorial (n - 0)) first));
    }

-- n - 1 cells are enough for any code
pub prefix_length_short : (n m : ℕ) → 1 ≤ n → m ≤ factorial n → prefix_length n m < n
prefix_length_short n m pos fits =
    let code : Coding n m = coding n m fits in
    let one : n - (n - 1) ≡ 1 = omega arith in
    by_le n (prefix_length n m)
    (λ l.
    let few : factorial n / factorial (n - (n - 1)) < m = code.least (n - 1) (omega arith) in
    absurd (omega (arith, rw (one, div-one (factorial n)) at few)))
    (λ l. l)
