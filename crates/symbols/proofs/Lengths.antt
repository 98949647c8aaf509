-- The search for the prefix length of a code, by the factorials that are at most n!/m: what is left of it is the whole search. Assumes nothing.
use mathlib.Core.Path.{◌≡◌, sym, ◌∙◌}
use mathlib.Core.Bool.{Bool}
use Prim.Native.Nat.{ℕ, zero, suc, ◌+◌, ◌-◌, ◌/◌, ◌≤◌, ◌<◌}
use native.Mathlib.Nat.{mul_comm, le-div_iff_mul-le, div-lt_iff_lt-mul}
use native.Mathlib.Numerals.{add-one}
use native.Mathlib.Omega.{arith}
use Rattle.std.specs.Option.{MatchOption, unwrap_or}
use Rattle.std.proofs.Common.{Option, Some, None}
use borrow.Author.Tests.{le-leb, lt-leb}
use lib.Dec.{leb}
use Rattle.theory.specs.Factorial.{factorial}
use Rattle.theory.specs.Least.{least_from}
use Rattle.theory.specs.Prefix.{prefix_length}
use Rattle.theory.proofs.Cases.{by_le}
use Rattle.theory.proofs.Factorials.{factorial_pos}
use Rattle.theory.proofs.Least.{least_from_here, least_from_next}

-- a/b is compared with c as a/c with b: both say how a compares with the product
module _ (a b c : ℕ) (b_some : 1 ≤ b) (c_some : 1 ≤ c) where
  swap_least : b ≤ a / c → c ≤ a / b
  swap_least h = (le-div_iff_mul-le {y = a} b_some).1 (rw (mul_comm c b) ((le-div_iff_mul-le {y = a} c_some).0 h))

  swap_below : a / c < b → a / b < c
  swap_below h = (div-lt_iff_lt-mul {x = a} b_some).1 (rw (mul_comm c b) ((div-lt_iff_lt-mul {x = a} c_some).0 h))

-- are there at least m prefixes of length p?
abbrev enough : ℕ → ℕ → ℕ → Bool
enough n m p = leb m (factorial n / factorial (n - p))

-- no length below p is enough, and the search goes on from p
pub record Searched (n m p : ℕ) : Type 0 where
  pub within : p ≤ n
  pub left : least_from (enough n m) (n - p) p ≡ prefix_length n m

pub start : (n m : ℕ) → Searched n m 0
unfolding prefix_length
start n m = let all : n - 0 ≡ n = omega arith in record { within = omega arith; left = rw all }

module _ {n m p : ℕ} (v : Searched n m p) (some : 1 ≤ m) where
  pub found : factorial (n - p) ≤ factorial n / m → p ≡ prefix_length n m
  found h =
      let many = swap_least (factorial n) (factorial (n - p)) m (factorial_pos (n - p)) some h in
      sym (least_from_here (enough n m) (n - p) p (le-leb m _ many)) ∙ v.left

  module _ (fits : m ≤ factorial n) (h : factorial n / m < factorial (n - p)) where
    -- the search goes on below n, since 0! is at most n!/m
    pub more : p < n
    more =
        by_le n p
        (λ all.
        let none : n - p ≡ 0 = omega arith in
        absurd (omega (arith, rw none at h, (le-div_iff_mul-le {x = 1} {y = factorial n} some).1 (omega arith))))
        (λ l. l)

    pub step : Searched n m (p + 1)
    step =
        let few = swap_below (factorial n) (factorial (n - p)) m (factorial_pos (n - p)) some h in
        record { within = omega (arith, more); left = sym (least_from_next (enough n m) n p more (lt-leb m _ few)) ∙ v.left }

-- p is the first length, if there is one below n, for which (n-p)! is at most n!/m
module _ (n m : ℕ) (some : 1 ≤ m) (fits : m ≤ factorial n) where
  searched : (p : ℕ) → p ≤ n → ((k : ℕ) → k < p → factorial n / m < factorial (n - k)) → Searched n m p
  searched zero le none = start n m
  searched (suc p) le none =
      let v = searched p (omega arith) (λ k h. none k (omega arith)) in
      rw (add-one p) at (step v some fits (none p (omega arith)))

  pub first_found : (r : Option ℕ)
      → MatchOption r ((k : ℕ) → 0 ≤ k → k < n → factorial n / m < factorial (n - k)) (λ i. (0 ≤ i) × (i < n) × (factorial (n - i) ≤ factorial n / m) × ((k : ℕ) → 0 ≤ k → k < i → factorial n / m < factorial (n - k)))
      → unwrap_or r n ≡ prefix_length n m
  first_found None none =
      let v = searched n (omega arith) (λ k h. none k (omega arith) h) in
      let last : n - n ≡ 0 = omega arith in
      found v some (rw last ((le-div_iff_mul-le {x = 1} {y = factorial n} some).1 (omega arith)))
  first_found (Some p) h = found (searched p (omega arith) (λ k l. h.3 k (omega arith) l)) some h.2
