-- Refusals: what is given beside a number, one number after another, and what the numbers of sizes, of levels and of ceilings tell. Assumes nothing.
use mathlib.Core.Path.{◌≡◌, refl, sym, ◌∙◌}
use mathlib.Core.Bool.{Bool, true, false, cond, and-false, and-eq-true_iff}
use mathlib.Core.List.{List}
use Prim.Native.Nat.{ℕ, ◌+◌, ◌≤◌, ◌<◌}
use native.Mathlib.Omega.{arith}
use borrow.Author.Tests.{ne_eqb, leb-true, le-leb, lt-leb}
use lib.Dec.{leb}
use lib.ListN.{length}
use Rattle.theory.specs.Reasons.{done, size, tie, ceiling, sized, max_level}
use Rattle.theory.specs.Refusal.{given, or_else, size_of, size_within}
use Rattle.theory.specs.Levels.{highest, tied, read_number}
use Rattle.theory.specs.CountUp.{ceiling_of}
use Rattle.theory.proofs.Cases.{by_test, by_name}

-- ---- what is given beside a number

pub given_done : {A : Type 0} (number : ℕ) (a z : A) → number ≡ 0 → given number a z ≡ a
given_done number a z e = rw e

pub given_refused : {A : Type 0} (number : ℕ) (a z : A) → (number ≡ 0 → ⊥) → given number a z ≡ z
given_refused number a z ne = rw (ne_eqb number 0 ne)

-- so what holds of what stood before and, where the job is done, of what it gives, holds of what is left
pub given_so : {A : Type 0} (P : A → Type 0) (number : ℕ) (a z : A) → P z → (number ≡ 0 → P a) → P (given number a z)
given_so P number a z was is = by_name number 0 (λ q e. rw e (is q)) (λ ne e. rw e was)

-- an answer is made of its number and of what is given beside it: z where it is refused, a where it is done
module _ {A R : Type 0} (answer : ℕ → A → R) {why : ℕ} (a z : A) where
  pub refused : {number : ℕ} → number ≡ why → (number ≡ 0 → ⊥) → answer number z ≡ answer why (given why a z)
  refused {number} e ne = rw (← e, ne_eqb number 0 ne)

  pub answered : why ≡ 0 → answer 0 a ≡ answer why (given why a z)
  answered e = rw e

-- ---- one number after another

pub or_else_refused : {number : ℕ} (a b : ℕ) → number ≡ a → (number ≡ 0 → ⊥) → number ≡ or_else a b
or_else_refused {number} a b e ne = rw (← e, ne_eqb number 0 ne)

-- a number that the first does not refuse by is the second's, past the first
module _ (a b : ℕ) {k : ℕ} (first : a ≡ k → k ≡ 0) where
  pub or_else_past : or_else a b ≡ k → (a ≡ 0) × (b ≡ k)
  or_else_past h = by_name a 0 (λ q e. (q, rw e at h)) (λ ne e. let is : a ≡ k = rw e at h in absurd (ne (is ∙ first is)))

  -- and one that neither refuses by is 0
  pub or_else_only : (b ≡ k → k ≡ 0) → or_else a b ≡ k → k ≡ 0
  or_else_only second h = second (or_else_past h).1

pub or_else_done : (a b : ℕ) → or_else a b ≡ 0 → (a ≡ 0) × (b ≡ 0)
or_else_done a b h = or_else_past a b (λ e. refl) h

-- the test of one reason
pub tested : (test : Bool) {why : ℕ} → (why ≡ 0 → ⊥) → cond test done why ≡ 0 → test ≡ true
tested true ne h = refl
tested false ne h = absurd (ne h)

pub test_failed : (test : Bool) (why : ℕ) {k : ℕ} → (k ≡ 0 → ⊥) → cond test done why ≡ k → test ≡ false
test_failed true why ne h = absurd (ne (sym h))
test_failed false why ne h = refl

-- it gives no other number
pub test_only : (test : Bool) {why k : ℕ} → (k ≡ why → ⊥) → cond test done why ≡ k → k ≡ 0
test_only true ne h = sym h
test_only false ne h = absurd (ne (sym h))

-- ---- sizes

module _ (n : ℕ) where
  pub size_small : n < 2 → size ≡ size_of n
  size_small h = rw (lt-leb 2 n h)

  pub size_large : 20 < n → size ≡ size_of n
  size_large h = rw (lt-leb n 20 h, and-false (leb 2 n))

  pub size_done : 2 ≤ n → n ≤ 20 → size_of n ≡ done
  size_done low high = rw (le-leb 2 n low, le-leb n 20 high)

  pub size_range : size_of n ≡ done → (2 ≤ n) × (n ≤ 20)
  size_range h =
      let s = (and-eq-true_iff (leb 2 n) (leb n 20)).0 (tested (sized n) (λ z. omega arith) h) in
      (leb-true 2 n s.0, leb-true n 20 s.1)

  -- as it is tested: k is n within the sizes
  module _ {k : ℕ} (e : k ≡ size_within n) where
    pub within_none : k ≡ 0 → (sized n ≡ false) × (size ≡ size_of n)
    within_none z =
        by_test (sized n)
        (λ s. absurd (omega (arith, (size_range (rw s)).0, sym e ∙ z, given_done (size_of n) n 0 (rw s))))
        (λ s. (s, rw s))

    pub within_some : (k ≡ 0 → ⊥) → (size_of n ≡ done) × (k ≡ n)
    within_some ne = by_name (size_of n) 0
        (λ q t. (q, e ∙ given_done (size_of n) n 0 q))
        (λ q t. absurd (ne (e ∙ given_refused (size_of n) n 0 q)))

-- ---- levels

-- levels that have a permutation
pub record Readable (L : List ℕ) : Type 0 where
  pub few : 2 ≤ length L
  pub many : length L ≤ 20
  pub untied : tied L ≡ false

pub read_done : {L : List ℕ} → Readable L → read_number L ≡ done
unfolding read_number
read_done {L} r = rw (size_done (length L) r.few r.many, r.untied)

pub readable : {L : List ℕ} → read_number L ≡ done → Readable L
unfolding read_number
readable {L} e =
    let b = or_else_done (size_of (length L)) (cond (tied L) tie done) e in
    let s = size_range (length L) b.0 in
    record { few = s.0; many = s.1; untied = by_test (tied L) (λ t. absurd (omega (arith, rw t at b.1))) (λ t. t) }

-- ---- ceilings, of k pushes on L

module _ (L : List ℕ) (k : ℕ) where
  pub ceiling_done : highest L + k ≤ max_level → ceiling_of L k ≡ done
  ceiling_done h = rw (le-leb (highest L + k) max_level h)

  pub ceiling_refused : max_level < highest L + k → ceiling ≡ ceiling_of L k
  ceiling_refused h = rw (lt-leb (highest L + k) max_level h)

  pub ceiling_room : ceiling_of L k ≡ done → highest L + k ≤ max_level
  ceiling_room h = leb-true (highest L + k) max_level (tested (leb (highest L + k) max_level) (λ z. omega arith) h)
