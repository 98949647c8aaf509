-- The prefixes of a choice lead no more permutations than there are: the sum of (n - length)! is at most n!. Assumes nothing.
use Prim.Native.Nat.{ℕ, zero, suc, ◌+◌, ◌-◌, ◌≤◌, ◌<◌}
use mathlib.Core.Path.{◌≡◌}
use mathlib.Core.Bool.{false, cond}
use mathlib.Core.Logic.{◌⊎◌, inl, inr, ⊎_elim}
use mathlib.Core.List.{List}
use native.Mathlib.Omega.{arith}
use lib.ListN.{length}
use lib.Dec.{leb}
use borrow.Author.Tests.{le-leb, lt-leb}
use Rattle.theory.specs.Lists.{begins, names}
use Rattle.theory.specs.Factorial.{factorial}
use Rattle.theory.proofs.Cases.{by_test, by_le}
use Rattle.theory.proofs.Members.{Distinct}
use Rattle.theory.proofs.Names.{names_length}
use Rattle.theory.proofs.Prefixes.{names_distinct, prefix_over}
use Rattle.prefixcodes.specs.Code.{PrefixFree, sum_below, sort_up}
use Rattle.prefixcodes.proofs.Better.{Fits}
use Rattle.prefixcodes.proofs.LedBlock.{first_led, many_led, led_within, led_apart}
use Rattle.prefixcodes.proofs.Arrange.{leaves_sort_up, rising_sort_up, sort_up_length}

-- two blocks, from a and b on, with nothing in common
abbrev Clear : ℕ → ℕ → ℕ → ℕ → Type 0
Clear a j b k = (a + j ≤ b) ⊎ (b + k ≤ a)

-- a block's start after the block [a, a + j) is cut out
abbrev cut : ℕ → ℕ → ℕ → ℕ
cut a j b = cond (leb (a + j) b) (b - j) b

cut_clear : (a j b k c l : ℕ) → Clear b k a j → Clear c l a j → Clear b k c l → Clear (cut a j b) k (cut a j c) l
cut_clear a j b k c l hb hc h =
    by_le (a + j) b
    (λ x. by_le (a + j) c
    (λ y. rw (le-leb (a + j) b x, le-leb (a + j) c y) (⊎_elim (λ p. inl (omega arith)) (λ p. inr (omega arith)) h))
    (λ y. rw (le-leb (a + j) b x, lt-leb (a + j) c y) (inr (⊎_elim (λ p. omega arith) (λ p. absurd (omega arith)) hc))))
    (λ x. by_le (a + j) c
    (λ y. rw (lt-leb (a + j) b x, le-leb (a + j) c y) (inl (⊎_elim (λ p. omega arith) (λ p. absurd (omega arith)) hb)))
    (λ y. rw (lt-leb (a + j) b x, lt-leb (a + j) c y) h))

cut_within : (a j b k top : ℕ) → Clear b k a j → a + j ≤ top → b + k ≤ top → cut a j b + k ≤ top - j
cut_within a j b k top h x y =
    by_le (a + j) b
    (λ z. rw (le-leb (a + j) b z) (omega arith))
    (λ z. rw (lt-leb (a + j) b z) (⊎_elim (λ p. omega arith) (λ p. absurd (omega arith)) h))

-- Blocks with nothing in common are no longer together than what they lie in: cut one out, and close the gap
blocks : (m top : ℕ) (at size : ℕ → ℕ) → ((s : ℕ) → s < m → at s + size s ≤ top)
    → ((s t : ℕ) → s < t → t < m → Clear (at s) (size s) (at t) (size t)) → sum_below m size ≤ top
blocks zero top at size w c = omega arith
blocks (suc m) top at size w c =
    omega (
      arith,
      w m (omega arith),
      blocks m (top - size m) (λ s. cut (at m) (size m) (at s)) size
          (λ s l. cut_within (at m) (size m) (at s) (size s) top (c s m l (omega arith)) (w m (omega arith)) (w s (omega arith)))
          (λ s t l k. cut_clear (at m) (size m) (at s) (size s) (at t) (size t) (c s m (omega arith) (omega arith)) (c t m k (omega arith)) (c s t l (omega arith))),
    )

module _ (n m : ℕ) (code : ℕ → List ℕ) (h : PrefixFree n m code) where
  cells : Distinct (names n)
  cells = names_distinct n

  not_start : (s t : ℕ) → s < m → t < m → (s ≡ t → ⊥) → begins (code s) (code t) ≡ false
  not_start s t a b ne = by_test (begins (code s) (code t)) (λ e. absurd (ne (h.free s t a b e))) (λ e. e)

  pub choice_room : sum_below m (λ s. factorial (n - length (code s))) ≤ factorial n
  choice_room =
      rw (names_length 1 n) at
      (blocks m (factorial (length (names n))) (λ s. first_led (names n) (code s)) (λ s. many_led (names n) (code s))
      (λ s l. led_within (names n) (code s) cells (prefix_over (h.prefix s l)))
      (λ s t l k. led_apart (names n) (code s) (code t) cells (prefix_over (h.prefix s (omega arith))) (prefix_over (h.prefix t k))
      (not_start s t (omega arith) k (omega arith)) (not_start t s k (omega arith) (omega arith))))

  -- its lengths, sorted
  pub choice_fits : Fits n 1 m (factorial n) (sort_up m (λ s. length (code s)))
  choice_fits =
      record {
        size = sort_up_length m (λ s. length (code s));
        rising = rising_sort_up n 1 m (λ s. length (code s)) (λ s l. (h.some s l, h.short s l));
        room = omega (arith, leaves_sort_up n m (λ s. length (code s)), choice_room);
      }
