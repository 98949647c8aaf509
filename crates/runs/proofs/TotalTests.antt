-- The total of the tests of a run, in 64 bits. Assumes nothing.
use Rattle.std.proofs.Common.{◌≡◌, ℕ, zero, suc, ◌+◌, ◌*◌, ◌%◌, ◌^◌, ◌<◌, ◌≤◌, ◌⊎◌, List, ap, ◌∙◌, inl, ⊎_elim, mod-eq_of_lt, arith}
use native.Mathlib.Nat.{mod-add-mod}
use Rattle.theory.specs.Factorial.{factorial}
use Rattle.theory.specs.Permutation.{IsPermutation}
use Rattle.theory.specs.Run.{steps}
use Rattle.theory.specs.Deciding.{tests, total_tests, factorial_sum}
use Rattle.theory.proofs.Cases.{by_le}
use Rattle.theory.proofs.Deciding.{size_tests, deciding}
use Rattle.runs.specs.Steps.{TestsOf}

-- what no step lowers, more steps do not
grows : (f : ℕ → ℕ) → ((i : ℕ) → f i ≤ f (suc i)) → (m n : ℕ) → m ≤ n → f m ≤ f n
grows f up m zero h = let z : m ≡ 0 = omega arith in rw z (omega arith)
grows f up m (suc n) h =
    by_le m n
    (λ l. omega (arith, grows f up m n l, up n))
    (λ l. let e : m ≡ suc n = omega arith in rw e (omega arith))

module _ (n : ℕ) (xs : List ℕ) where
  -- one step more
  pub total_more : (done total asked : ℕ) → total ≡ total_tests n done xs % 2 ^ 64 → asked ≡ tests n (steps n done xs)
      → (total + asked) % 2 ^ 64 ≡ total_tests n (suc done) xs % 2 ^ 64
  unfolding total_tests
  total_more done total asked e a = rw (e, a) (mod-add-mod (total_tests n done xs) (2 ^ 64) (tests n (steps n done xs)))

  total_up : (k : ℕ) → total_tests n k xs ≤ total_tests n (suc k) xs
  unfolding total_tests
  total_up k = omega arith

  module _ (few : 2 ≤ n) (many : n ≤ 20) where
    total_small : (k : ℕ) → total_tests n k xs ≤ 18 * k
    unfolding total_tests
    total_small zero = omega arith
    total_small (suc k) = omega (arith, total_small k, size_tests n (steps n k xs) few)

    module _ (o : IsPermutation n xs) where
      round_sum : total_tests n (factorial n) xs ≡ factorial_sum n
      round_sum = (deciding n few).round xs o

      fits : (k : ℕ) → (k ≤ factorial n) ⊎ (k < 2 ^ 59) → total_tests n k xs < 2 ^ 64
      fits k =
          ⊎_elim
          (λ within.
          let so_far = grows (λ i. total_tests n i xs) total_up k (factorial n) within in
          omega (arith, so_far, round_sum, grows factorial_sum (λ i. omega arith) n 20 many))
          (λ small. omega (arith, total_small k))

      pub tests_of : (k total : ℕ) → total ≡ total_tests n k xs % 2 ^ 64 → TestsOf n xs k total
      tests_of k total e = record { total = e; exact = all; round = λ whole. all (inl (omega arith)) ∙ ap (λ (j : ℕ). total_tests n j xs) whole ∙ round_sum }
        where
          all : (k ≤ factorial n) ⊎ (k < 2 ^ 59) → total ≡ total_tests n k xs
          all h = e ∙ mod-eq_of_lt (fits k h)
