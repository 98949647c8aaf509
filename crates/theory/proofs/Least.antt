-- The least number at which a test holds: it is at most the bound, the test holds there, and at no lower number. Assumes nothing.
use mathlib.Core.Path.{◌≡◌, refl}
use mathlib.Core.Bool.{Bool, true, false, false≢true}
use mathlib.Core.Logic.{⊎_elim}
use Prim.Native.Nat.{ℕ, zero, suc, ◌+◌, ◌-◌, ◌≤◌, ◌<◌}
use native.Mathlib.Nat.{eq-or-lt_of_le}
use native.Mathlib.Numerals.{add-one}
use native.Mathlib.Omega.{arith}
use Rattle.theory.specs.Least.{least_from, least}
use Rattle.theory.proofs.Cases.{by_test}

-- where the test holds at some j from r to the bound, it holds at the number found
least_from_holds :
    (test : ℕ → Bool) (k r j : ℕ) → r ≤ j → j ≤ k + r → test j ≡ true → test (least_from test k r) ≡ true
least_from_holds test zero r j low high h = let q : j ≡ r = omega arith in rw q at h
least_from_holds test (suc k) r j low high h =
    by_test (test r)
    (λ e. rw e e)
    (λ e. rw e (⊎_elim
    (λ q. absurd (false≢true (cc)))
    (λ l. least_from_holds test k (suc r) j l (omega arith) h)
    (eq-or-lt_of_le low)))

-- it is at most the bound
least_from_bound : (test : ℕ → Bool) (k r : ℕ) → least_from test k r ≤ k + r
least_from_bound test zero r = omega arith
least_from_bound test (suc k) r =
    by_test (test r) (λ e. rw e (omega arith)) (λ e. rw e (omega (arith, least_from_bound test k (suc r))))

-- and at most every j from r at which the test holds
least_from_min : (test : ℕ → Bool) (k r j : ℕ) → r ≤ j → test j ≡ true → least_from test k r ≤ j
least_from_min test zero r j low h = low
least_from_min test (suc k) r j low h =
    by_test (test r)
    (λ e. rw e low)
    (λ e. rw e (⊎_elim (λ q. absurd (false≢true (cc))) (λ l. least_from_min test k (suc r) j l h) (eq-or-lt_of_le low)))

-- the search ends where the test holds; where it does not, it goes on with the next number
pub least_from_here : (test : ℕ → Bool) (k r : ℕ) → test r ≡ true → least_from test k r ≡ r
least_from_here test zero r h = refl
least_from_here test (suc k) r h = rw h

pub least_from_next : (test : ℕ → Bool) (n r : ℕ) → r < n → test r ≡ false → least_from test (n - r) r ≡ least_from test (n - (r + 1)) (r + 1)
least_from_next test n r l h =
    let more : n - r ≡ suc (n - (r + 1)) = omega arith in
    rw (more, h, add-one r)

-- the same from 0
pub least_holds : (test : ℕ → Bool) (bound j : ℕ) → j ≤ bound → test j ≡ true → test (least test bound) ≡ true
least_holds test bound j high h = least_from_holds test bound 0 j (omega arith) (omega arith) h

pub least_bound : (test : ℕ → Bool) (bound : ℕ) → least test bound ≤ bound
least_bound test bound = omega (arith, least_from_bound test bound 0)

pub least_min : (test : ℕ → Bool) (bound j : ℕ) → test j ≡ true → least test bound ≤ j
least_min test bound j h = least_from_min test bound 0 j (omega arith) h
