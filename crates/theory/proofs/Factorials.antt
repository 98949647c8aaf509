-- Factorials are positive, those up to 20! fit 64 bits, and falling factorials are their quotients, 0 past n, and grow by a factor. Assumes nothing.
use mathlib.Core.Path.{◌≡◌, refl, ap, sym, ◌∙◌}
use Prim.Native.Nat.{ℕ, zero, suc, ◌-◌, ◌*◌, ◌/◌, ◌≤◌, ◌<◌}
use native.Mathlib.Nat.{le_of_suc-le-suc, mul_assoc, mul-le-mul_left, mul-le-mul_right, div-eq_of_eq-mul_left, div-le_self}
use native.Mathlib.Omega.{arith}
use Rattle.theory.specs.Factorial.{factorial, falling}
use Rattle.theory.specs.Claims.{Factorials}

pub factorial_pos : (n : ℕ) → 1 ≤ factorial n
factorial_pos zero = omega arith
factorial_pos (suc m) = omega (arith, mul-le-mul_left (suc m) (factorial_pos m))

pub factorial_pred : (n : ℕ) → 1 ≤ n → factorial n ≡ n * factorial (n - 1)
factorial_pred zero h = absurd (omega arith)
factorial_pred (suc m) h =
    let e : m ≡ suc m - 1 = omega arith in
    ap (λ (k : ℕ). suc m * factorial k) e

pub factorial_grows : (m n : ℕ) → m ≤ n → factorial m ≤ factorial n
factorial_grows zero n h = factorial_pos n
factorial_grows (suc m) zero h = absurd (omega arith)
factorial_grows (suc m) (suc n) h =
    omega (arith, mul-le-mul_left (suc m) (factorial_grows m n (le_of_suc-le-suc h)), mul-le-mul_right (factorial n) h)

pub falling_pos : (n p : ℕ) → p ≤ n → 1 ≤ falling n p
falling_pos n zero l = omega arith
falling_pos n (suc p) l = omega (arith, mul-le-mul_left n (falling_pos (n - 1) p (omega arith)))

pub falling_factorial : (n p : ℕ) → p ≤ n → falling n p * factorial (n - p) ≡ factorial n
falling_factorial n zero l = let q : n - 0 ≡ n = omega arith in rw q (omega arith)
falling_factorial zero (suc p) l = absurd (omega arith)
falling_factorial (suc n) (suc p) l =
    let q : suc n - suc p ≡ n - p = omega arith in
    let r : suc n - 1 ≡ n = omega arith in
    rw (q, r) (
    mul_assoc (suc n) (falling n p) (factorial (n - p))
    ∙ ap (λ (x : ℕ). suc n * x) (falling_factorial n p (le_of_suc-le-suc l))
    )

-- n (n - 1) .. (n - p + 1) is n!/(n - p)!
pub falling_quotient : (n p : ℕ) → p ≤ n → falling n p ≡ factorial n / factorial (n - p)
falling_quotient n p l = sym (div-eq_of_eq-mul_left (factorial_pos (n - p)) (sym (falling_factorial n p l)))

-- past n there is a factor 0
falling_past : (n p : ℕ) → n < p → falling n p ≡ 0
falling_past n zero h = absurd (omega arith)
falling_past zero (suc p) h = omega arith
falling_past (suc n) (suc p) h = let e : suc n - 1 ≡ n = omega arith in rw (e, falling_past n p (omega arith)) (omega arith)

-- one factor more at the end
pub falling_last : (n k : ℕ) → falling n (suc k) ≡ falling n k * (n - k)
falling_last n zero = omega arith
falling_last n (suc k) =
    ap (λ (m : ℕ). n * m) (falling_last (n - 1) k)
    ∙ sym (mul_assoc n (falling (n - 1) k) (n - 1 - k))
    ∙ ap (λ (m : ℕ). n * falling (n - 1) k * m) (omega arith)

pub factorials : Factorials
factorials = record {
  twenty = refl;
  fits = λ n h. omega (arith, factorial_grows n 20 h);
  quotient = falling_quotient;
  quotient_fits = λ n p h. omega (arith, factorial_grows n 20 h, div-le_self (factorial n) (factorial (n - p)));
  past = falling_past;
}
