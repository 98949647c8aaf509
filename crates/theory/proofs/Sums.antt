-- Sums over the cells 1 to n. Assumes nothing.
use mathlib.Core.Path.{◌≡◌, refl}
use Prim.Native.Nat.{ℕ, zero, suc, ◌+◌, ◌*◌, ◌≤◌, ◌<◌}
use native.Mathlib.Omega.{arith}
use Rattle.theory.specs.Lists.{delta}
use Rattle.theory.proofs.Cases.{by_le}
use Rattle.theory.proofs.Counts.{delta_eq, delta_ne}

unfoldable pub sum_to : (ℕ → ℕ) → ℕ → ℕ
sum_to f zero = 0
sum_to f (suc m) = sum_to f m + f (suc m)

pub sum_add : (f g : ℕ → ℕ) (n : ℕ) → sum_to (λ c. f c + g c) n ≡ sum_to f n + sum_to g n
unfolding sum_to
sum_add f g zero = refl
sum_add f g (suc m) = omega (arith, sum_add f g m)

pub sum_constant : (f : ℕ → ℕ) (q n : ℕ) → ((c : ℕ) → 1 ≤ c → c ≤ n → f c ≡ q) → sum_to f n ≡ n * q
unfolding sum_to
sum_constant f q zero h = omega arith
sum_constant f q (suc m) h =
    omega (arith, sum_constant f q m (λ c low high. h c low (omega arith)), h (suc m) (omega arith) (omega arith))

sum_past : (h n : ℕ) → n < h → sum_to (delta h) n ≡ 0
unfolding sum_to
sum_past h zero l = refl
sum_past h (suc m) l = omega (arith, sum_past h m (omega arith), delta_ne h (suc m) (λ e. omega arith))

pub sum_delta : (h n : ℕ) → 1 ≤ h → h ≤ n → sum_to (delta h) n ≡ 1
unfolding sum_to
sum_delta h zero low high = absurd (omega arith)
sum_delta h (suc m) low high =
    by_le h m
    (λ l. omega (arith, sum_delta h m low l, delta_ne h (suc m) (λ e. omega arith)))
    (λ l. omega (arith, sum_past h m (omega arith), delta_eq h (suc m) (omega arith)))
