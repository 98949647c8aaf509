-- A row of digits by weights: what the next digit adds to the number that the digits before it stand for, and that it stays below the next weight. Assumes nothing.
use mathlib.Core.Path.{◌≡◌, refl, ap}
use mathlib.Core.List.{List, [], ◌∷◌, ◌++◌}
use Prim.Native.Nat.{ℕ, zero, suc, ◌+◌, ◌-◌, ◌*◌, ◌≤◌, ◌<◌}
use native.Mathlib.Nat.{mul-le-mul_left}
use native.Mathlib.Omega.{arith}
use lib.ListN.{length, get_or, take}
use lib.Seq.{take-suc, length-take-le}
use Rattle.theory.specs.Factorial.{falling}
use Rattle.theory.specs.Rank.{digit_value, weighted_sum}
use Rattle.theory.proofs.Factorials.{falling_quotient, falling_last}

-- a digit more at the end of a nested product counts by its weight
value_last : (n : ℕ) (ds : List ℕ) (d : ℕ) → digit_value n (ds ++ d ∷ []) ≡ digit_value n ds + d * falling n (length ds)
unfolding digit_value
value_last n [] d = omega arith
value_last n (e ∷ ds) d = omega (arith, ap (λ (k : ℕ). n * k) (value_last (n - 1) ds d))

-- so the first k digits by weights are the nested product of these k
pub weighted_value : (n k : ℕ) (ds : List ℕ) → k ≤ n → k ≤ length ds → weighted_sum n k ds ≡ digit_value n (take k ds)
unfolding weighted_sum digit_value
weighted_value n zero ds few room = refl
weighted_value n (suc k) ds few room =
    let d = get_or ds k 0 in
    omega (
      arith,
      weighted_value n k ds (omega arith) (omega arith),
      ap (λ (w : ℕ). d * w) (falling_quotient n k (omega arith)),
      ap (λ (m : ℕ). d * falling n m) (length-take-le k ds (omega arith)),
      value_last n (take k ds) d,
      ap (digit_value n) (take-suc ds k 0 room),
    )

-- a sum below the weight of digit i, and that digit, stay below the next weight
pub weighted_below : (n i : ℕ) {sum d : ℕ} → sum < falling n i → d < n - i → sum + d * falling n i < falling n (suc i)
weighted_below n i below small = omega (arith, falling_last n i, mul-le-mul_left (falling n i) small)
