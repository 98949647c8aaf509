-- Numbers read from bytes: where the bytes are there, and where they end early. Assumes nothing.
use mathlib.Core.Path.{◌≡◌, refl, ap, ◌∙◌}
use mathlib.Core.List.{List}
use Prim.Native.Nat.{ℕ, zero, suc, ◌+◌, ◌-◌, ◌*◌, ◌≤◌, ◌<◌}
use native.Mathlib.Nat.{add-zero, mul-zero, mul-suc}
use native.Mathlib.Numerals.{add-one}
use native.Mathlib.Omega.{arith}
use borrow.Author.Tests.{le-leb, lt-leb}
use lib.ListN.{length, get_or, take, drop}
use lib.Seq.{drop-cons}
use Rattle.theory.proofs.Cases.{by_le}
use Rattle.sheet.specs.Bytes.{ill_formed, fault, got, after, check, many, little, number}
use Rattle.sheet.specs.Parts.{numbers}

module _ (s : List ℕ) where
  pub number_there : (k at : ℕ) → at + k ≤ length s → number k s at ≡ got (little (take k (drop at s))) (at + k)
  unfolding number check
  number_there k at h = rw (le-leb _ _ h)

  pub number_short : (k at : ℕ) → length s < at + k → number k s at ≡ fault ill_formed
  unfolding number check
  number_short k at h = rw (lt-leb _ _ h)

  pub byte_spelled : (at : ℕ) → at < length s → little (take 1 (drop at s)) ≡ get_or s at 0
  unfolding little
  byte_spelled at h = rw (drop-cons s at 0) (omega arith)

  pub byte_there : (at : ℕ) → at < length s → number 1 s at ≡ got (get_or s at 0) (at + 1)
  byte_there at h = number_there 1 at (omega arith) ∙ ap (λ (b : ℕ). got b (at + 1)) (byte_spelled at h)

  -- ---- n numbers of k bytes

  pub row_there : (k n at : ℕ) → at + k * n ≤ length s → many n (number k s) at ≡ got (numbers k n s at) (at + k * n)
  unfolding many after numbers
  row_there k zero at h = rw (mul-zero, add-zero)
  row_there k (suc n) at h =
      let more = mul-suc k n in
      let far : at + k + k * n ≡ at + k * suc n = omega arith in
      rw (number_there k at (omega arith), row_there k n (at + k) (omega arith), far)

  pub row_short : (k n at : ℕ) → at ≤ length s → length s < at + k * n → many n (number k s) at ≡ fault ill_formed
  unfolding many after
  row_short k zero at le h = absurd (omega (arith, mul-zero k))
  row_short k (suc n) at le h =
      by_le (at + k) (length s)
      (λ there. rw (number_there k at there, row_short k n (at + k) there (omega (arith, mul-suc k n))))
      (λ short. rw (number_short k at short))

  pub numbers_length : (k n at : ℕ) → length (numbers k n s at) ≡ n
  unfolding numbers
  numbers_length k zero at = refl
  numbers_length k (suc n) at = ap suc (numbers_length k n (at + k))

  -- number i of them
  pub numbers_at : (k n at i : ℕ) → i < n → get_or (numbers k n s at) i 0 ≡ little (take k (drop (at + k * i) s))
  unfolding numbers
  numbers_at k zero at i h = absurd (omega arith)
  numbers_at k (suc n) at zero h = rw (mul-zero, add-zero)
  numbers_at k (suc n) at (suc i) h =
      let far : at + k + k * i ≡ at + k * suc i = omega (arith, mul-suc k i) in
      rw (← far) (numbers_at k n (at + k) i (omega arith))

  -- single bytes are the numbers that they spell
  bytes_numbers : (n at : ℕ) → at + n ≤ length s → take n (drop at s) ≡ numbers 1 n s at
  unfolding numbers
  bytes_numbers zero at h = refl
  bytes_numbers (suc n) at h =
      let here : at < length s = omega arith in
      rw (byte_spelled at here, add-one at, ← bytes_numbers n (suc at) (omega arith)) (ap (take (suc n)) (drop-cons s at 0 here))

  pub names_copied : (at n : ℕ) → at + n ≤ length s → take (at + n - at) (drop at s) ≡ numbers 1 n s at
  names_copied at n h = let same : at + n - at ≡ n = omega arith in rw same (bytes_numbers n at h)
