-- A number's decimal digits: the fewest that hold it, and at most w of them below 10^w. Assumes nothing.
use mathlib.Core.Path.{◌≡◌, refl, ap, ◌∙◌}
use mathlib.Core.List.{List, [], ◌∷◌}
use Prim.Native.Nat.{ℕ, zero, suc, ◌-◌, ◌%◌, ◌/◌, ◌^◌, ◌≤◌, ◌<◌}
use native.Mathlib.Nat.{pow-le-pow_right}
use native.Mathlib.Omega.{arith}
use lib.Dec.{ltb}
use lib.ListN.{length, take, length-append}
use borrow.Author.Tests.{ltb-true, lt-ltb}
use Rattle.theory.proofs.Cases.{by_order}
use Rattle.theory.proofs.Least.{least_holds, least_min}
use Rattle.io.specs.Counts.{IsPrefixLen}
use Rattle.io.specs.Digits.{hex_digit_ascii, last_digits, IsDigitCount}
use Rattle.layout.specs.Text.{places, decimal, field}

digits_length : (b k n : ℕ) → length (last_digits b k n) ≡ k
digits_length b zero n = refl
digits_length b (suc k) n =
    omega (arith, length-append (last_digits b k (n / b)) (hex_digit_ascii (n % b) ∷ []), digits_length b k (n / b))

-- the search of `places` ends in time, where the digits hold the number
in_time : (n : ℕ) → n < 10 ^ suc n
in_time zero = omega arith
in_time (suc n) = omega (arith, in_time n)

places_hold : (n : ℕ) → n < 10 ^ places n
unfolding places
places_hold n =
    ltb-true _ _
    (least_holds (λ k. ltb n (10 ^ suc k)) n n (omega arith) (lt-ltb n (10 ^ suc n) (in_time n)))

-- and no more digits than hold the number are found
places_few : (n w : ℕ) → n < 10 ^ suc w → places n ≤ suc w
unfolding places
places_few n w h = omega (arith, least_min (λ k. ltb n (10 ^ suc k)) n w (lt-ltb n (10 ^ suc w) h))

fewest_places : (n k : ℕ) → IsDigitCount 10 1 n k → k ≡ places n
unfolding places
fewest_places n k h =
    let q : suc (k - 1) ≡ k = omega (arith, h.0) in
    by_order k (places n)
    (λ l. absurd (omega (arith, places_few n (k - 1) (rw q h.1))))
    (λ l.
    let more : 10 ^ places n ≤ 10 ^ (k - 1) = pow-le-pow_right (omega arith) (omega arith) in
    absurd (omega (arith, h.2 (omega arith), places_hold n)))
    (λ e. e)

-- what `io::decimal` puts of n, k bytes at the start of `row`, is n's decimal
pub put_decimal :
    (n k : ℕ) (row : List ℕ) → IsPrefixLen k row × (IsDigitCount 10 1 n k × (take k row ≡ last_digits 10 k n)) → take k row ≡ decimal n
unfolding decimal
put_decimal n k row h = h.1.1 ∙ ap (λ (p : ℕ). last_digits 10 p n) (fewest_places n k h.1.0)

-- a number below 10^(w+1) has a field of w + 2 bytes at most
pub field_short : (n w : ℕ) → n < 10 ^ suc w → length (field n) ≤ suc (suc w)
unfolding decimal
field_short n w h = omega (arith, digits_length 10 (places n) n, places_few n w h)
