-- Numbers as bytes: how many there are, and that they spell the number; and back. Assumes nothing.
use mathlib.Core.Path.{◌≡◌, refl, ap}
use mathlib.Core.List.{List, [], ◌∷◌, ◌++◌, append_assoc, flat_map}
use Prim.Native.Nat.{ℕ, zero, suc, ◌+◌, ◌*◌, ◌/◌, ◌%◌, ◌^◌, ◌<◌}
use native.Mathlib.Nat.{pow-suc, pow-zero, mul-zero, mul-suc, div-add-mod, mod-eq_of_lt, div-lt_iff_lt-mul}
use native.Mathlib.Omega.{arith}
use lib.Dec.{lit<}
use lib.ListN.{length, get_or, length-append}
use Rattle.sheet.specs.Bytes.{little, bytes_of}
use Rattle.sheet.specs.Typed.{Bits}

pub bytes_length : (k x : ℕ) → length (bytes_of k x) ≡ k
unfolding bytes_of
bytes_length zero x = refl
bytes_length (suc k) x = ap suc (bytes_length k (x / 256))

-- numbers of k bytes each
pub flat_map_length : (k : ℕ) (xs : List ℕ) → length (flat_map (bytes_of k) xs) ≡ k * length xs
unfolding flat_map
flat_map_length k [] = rw mul-zero
flat_map_length k (x ∷ xs) = rw (length-append, bytes_length, flat_map_length k xs, mul-suc) (omega arith)

-- the entries of a list, and then those of another
pub flat_map_append : {A : Type 0} (w : A → List ℕ) (xs ys : List A) → flat_map w (xs ++ ys) ≡ flat_map w xs ++ flat_map w ys
unfolding flat_map
flat_map_append w [] ys = refl
flat_map_append w (x ∷ xs) ys = rw (flat_map_append w xs ys, append_assoc)

pub bytes_little : (k x : ℕ) → x < 256 ^ k → little (bytes_of k x) ≡ x
unfolding bytes_of little
bytes_little zero x h = let none = rw pow-zero at h in omega arith
bytes_little (suc k) x h =
    let less : x < 256 ^ k * 256 = rw pow-suc at h in
    let rest = bytes_little k (x / 256) ((div-lt_iff_lt-mul (lit< tt)).1 less) in
    rw rest (omega (arith, div-add-mod x 256))

pub little_bytes : (xs : List ℕ) → Bits 8 xs → bytes_of (length xs) (little xs) ≡ xs
unfolding bytes_of little
little_bytes [] h = refl
little_bytes (b ∷ xs) h =
    let small = h.0 in
    let low : (b + 256 * little xs) % 256 ≡ b = omega arith in
    let high : (b + 256 * little xs) / 256 ≡ little xs = omega arith in
    rw (low, high, little_bytes xs h.1)

-- names of a byte each are their own bytes
pub bytes_names : (xs : List ℕ) → ((i : ℕ) → i < length xs → get_or xs i 0 < 256) → flat_map (bytes_of 1) xs ≡ xs
unfolding bytes_of flat_map
bytes_names [] small = refl
bytes_names (x ∷ xs) small =
    let first : x % 256 ≡ x = mod-eq_of_lt (small 0 (omega arith)) in
    let rest = bytes_names xs (λ i h. small (suc i) (omega arith)) in
    rw (first, rest)
