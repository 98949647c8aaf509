-- A list in a row of places, with z past it; a row of twenty, with zeros. Assumes nothing.
use mathlib.Core.Path.{◌≡◌, refl, ap, ◌∙◌}
use mathlib.Core.List.{List, [], ◌∷◌, ◌++◌, map, append_assoc, reverse, reverse-cons}
use Prim.Native.Nat.{ℕ, zero, suc, ◌-◌, ◌≤◌, ◌<◌}
use native.Mathlib.Nat.{sub-zero}
use native.Mathlib.Omega.{arith}
use lib.ListN.{length, get_or, set, replicate, length-append, length-replicate, length-map, length-reverse, get_or-append, get_or-map}
use lib.Seq.{set_at, get_or_at, take-append_seam}
use Rattle.theory.specs.Lists.{padded}
use Rattle.theory.specs.Permutation.{row}
use Rattle.theory.specs.Claims.{Padding}
use Rattle.theory.proofs.Cases.{by_le}

-- ---- lists

-- inside a list, what stands past its end does not matter
pub get_or_any : {A : Type 0} (l : List A) (i : ℕ) (d e : A) → i < length l → get_or l i d ≡ get_or l i e
get_or_any [] i d e h = absurd (omega arith)
get_or_any (x ∷ l) zero d e h = refl
get_or_any (x ∷ l) (suc i) d e h = get_or_any l i d e (omega arith)

pub map_set : {A B : Type 0} (f : A → B) (l : List A) (i : ℕ) (a : A) → set (map f l) i (f a) ≡ map f (set l i a)
map_set f [] i a = refl
map_set f (x ∷ l) zero a = refl
map_set f (x ∷ l) (suc i) a = ap (λ (r : List _). f x ∷ r) (map_set f l i a)

-- an entry of a list of n that is turned round
pub reverse_at : {A : Type 0} (l : List A) {n : ℕ} (i : ℕ) (d : A) → length l ≡ n → i < n → get_or (reverse l) i d ≡ get_or l (n - 1 - i) d
reverse_at [] i d size h = absurd (omega arith)
reverse_at (x ∷ l) {n} i d size h =
    let long = length-reverse l in
    rw reverse-cons
    (by_le (length l) i
    (λ last.
    let none : n - 1 - i ≡ 0 = omega arith in
    rw none (get_or_at (reverse l) x [] d i (omega arith)))
    (λ first.
    let back : n - 1 - i ≡ suc (length l - 1 - i) = omega arith in
    rw back (get_or-append (reverse l) (x ∷ []) d i (omega arith) ∙ reverse_at l i d refl first)))

-- ---- a row

module _ {A : Type 0} (room : ℕ) (z : A) where
  pub padded_none : padded room z [] ≡ replicate room z
  padded_none = rw sub-zero

  pub padded_length : (xs : List A) → length xs ≤ room → length (padded room z xs) ≡ room
  padded_length xs h = simp (length-append, length-replicate) (omega arith)

  -- an entry of the list
  pub padded_at : (xs : List A) (i : ℕ) → i < length xs → get_or (padded room z xs) i z ≡ get_or xs i z
  padded_at xs i h = get_or-append xs (replicate (room - length xs) z) z i h

  -- one more, at the first place that is free
  pub padded_snoc : (n : ℕ) (xs : List A) (x : A) → length xs ≡ n → n < room
      → set (padded room z xs) n x ≡ padded room z (xs ++ x ∷ [])
  padded_snoc n xs x long h =
      let left : room - length xs ≡ suc (room - suc (length xs)) = omega arith in
      let used : length (xs ++ x ∷ []) ≡ suc (length xs) = length-append xs (x ∷ []) ∙ omega arith in
      rw (left, set_at xs z (replicate (room - suc (length xs)) z) x n long, used, append_assoc)

-- an entry of a row that holds what f makes of a list
pub padded_map_at : {A B : Type 0} (room : ℕ) (z : B) (f : A → B) (xs : List A) (i : ℕ) (d : B) (e : A) → i < length xs
    → get_or (padded room z (map f xs)) i d ≡ f (get_or xs i e)
padded_map_at room z f xs i d e h =
    let there : i < length (map f xs) = omega (arith, length-map xs f) in
    get_or-append (map f xs) _ d i there ∙ get_or_any (map f xs) i d (f e) there ∙ get_or-map f xs i e

-- ---- a row of twenty

zeros : (n i : ℕ) → ◌≡◌ {A = ℕ} (get_or (replicate n 0) i 0) 0
zeros zero i = refl
zeros (suc n) zero = refl
zeros (suc n) (suc i) = zeros n i

pub zeros_past : (xs : List ℕ) (n i : ℕ) → length xs ≤ i → get_or (xs ++ replicate n 0) i 0 ≡ 0
zeros_past [] n i h = zeros n i
zeros_past (x ∷ xs) n zero h = absurd (omega arith)
zeros_past (x ∷ xs) n (suc i) h = zeros_past xs n i (omega arith)

-- an entry before the zeros
pub row_at_lem : (xs : List ℕ) (i : ℕ) → i < length xs → get_or (row xs) i 0 ≡ get_or xs i 0
row_at_lem = padded_at 20 0

pub padding : (xs : List ℕ) → length xs ≤ 20 → Padding xs
padding xs h =
    record { long = padded_length 20 0 xs h; first = take-append_seam xs (replicate (20 - length xs) 0); past = zeros_past xs (20 - length xs) }
