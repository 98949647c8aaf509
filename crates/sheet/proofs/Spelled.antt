-- Numbers spelled low byte first: what eight bytes spell, with zeros past those of the number, and their range. Assumes nothing.
use mathlib.Core.Path.{◌≡◌, refl, ◌∙◌}
use mathlib.Core.List.{List, [], ◌∷◌, ◌++◌}
use Prim.Native.Nat.{ℕ, zero, suc, ◌+◌, ◌-◌, ◌*◌, ◌^◌, ◌≤◌, ◌<◌}
use native.Mathlib.Nat.{pow-suc}
use native.Mathlib.Omega.{arith}
use lib.Dec.{lit<}
use lib.ListN.{length, get_or, take, drop, replicate, length-take, length-drop, drop_of_length-le}
use lib.Seq.{get_or-take, get_or-drop}
use mir.Syntax.{w64}
use Rattle.std.specs.Int.{from_le_bytes}
use Rattle.theory.specs.Lists.{padded}
use Rattle.theory.proofs.Padding.{padded_length}
use Rattle.theory.proofs.FilledRow.{over_row}
use Rattle.sheet.specs.Bytes.{little}

-- one byte more
low_byte : (k : ℕ) (xs : List ℕ) → little (drop k xs) ≡ get_or xs k 0 + 256 * little (drop (suc k) xs)
unfolding little
low_byte zero [] = refl
low_byte zero (x ∷ xs) = refl
low_byte (suc k) [] = refl
low_byte (suc k) (x ∷ xs) = low_byte k xs

eight_spelled : (xs : List ℕ) → length xs ≤ 8 → from_le_bytes w64 xs ≡ little xs
unfolding little
eight_spelled xs few =
    let low = λ (k : ℕ). low_byte k xs in
    let none : little (drop 8 xs) ≡ 0 = rw (drop_of_length-le xs few) in
    omega (arith, low 0, low 1, low 2, low 3, low 4, low 5, low 6, low 7)

little_zeros : (n : ℕ) → little (replicate n 0) ≡ 0
unfolding little
little_zeros zero = refl
little_zeros (suc n) = rw (little_zeros n)

little_padded : (xs : List ℕ) (n : ℕ) → little (xs ++ replicate n 0) ≡ little xs
unfolding little
little_padded [] n = little_zeros n
little_padded (x ∷ xs) n = rw (little_padded xs n)

-- m bytes so far, and a byte b
pub little_range_next : (m v b : ℕ) → v < 256 ^ m → b < 256 → v * 256 + b < 256 ^ suc m
little_range_next m v b hv hb = rw pow-suc (omega arith)

little_range : (xs : List ℕ) → ((i : ℕ) → i < length xs → get_or xs i 0 < 256) → little xs < 256 ^ length xs
unfolding little
little_range [] small = lit< tt
little_range (x ∷ xs) small =
    let rest = little_range xs (λ i h. small (suc i) (omega arith)) in
    let first = small 0 (omega arith) in
    omega (arith, little_range_next (length xs) (little xs) x rest first)

-- k bytes from a place on, copied over the first of eight zeros
module _ (at k : ℕ) (s : List ℕ) (few : k ≤ 8) (there : at + k ≤ length s) where
  part_length : length (take k (drop at s)) ≡ k
  part_length = simp (length-take, length-drop) (omega arith)

  pub copied_spelled : (part : List ℕ) → part ≡ take (at + k - at) (drop at s)
      → from_le_bytes w64 (part ++ drop k (replicate 8 0)) ≡ little (take k (drop at s))
  copied_spelled part is =
      let same : at + k - at ≡ k = omega arith in
      let row : part ++ drop k (replicate 8 0) ≡ padded 8 0 (take k (drop at s)) =
      rw (is, same) (over_row 8 0 (take k (drop at s)) part_length few) in
      let long = padded_length 8 0 (take k (drop at s)) (omega (arith, part_length)) in
      rw row (eight_spelled (padded 8 0 (take k (drop at s))) (omega (arith, long)) ∙ little_padded (take k (drop at s)) _)

  pub part_range : ((i : ℕ) → get_or s i 0 < 256) → little (take k (drop at s)) < 256 ^ k
  part_range small =
      rw part_length at
      (little_range (take k (drop at s))
      (λ i h.
      let below : i < k = omega (arith, part_length) in
      let here : get_or (take k (drop at s)) i 0 ≡ get_or s (at + i) 0 = rw (get_or-take, get_or-drop) in
      rw here (small (at + i))))
