-- A spot is below its cell, and the digits by spots are the permutation's digits. Assumes nothing.
use mathlib.Core.Path.{◌≡◌, refl, ap, sym, ◌∙◌}
use mathlib.Core.Bool.{Bool, true, false, not}
use mathlib.Core.List.{List, [], ◌∷◌, ◌++◌, append-nil}
use Prim.Native.Nat.{ℕ, zero, suc, ◌+◌, ◌-◌, ◌≤◌, ◌<◌}
use native.Mathlib.Nat.{le_refl, sub-zero, sub_self}
use native.Mathlib.Numerals.{sub-one}
use native.Mathlib.Omega.{arith}
use borrow.Author.Tests.{ne_eqb, lt-ltb, le-ltb, le-leb, lt-leb}
use lib.ListN.{length, get_or, take, drop, set, replicate, take-append-drop}
use lib.Seq.{append_snoc, take-suc-set, drop-set-lt}
use Rattle.theory.specs.Lists.{count}
use Rattle.theory.specs.Permutation.{IsPermutation, row}
use Rattle.theory.specs.Rank.{digit, digits}
use Rattle.theory.proofs.Cases.{by_name, by_le}
use Rattle.theory.proofs.Counts.{delta_self, count_append, adds_between}
use Rattle.theory.proofs.Permutations as permutations
use Rattle.theory.proofs.Permutations.{Around, inside, removed}
use Rattle.theory.proofs.Ranking.{digits_long}
use Rattle.theory.proofs.FilledRow.{over_row}
use Rattle.permutation.specs.Spots.{spot, HasSpots}
use Rattle.permutation.proofs.Spots.{under, spot_first}
use Rattle.ranking.specs.BySpots.{Low, passed, read_digits, read_into}
use Rattle.ranking.proofs.Circle.{around, digits_around}

-- ---- spots

under_all : (c : ℕ) (xs : List ℕ) → ((x : ℕ) → 1 ≤ count x xs → x < c) → under c xs ≡ length xs
unfolding under
under_all c [] h = refl
under_all c (x ∷ xs) h =
    rw (lt-ltb x c (h x (omega (arith, delta_self x)))) (omega (arith, under_all c xs (λ y l. h y (omega arith))))

-- a larger cell plays no part
spot_without : (c x : ℕ) (u v : List ℕ) → c < x → spot c (u ++ x ∷ v) ≡ spot c (u ++ v)
unfolding spot
spot_without c x [] v h = rw (ne_eqb x c (λ e. omega arith), le-ltb x c (omega arith)) (omega arith)
spot_without c x (y ∷ u) v h = rw (spot_without c x u v h)

-- ---- a permutation, split at its largest cell
module _ {m : ℕ} {xs : List ℕ} (o : IsPermutation (suc m) xs) (k : Around m xs) where
  spot_largest : spot (suc m) xs ≡ length k.above
  spot_largest =
      let a : List ℕ = k.above in
      let b : List ℕ = k.below in
      let less : (x : ℕ) → 1 ≤ count x a → x < suc m =
      λ x l. by_name x (suc m)
      (λ q e. absurd (omega (arith, ap (λ (y : ℕ). count y a) q)))
      (λ ne e. omega (arith, ne, inside (suc m) xs o x (omega (arith, ap (count x) k.parts, count_append x a (suc m ∷ b))))) in
      ap (spot (suc m)) k.parts ∙ spot_first (suc m) a b k.none_above ∙ under_all (suc m) a less

  spot_others : (c : ℕ) → c ≤ m → spot c xs ≡ spot c (k.above ++ k.below)
  spot_others c h = ap (spot c) k.parts ∙ spot_without c (suc m) k.above k.below (omega arith)

  others : IsPermutation m (k.above ++ k.below)
  others = removed (adds_between k.above k.below k.parts) o

-- the spot of a cell is below it
spot_low : (n : ℕ) (xs : List ℕ) → IsPermutation n xs → (c : ℕ) → 1 ≤ c → c ≤ n → spot c xs < c
spot_low zero xs o c low high = absurd (omega arith)
spot_low (suc m) xs o c low high =
    let k : Around m xs = permutations.around o in
    by_name c (suc m)
    (λ q e. rw q (omega (arith, spot_largest o k)))
    (λ ne e.
    let in_others : c ≤ m = omega (arith, ne) in
    omega (arith, spot_others o k c in_others, spot_low m (k.above ++ k.below) (others o k) c low in_others))

pub spots_low : {n : ℕ} {xs spots : List ℕ} → n ≤ 20 → IsPermutation n xs → HasSpots xs n spots → Low spots n
spots_low {n} {xs} few o h = record {
  few = few;
  low = λ c low high. omega (arith, h.each c low high, spot_low n xs o c low high);
}

-- ---- the digits by spots

-- the permutation's digits, read around from the gap s on
read_around :
    (down : Bool) (m s : ℕ) (xs spots : List ℕ) → IsPermutation m xs → HasSpots xs m spots → s ≤ m
    → read_digits down m s spots ≡ digits m (around down s xs)
unfolding read_digits digits
read_around down zero s xs spots o h le = refl
read_around down (suc m) s xs spots o h le =
    let k : Around m xs = permutations.around o in
    let a : List ℕ = k.above in
    let b : List ℕ = k.below in
    let j : get_or spots (suc m) 0 ≡ length a = h.each (suc m) (omega arith) (omega arith) ∙ spot_largest o k in
    let less : HasSpots (a ++ b) m spots = record { each = λ c low high. h.each c low (omega arith) ∙ spot_others o k c high } in
    let rest : read_digits (not down) m (length a) spots ≡ digits m (around (not down) (length a) (a ++ b)) =
    read_around (not down) m (length a) (a ++ b) spots (others o k) less (omega arith) in
    let turn = digits_around down m a b k.none_above k.none_below k.sizes s le in
    cc (ap (λ (l : List ℕ). digits (suc m) (around down s l)) k.parts)

read_digits_lem : {n : ℕ} {xs spots : List ℕ} → IsPermutation n xs → HasSpots xs n spots → read_digits true n 0 spots ≡ digits n xs
unfolding around
read_digits_lem {n} {xs} {spots} o h = read_around true n 0 xs spots o h (omega arith) ∙ ap (digits n) (append-nil xs)

-- the row that the reader leaves of zeros
pub read_row :
    {n : ℕ} {xs spots left : List ℕ} → n ≤ 20 → IsPermutation n xs → HasSpots xs n spots
    → left ≡ read_into true n n 0 spots (replicate 20 0) → left ≡ row (digits n xs)
read_row {n} {xs} few o h e = e ∙ rw (sub_self, read_digits_lem o h) (over_row 20 0 (digits n xs) (digits_long n xs) few)

-- ---- a turn of a reader: cell m's digit goes to index n - m of the row, and the other reader does the rest
pub low_less : {spots : List ℕ} {m : ℕ} → Low spots m → Low spots (m - 1)
low_less h = record { few = omega arith; low = λ c low high. h.low c low (omega arith) }

pub spot_below : {spots : List ℕ} {m j : ℕ} → Low spots m → 1 ≤ m → j ≡ get_or spots m 0 → j < m
spot_below {spots} {m} h pos e = omega (arith, h.low m pos (le_refl m))

pub passed_below : (down : Bool) (m s j : ℕ) → s ≤ m → j < m → passed down m s j < m
unfolding passed
passed_below true m s j le lt = by_le s j (λ l. rw (le-leb s j l) (omega arith)) (λ l. rw (lt-leb s j l) (omega arith))
passed_below false m s j le lt = by_le s j (λ l. rw (le-ltb j s l) (omega arith)) (λ l. rw (lt-ltb j s l) (omega arith))

pub read_turn :
    (down : Bool) (n m s j p d : ℕ) (spots row left : List ℕ) → 1 ≤ m → m ≤ n → n ≤ length row
    → j ≡ get_or spots m 0 → p ≡ passed down m s j → d ≡ digit m (p + 1) → left ≡ read_into (not down) n (m - 1) j spots (set row (n - m) d)
    → left ≡ read_into down n m s spots row
unfolding read_digits
read_turn down n zero s j p d spots row left pos le long at far is h = absurd (omega arith)
read_turn down n (suc m) s j p d spots row left pos le long at far is h =
    let i : ℕ = n - suc m in
    let next : n - (suc m - 1) ≡ suc i = omega arith in
    let in_row : i < length row = omega arith in
    let lt : i < n = omega arith in
    h
    ∙ rw (next, take-suc-set row i d in_row, drop-set-lt n row i d lt, sub-one, ← at, ← far, ← is)
    (append_snoc (take i row) d (read_digits (not down) m j spots ++ drop n row))

pub read_none : (down : Bool) (n m s : ℕ) (spots row : List ℕ) → m ≤ 0 → row ≡ read_into down n m s spots row
unfolding read_digits
read_none down n zero s spots row h = rw sub-zero (sym (take-append-drop n row))
read_none down n (suc m) s spots row h = absurd (omega arith)
