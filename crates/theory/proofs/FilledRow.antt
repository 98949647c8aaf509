-- A loop that fills a row from its front: the row is what it was, with the first i entries of a goal over its start. Assumes nothing.
use mathlib.Core.Path.{◌≡◌, refl, sym, ap, ◌∙◌}
use mathlib.Core.List.{List, ◌++◌}
use Prim.Native.Nat.{ℕ, ◌+◌, ◌-◌, ◌≤◌, ◌<◌}
use native.Mathlib.Numerals.{add-one}
use native.Mathlib.Omega.{arith}
use lib.ListN.{length, get_or, drop, set, replicate, length-set, length-replicate, replicate-append-replicate}
use lib.Seq.{drop_at, take_all, paste, paste-zero, paste-suc}
use Rattle.theory.specs.Lists.{padded}

module _ {A : Type 0} where
  pub record Filled (before goal : List A) (n : ℕ) (row : List A) (i : ℕ) : Type 0 where
    pub size : length goal ≡ n
    pub room : n ≤ length before
    pub within : i ≤ n
    pub long : length row ≡ length before
    pub is : row ≡ paste before 0 goal i

  pub filled_none : {before goal : List A} {n : ℕ} → length goal ≡ n → n ≤ length before → Filled before goal n before 0
  filled_none {before} {goal} size room =
      record { size = size; room = room; within = omega arith; long = refl; is = paste-zero before 0 goal }

  module _ {before goal : List A} {n : ℕ} {row : List A} {i : ℕ} (v : Filled before goal n row i) where
    pub filled_more : i < n → {x : A} (z : A) → x ≡ get_or goal i z → Filled before goal n (set row i x) (i + 1)
    filled_more more {x} z e =
        let here : 0 + i ≡ i = omega arith in
        let next = paste-suc before 0 goal i z (omega (arith, v.room)) (omega (arith, v.size)) in
        record { size = v.size; room = v.room; within = omega arith; long = length-set row i x ∙ v.long; is = cc (add-one i, next) }

    pub filled_all : n ≤ i → row ≡ goal ++ drop n before
    filled_all all =
        let last : 0 + i ≡ n = omega (arith, v.within) in
        v.is ∙ rw (last, take_all i goal (omega (arith, v.size)))

-- ---- a row of z's

module _ {A : Type 0} (room : ℕ) (z : A) where
  -- past a list that lies over its start
  pub over_row : (xs : List A) {n : ℕ} → length xs ≡ n → n ≤ room → xs ++ drop n (replicate room z) ≡ padded room z xs
  over_row xs {n} long few =
      let split : room ≡ n + (room - n) = omega arith in
      let parts : replicate room z ≡ replicate n z ++ replicate (room - n) z =
      ap (λ (k : ℕ). replicate k z) split ∙ sym (replicate-append-replicate n (room - n) z) in
      rw long (ap (λ (l : List A). xs ++ l) (ap (drop n) parts ∙ drop_at (replicate n z) (replicate (room - n) z) n (length-replicate n z)))

  pub row_none : {goal : List A} {n : ℕ} → length goal ≡ n → n ≤ room → Filled (replicate room z) goal n (replicate room z) 0
  row_none size fits = filled_none size (omega (arith, length-replicate room z))

  pub row_all : {goal : List A} {n : ℕ} {row : List A} {i : ℕ} → Filled (replicate room z) goal n row i → n ≤ i → row ≡ padded room z goal
  row_all {goal} v all = filled_all v all ∙ over_row goal v.size (omega (arith, v.room, length-replicate room z))
