-- Bytes put piece by piece: nothing, one byte, a piece after another, and the next of a row of pieces. Assumes nothing.
use mathlib.Core.Path.{◌≡◌, refl, sym, ap, ◌∙◌}
use mathlib.Core.List.{List, [], ◌∷◌, ◌++◌, append-nil, append_assoc}
use Prim.Native.Nat.{ℕ, suc, ◌+◌, ◌*◌, ◌≤◌, ◌<◌}
use native.Mathlib.Numerals.{add-one}
use native.Mathlib.Omega.{arith}
use lib.ListN.{length, get_or, take, drop, set, length-append, length-set}
use lib.Seq.{length-take-le, take-length, take_all, take-suc, take-suc-set, take-append_seam, take-append-add, take-take}
use borrow.Rule.Slice.PartMut.{post_of, put_mid}
use Rattle.sheet.specs.Putting.{onto, Puts}

pub puts_nothing : (text : List ℕ) (at : ℕ) → Puts text at text at []
puts_nothing text at = record { end_is = omega arith; long = refl; front = sym (append-nil _) }

pub puts_byte : (text : List ℕ) (at byte : ℕ) → at < length text → Puts text at (set text at byte) (at + 1) (byte ∷ [])
puts_byte text at byte h =
    record { end_is = omega arith; long = length-set text at byte; front = rw (add-one at) (take-suc-set text at byte h) }

-- bytes copied over m of those that stood from a place on
pub puts_copied :
    (a : List ℕ) (at m : ℕ) (xs ys : List ℕ) {r : ℕ} → let b : List ℕ = put_mid at m a ys in
    ys ≡ xs → at ≤ length a → length b ≡ length a → r ≡ at + length xs → Puts a at b r xs
puts_copied a at m xs ys {r} e h long end =
    let rest : List ℕ = post_of at m a in
    let front : take (length (take at a) + length xs) (take at a ++ (ys ++ rest)) ≡ take at a ++ xs =
    take-append-add (take at a) (ys ++ rest) (length xs) ∙ rw (e, take-append_seam xs rest) in
    record { end_is = end; long = long; front = rw end (rw (length-take-le at a h) at front) }

-- one piece after another
pub puts_then :
    {a b c : List ℕ} {at m r : ℕ} {xs ys : List ℕ} → Puts a at b m xs → Puts b m c r ys → Puts a at c r (xs ++ ys)
puts_then {a} {b} {c} {at} {m} {r} {xs} {ys} p q = record {
  end_is = omega (arith, p.end_is, q.end_is, length-append xs ys);
  long = q.long ∙ p.long;
  front = q.front ∙ ap (λ (l : List ℕ). l ++ ys) p.front ∙ append_assoc (take at a) xs ys;
}

-- the first of two pieces alone
pub puts_first : {a b : List ℕ} {at r : ℕ} (xs ys : List ℕ) → Puts a at b r (xs ++ ys) → at ≤ length a → Puts a at b (at + length xs) xs
puts_first {a} {b} {at} {r} xs ys p h =
    let start : length (take at a) ≡ at = length-take-le at a h in
    let fewer : at + length xs ≤ r = omega (arith, p.end_is, length-append xs ys) in
    let front : take (at + length xs) (take at a ++ (xs ++ ys)) ≡ take at a ++ xs =
    rw start at (take-append-add (take at a) (xs ++ ys) (length xs)) ∙ rw (take-append_seam xs ys) in
    record { end_is = refl; long = p.long; front = sym (take-take (at + length xs) r b fewer) ∙ ap (take (at + length xs)) p.front ∙ front }

-- what was put from a page's start, and is then copied to the start of a buffer
module _ {page laid : List ℕ} {end : ℕ} {xs : List ℕ} (p : Puts page 0 laid end xs) where
  pub laid_length : end ≡ length xs
  laid_length = omega (arith, p.end_is)

  pub laid_taken : length (take end laid) ≡ end
  laid_taken = ap length p.front ∙ sym laid_length

  pub laid_onto : (buffer : List ℕ) {after : List ℕ} → after ≡ take (length (take end laid)) (take end laid) ++ drop (length (take end laid)) buffer
      → after ≡ onto xs buffer
  laid_onto buffer e = e ∙ rw (p.front, take-length xs)

-- how a row's pieces make up its text: one more entry is one more piece, which may name the entry's index
pub record Grows {A : Type 0} (text : List A → List ℕ) (piece : ℕ → A → List ℕ) : Type 0 where
  pub none : text [] ≡ []
  pub more : (xs : List A) (x : A) → text (xs ++ x ∷ []) ≡ text xs ++ piece (length xs) x

-- pieces in a row, the first of which has number p
pub grows :
    {A : Type 0} (piece : ℕ → A → List ℕ) (text : ℕ → List A → List ℕ)
    → ((p : ℕ) → text p [] ≡ []) → ((p : ℕ) (x : A) (xs : List A) → text p (x ∷ xs) ≡ piece p x ++ text (suc p) xs)
    → (p : ℕ) → Grows (text p) (λ i. piece (i + p))
grows {A} piece text none cons p = record { none = none p; more = more p }
  where
    more : (p : ℕ) (xs : List A) (x : A) → text p (xs ++ x ∷ []) ≡ text p xs ++ piece (length xs + p) x
    more p [] x = let q : 0 + p ≡ p = omega arith in cc (cons p x [], none p, none (suc p), append-nil (piece p x))
    more p (y ∷ xs) x =
        let q : length xs + suc p ≡ suc (length xs) + p = omega arith in
        cc (cons p y (xs ++ x ∷ []), cons p y xs, more (suc p) xs x, append_assoc (piece p y) (text (suc p) xs) (piece (length xs + suc p) x))

-- the pieces of xs up to index i were put, none longer than `most`
pub record Row {A : Type 0} (text : List A → List ℕ) (xs : List A) (most : ℕ) (before : List ℕ) (at : ℕ) (after : List ℕ) (end i : ℕ) : Type 0 where
  pub few : i ≤ length xs
  pub put : Puts before at after end (text (take i xs))
  pub short : end ≤ at + most * i

module _ {A : Type 0} {text : List A → List ℕ} {piece : ℕ → A → List ℕ} (g : Grows text piece) (xs : List A) (most : ℕ) (a : List ℕ) (at : ℕ) where
  pub row_start : Row text xs most a at a at 0
  row_start = record { few = omega arith; put = rw g.none (puts_nothing a at); short = omega arith }

  pub row_next :
      {b c : List ℕ} {m r i : ℕ} → Row text xs most a at b m i → i < length xs → (d : A)
      → Puts b m c r (piece i (get_or xs i d)) → r ≤ m + most → Row text xs most a at c r (i + 1)
  row_next {b} {c} {m} {r} {i} p h d q l =
      let next : text (take (i + 1) xs) ≡ text (take i xs) ++ piece i (get_or xs i d) =
      rw (add-one i, take-suc xs i d h, g.more (take i xs) (get_or xs i d), length-take-le i xs (omega arith)) in
      record { few = omega arith; put = rw next (puts_then p.put q); short = omega (arith, p.short) }

  pub row_end : {b : List ℕ} {m i : ℕ} → Row text xs most a at b m i → length xs ≤ i → Puts a at b m (text xs)
  row_end {b} {m} {i} p h = rw (take_all i xs h) at p.put
