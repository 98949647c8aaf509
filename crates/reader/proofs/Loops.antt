-- A loop that reads `count` values by p from a place on, and holds them at the front of a row of `room` places, with z past them. Assumes nothing.
use mathlib.Core.Path.{◌≡◌, refl, sym, ◌∙◌}
use mathlib.Core.List.{List, [], ◌∷◌, ◌++◌, map, map-append, append_assoc, append-nil}
use Prim.Native.Nat.{ℕ, suc, ◌+◌, ◌-◌, ◌≤◌, ◌<◌}
use native.Mathlib.Nat.{sub-zero, sub_self}
use native.Mathlib.Omega.{arith}
use lib.ListN.{length, take, drop, set, replicate, length-append, length-map, length-replicate}
use Rattle.std.proofs.lemmas.List.{take-replicate}
use Rattle.theory.specs.Lists.{padded}
use Rattle.theory.proofs.FilledRow.{over_row}
use Rattle.theory.proofs.Padding.{padded_none, padded_snoc}
use Rattle.sheet.specs.Bytes.{Fault, Got, fault, got, after, many}

-- what was read before, in front of what is read
unfoldable pub behind : {A : Type 0} → List A → Got (List A) → Got (List A)
behind xs (fault f) = fault f
behind xs (got ys end) = got (xs ++ ys) end

module _ {A : Type 0} where
  behind_none : (o : Got (List A)) → o ≡ behind [] o
  unfolding behind
  behind_none (fault f) = refl
  behind_none (got ys end) = refl

  behind_one : (xs : List A) (x : A) (o : Got (List A)) → behind xs (after o (λ ys end. got (x ∷ ys) end)) ≡ behind (xs ++ x ∷ []) o
  unfolding behind after
  behind_one xs x (fault f) = refl
  behind_one xs x (got ys end) = rw append_assoc

module _ {A : Type 0} (p : ℕ → Got A) where
  many_more : (n at : ℕ) (xs : List A) (x : A) (next : ℕ) → p at ≡ got x next
      → behind xs (many (suc n) p at) ≡ behind (xs ++ x ∷ []) (many n p next)
  unfolding many after
  many_more n at xs x next e = rw e (behind_one xs x (many n p next))

  many_stop : (n at : ℕ) (xs : List A) (f : Fault) → p at ≡ fault f → behind xs (many (suc n) p at) ≡ fault f
  unfolding many after behind
  many_stop n at xs f e = rw e

module _ {A B : Type 0} (hold : A → B) (room : ℕ) (z : B) (p : ℕ → Got A) (count from : ℕ) where
  -- after i turns: the row holds what was read, and the rest is read from `at` on
  pub record Turns (row : List B) (at i : ℕ) : Type 0 where
    pub within : i ≤ count
    pub read : List A
    pub long : length read ≡ i
    pub front : row ≡ padded room z (map hold read)
    pub whole : many count p from ≡ behind read (many (count - i) p at)

  turns_none : Turns (replicate room z) from 0
  turns_none =
      record {
        within = omega arith;
        read = [];
        long = refl;
        front = sym (padded_none room z);
        whole = rw sub-zero (behind_none (many count p from));
      }

module _ {A B : Type 0} {hold : A → B} {room : ℕ} {z : B} {p : ℕ → Got A} {count from : ℕ} {row : List B} {at i : ℕ}
    (t : Turns hold room z p count from row at i) where
  module _ (more : i < count) where
    pub turns_more : count ≤ room → (x : A) (end : ℕ) → p at ≡ got x end → (y : B) (next : ℕ) → y ≡ hold x → next ≡ end
        → Turns hold room z p count from (set row i y) next (i + 1)
    turns_more fits x end e y next h far =
        let read = t.read in
        let long = t.long in
        let left : count - i ≡ suc (count - (i + 1)) = omega arith in
        let held : length (map hold read) ≡ i = length-map read hold ∙ long in
        record {
          within = omega arith;
          read = read ++ x ∷ [];
          long = length-append read (x ∷ []) ∙ omega arith;
          front = rw (t.front, padded_snoc room z i (map hold read) y held (omega arith), h, map-append hold read);
          whole = t.whole ∙ rw (left, far) (many_more p (count - (i + 1)) at read x end e);
        }

    pub turns_stop : (f : Fault) → p at ≡ fault f → many count p from ≡ fault f
    turns_stop f e =
        let left : count - i ≡ suc (count - (i + 1)) = omega arith in
        t.whole ∙ rw left (many_stop p (count - (i + 1)) at t.read f e)

  module _ (done : count ≤ i) where
    all : i ≡ count
    all = omega (arith, t.within)

    pub turns_all : many count p from ≡ got t.read at
    unfolding many behind
    turns_all = (rw (all, sub_self) at t.whole) ∙ rw append-nil

    pub turns_long : length t.read ≡ count
    turns_long = t.long ∙ all

-- in the first `count` places of a longer row, past which z stands too
module _ {B : Type 0} {room : ℕ} {z : B} {row : List B} (blank : row ≡ replicate room z) {count : ℕ} (few : count ≤ room) where
  pub turns_start : {A : Type 0} (hold : A → B) (p : ℕ → Got A) (from : ℕ) → Turns hold count z p count from (take count row) from 0
  turns_start hold p from = rw (blank, take-replicate) (turns_none hold count z p count from)

  pub turns_row : {A : Type 0} {hold : A → B} {p : ℕ → Got A} {from at i : ℕ} {part : List B} (t : Turns hold count z p count from part at i) → count ≤ i
      → part ++ drop count row ≡ padded room z (map hold t.read)
  turns_row {hold} {part} t done =
      let long : length (map hold t.read) ≡ count = length-map t.read hold ∙ turns_long t done in
      let whole : part ≡ map hold t.read = t.front ∙ rw (long, sub_self, append-nil) in
      rw (whole, blank) (over_row room z (map hold t.read) long few)

pub front_long : {B : Type 0} {room : ℕ} (z : B) {row : List B} {count : ℕ} → row ≡ replicate room z → count ≤ room → length (take count row) ≡ count
front_long z blank few = rw (blank, take-replicate, length-replicate)
