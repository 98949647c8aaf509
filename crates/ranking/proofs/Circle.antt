-- The circle of the cells, read from a gap on, and its largest cell: its digit, what is left, and how it is put in again. Assumes nothing.
use mathlib.Core.Path.{◌≡◌, refl, sym, ap, ap₂, ◌∙◌}
use mathlib.Core.Bool.{Bool, true, false, not}
use mathlib.Core.List.{List, ◌∷◌, ◌++◌, reverse, reverse-append, reverse-reverse, append_assoc}
use Prim.Native.Nat.{ℕ, suc, ◌+◌, ◌-◌, ◌≤◌, ◌<◌}
use native.Mathlib.Omega.{arith}
use borrow.Author.Tests.{le-leb, lt-leb, lt-ltb, le-ltb}
use lib.ListN.{length, take, drop, length-append, length-reverse, length-drop, take-append-drop}
use lib.Seq.{take_at, drop_at, take-append-le, drop-append-le, take-append-add, drop-append-add, length-take-le}
use Rattle.theory.specs.Lists.{count}
use Rattle.theory.specs.Rank.{digit, digits}
use Rattle.theory.specs.Unrank.{insert_at}
use Rattle.theory.proofs.Cases.{by_le}
use Rattle.theory.proofs.Counts.{count_append, count_reverse}
use Rattle.theory.proofs.Splits.{place_is, remaining_is}
use Rattle.theory.proofs.Moves.{reverse_split}
use Rattle.ranking.specs.BySpots.{passed}

-- the circle K of cells, read from the gap before its index s on: down the places (true), or up
unfoldable pub around : Bool → ℕ → List ℕ → List ℕ
around true s K = drop s K ++ take s K
around false s K = reverse (take s K) ++ reverse (drop s K)

up_around : (s : ℕ) (K : List ℕ) → around false s K ≡ reverse (around true s K)
unfolding around
up_around s K = sym (reverse-append (drop s K) (take s K))

gap : (a b : List ℕ) → around true (length a) (a ++ b) ≡ b ++ a
unfolding around
gap a b = ap₂ (λ (x y : List ℕ). x ++ y) (drop_at a b (length a) refl) (take_at a b (length a) refl)

-- ---- a row, split at its largest cell

-- in xs k cells stand before c, and ys are the others, turned round as `remaining` does
record Reached (c : ℕ) (xs ys : List ℕ) (k : ℕ) : Type 0 where
  before : List ℕ
  after : List ℕ
  parts : xs ≡ before ++ c ∷ after
  first : count c before ≡ 0
  passes : length before ≡ k
  others : ys ≡ reverse before ++ reverse after

reached_digits : (m k : ℕ) (xs ys : List ℕ) → Reached (suc m) xs ys k → digits (suc m) xs ≡ digit (suc m) (k + 1) ∷ digits m ys
unfolding digits
reached_digits m k xs ys h =
    let p = place_is (suc m) h.before h.after h.parts h.first in
    ap₂ (λ (i : ℕ) (l : List ℕ). digit (suc m) i ∷ digits m l) (p ∙ omega (arith, h.passes))
    (remaining_is (suc m) h.before h.after h.parts p ∙ sym h.others)

reached_insert : (c k : ℕ) (xs ys : List ℕ) → Reached c xs ys k → insert_at c (k + 1) ys ≡ xs
unfolding insert_at
reached_insert c k xs ys h =
    let u = reverse h.before in
    let v = reverse h.after in
    let long : length u ≡ k + 1 - 1 = omega (arith, length-reverse h.before, h.passes) in
    rw (h.others, take_at u v (k + 1 - 1) long, drop_at u v (k + 1 - 1) long, reverse-reverse h.before, reverse-reverse h.after)
    (sym h.parts)

-- ---- the circle with its largest cell between a and b, read from the gap s on

-- read down the places, it has `before` and `after` that cell; from that cell on, once around, it has b and a
record Halves (m : ℕ) (a b : List ℕ) (s : ℕ) : Type 0 where
  before : List ℕ
  after : List ℕ
  parts : around true s (a ++ suc m ∷ b) ≡ before ++ suc m ∷ after
  circle : after ++ before ≡ b ++ a
  passes : length before ≡ passed true (suc m) s (length a)
  leaves : length after ≡ passed false (suc m) s (length a)

module _ (m : ℕ) (a b : List ℕ) (long : length a + length b ≡ m) where
  -- the gap is above the cell
  above : (s : ℕ) → s ≤ length a → Halves m a b s
  unfolding around passed
  above s l = record {
    before = drop s a;
    after = b ++ take s a;
    parts = rw (drop-append-le s a (suc m ∷ b) l, take-append-le s a (suc m ∷ b) l) (append_assoc (drop s a) (suc m ∷ b) (take s a));
    circle = rw (append_assoc b (take s a) (drop s a), take-append-drop s a);
    passes = rw (le-leb s (length a) l) (length-drop s a);
    leaves = rw (le-ltb (length a) s l) (omega (arith, length-append b (take s a), length-take-le s a l));
  }

  -- it is below the cell, past t others
  below : (s t : ℕ) → s ≡ length a + suc t → t ≤ length b → Halves m a b s
  unfolding around passed
  below s t e l =
      let lt : length a < s = omega arith in
      record {
        before = drop t b ++ a;
        after = take t b;
        parts =
            rw (e, drop-append-add a (suc m ∷ b) (suc t), take-append-add a (suc m ∷ b) (suc t))
            (sym (append_assoc (drop t b) a (suc m ∷ take t b)));
        circle = rw (← append_assoc (take t b) (drop t b) a, take-append-drop t b);
        passes = rw (lt-leb s (length a) lt) (omega (arith, length-append (drop t b) a, length-drop t b));
        leaves = rw (lt-ltb (length a) s lt) (length-take-le t b l ∙ omega arith);
      }

  halves : (s : ℕ) → s ≤ suc m → Halves m a b s
  halves s h = by_le s (length a) (above s) (λ l. below s (s - suc (length a)) (omega arith) (omega arith))

module _ (m : ℕ) (a b : List ℕ) (ha : count (suc m) a ≡ 0) (hb : count (suc m) b ≡ 0) (long : length a + length b ≡ m) (s : ℕ) (hs : s ≤ suc m) where
  h : Halves m a b s
  h = halves m a b long s hs

  none : count (suc m) h.after + count (suc m) h.before ≡ 0
  none = sym (count_append (suc m) h.after h.before) ∙ ap (count (suc m)) h.circle ∙ count_append (suc m) b a ∙ omega arith

  -- read up the places, the two parts change roles
  reached : (down : Bool) → Reached (suc m) (around down s (a ++ suc m ∷ b)) (around (not down) (length a) (a ++ b)) (passed down (suc m) s (length a))
  reached true = record {
    before = h.before;
    after = h.after;
    parts = h.parts;
    first = omega (arith, none);
    passes = h.passes;
    others = up_around (length a) (a ++ b) ∙ ap reverse (gap a b ∙ sym h.circle) ∙ reverse-append h.after h.before;
  }
  reached false = record {
    before = reverse h.after;
    after = reverse h.before;
    parts = up_around s (a ++ suc m ∷ b) ∙ ap reverse h.parts ∙ reverse_split h.before (suc m) h.after;
    first = omega (arith, none, count_reverse (suc m) h.after);
    passes = length-reverse h.after ∙ h.leaves;
    others = rw (reverse-reverse h.after, reverse-reverse h.before) (gap a b ∙ sym h.circle);
  }

pub digits_around :
    (down : Bool) (m : ℕ) (a b : List ℕ) → count (suc m) a ≡ 0 → count (suc m) b ≡ 0 → length a + length b ≡ m → (s : ℕ) → s ≤ suc m
    → digits (suc m) (around down s (a ++ suc m ∷ b))
    ≡ digit (suc m) (passed down (suc m) s (length a) + 1) ∷ digits m (around (not down) (length a) (a ++ b))
digits_around down m a b ha hb long s hs = reached_digits m _ _ _ (reached m a b ha hb long s hs down)

pub insert_around :
    (down : Bool) (m : ℕ) (a b : List ℕ) → count (suc m) a ≡ 0 → count (suc m) b ≡ 0 → length a + length b ≡ m → (s : ℕ) → s ≤ suc m
    → insert_at (suc m) (passed down (suc m) s (length a) + 1) (around (not down) (length a) (a ++ b)) ≡ around down s (a ++ suc m ∷ b)
insert_around down m a b ha hb long s hs = reached_insert (suc m) _ _ _ (reached m a b ha hb long s hs down)
