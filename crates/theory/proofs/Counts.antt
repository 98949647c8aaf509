-- How often a name stands in a list, and the split of a list at a name. Assumes nothing.
use mathlib.Core.Path.{◌≡◌, refl, ap}
use mathlib.Core.Bool.{Bool, cond}
use mathlib.Core.List.{List, [], ◌∷◌, ◌++◌, reverse, reverse-cons}
use Prim.Native.Nat.{ℕ, suc, ◌+◌, ◌≤◌}
use native.Mathlib.Omega.{arith}
use borrow.Author.Tests.{eq-eqb, ne_eqb}
use lib.ListN.{length, length-append, length-reverse}
use Rattle.theory.specs.Lists.{delta, count}
use Rattle.theory.proofs.Cases.{by_name}

pub delta_eq : (a b : ℕ) → a ≡ b → delta a b ≡ 1
unfolding delta
delta_eq a b e = ap (λ (t : Bool). cond t 1 0) (eq-eqb a b e)

pub delta_self : (a : ℕ) → delta a a ≡ 1
delta_self a = delta_eq a a refl

pub delta_ne : (a b : ℕ) → (a ≡ b → ⊥) → delta a b ≡ 0
unfolding delta
delta_ne a b h = ap (λ (t : Bool). cond t 1 0) (ne_eqb a b h)

pub count_append : (c : ℕ) (xs ys : List ℕ) → count c (xs ++ ys) ≡ count c xs + count c ys
count_append c [] ys = omega arith
count_append c (x ∷ xs) ys = omega (arith, count_append c xs ys)

pub count_reverse : (c : ℕ) (xs : List ℕ) → count c (reverse xs) ≡ count c xs
count_reverse c [] = refl
count_reverse c (x ∷ xs) =
    omega (arith, ap (count c) (reverse-cons x xs), count_append c (reverse xs) (x ∷ []), count_reverse c xs)

-- a list that has a name, split at the name's first place
pub record Split (c : ℕ) (xs : List ℕ) : Type 0 where
  pub above : List ℕ
  pub below : List ℕ
  pub parts : xs ≡ above ++ c ∷ below
  pub first : count c above ≡ 0

pub split : (c : ℕ) (xs : List ℕ) → 1 ≤ count c xs → Split c xs
split c [] h = absurd (omega arith)
split c (x ∷ xs) h =
    by_name x c
    (λ q e. record { above = []; below = xs; parts = ap (λ (y : ℕ). y ∷ xs) q; first = refl })
    (λ ne e.
    let s : Split c xs = split c xs (omega (arith, delta_ne x c ne)) in
    record {
      above = x ∷ s.above;
      below = s.below;
      parts = ap (λ (ys : List ℕ). x ∷ ys) s.parts;
      first = omega (arith, delta_ne x c ne, s.first);
    })

-- `Adds x ys xs`: xs has the names of ys, and x once more
pub record Adds (x : ℕ) (ys xs : List ℕ) : Type 0 where
  pub longer : length xs ≡ suc (length ys)
  pub more : (c : ℕ) → count c xs ≡ delta x c + count c ys

pub adds_top : (x : ℕ) (ys : List ℕ) → Adds x ys (x ∷ ys)
adds_top x ys = record { longer = refl; more = λ c. refl }

pub adds_under : {x y : ℕ} {ys xs : List ℕ} → Adds x ys xs → Adds x (y ∷ ys) (y ∷ xs)
adds_under a = record { longer = omega (arith, a.longer); more = λ c. omega (arith, a.more c) }

pub adds_between : {x : ℕ} {xs : List ℕ} (u v : List ℕ) → xs ≡ u ++ x ∷ v → Adds x (u ++ v) xs
adds_between {x} u v e = record {
  longer = omega (arith, ap length e, length-append u (x ∷ v), length-append u v);
  more = λ c. omega (arith, ap (count c) e, count_append c u (x ∷ v), count_append c u v);
}

pub adds_reversed : {x : ℕ} {xs : List ℕ} (u v : List ℕ) → xs ≡ u ++ x ∷ v → Adds x (reverse u ++ reverse v) xs
adds_reversed {x} u v e = record {
  longer = omega (
    arith,
    ap length e,
    length-append u (x ∷ v),
    length-append (reverse u) (reverse v),
    length-reverse u,
    length-reverse v,
  );
  more = λ c. omega (
    arith,
    ap (count c) e,
    count_append c u (x ∷ v),
    count_append c (reverse u) (reverse v),
    count_reverse c u,
    count_reverse c v,
  );
}
