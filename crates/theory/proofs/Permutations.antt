-- Permutations with one cell more or less, that they have no other cells than 1 to n, and their split at the largest cell. Assumes nothing.
use mathlib.Core.Path.{◌≡◌, refl, sym, ◌∙◌}
use mathlib.Core.List.{List, [], ◌∷◌, ◌++◌, reverse}
use Prim.Native.Nat.{ℕ, zero, suc, ◌+◌, ◌≤◌, ◌<◌}
use native.Mathlib.Omega.{arith}
use lib.ListN.{length, length-append, length-reverse}
use Rattle.theory.specs.Lists.{count}
use Rattle.theory.specs.Permutation.{IsPermutation}
use Rattle.theory.proofs.Cases.{by_name, by_le}
use Rattle.theory.proofs.Counts.{delta_eq, delta_self, delta_ne, count_append, count_reverse, Split, split, Adds, adds_between, adds_reversed}

-- the same cells in another sequence
pub moved : {x : ℕ} {ys xs zs : List ℕ} {n : ℕ} → Adds x ys xs → Adds x ys zs → IsPermutation n xs → IsPermutation n zs
moved a b o = record {
  long = omega (arith, a.longer, b.longer, o.long);
  once = λ c low high. omega (arith, a.more c, b.more c, o.once c low high);
}

-- without its largest cell
pub removed : {m : ℕ} {ys xs : List ℕ} → Adds (suc m) ys xs → IsPermutation (suc m) xs → IsPermutation m ys
removed {m} a o = record {
  long = omega (arith, a.longer, o.long);
  once = λ c low high. omega (arith, a.more c, o.once c low (omega arith), delta_ne (suc m) c (λ e. omega arith));
}

pub empty : IsPermutation 0 []
empty = record { long = refl; once = λ c low high. absurd (omega arith) }

-- there are no other cells than 1 to n
pub inside : (n : ℕ) (xs : List ℕ) → IsPermutation n xs → (c : ℕ) → 1 ≤ count c xs → (1 ≤ c) × (c ≤ n)
inside zero [] o c h = absurd (omega arith)
inside zero (x ∷ xs) o c h = absurd (omega (arith, o.long))
inside (suc m) xs o c h =
    let s : Split (suc m) xs = split (suc m) xs (omega (arith, o.once (suc m) (omega arith) (omega arith))) in
    let a : Adds (suc m) (s.above ++ s.below) xs = adds_between s.above s.below s.parts in
    by_name (suc m) c
    (λ q e. (omega arith, omega arith))
    (λ ne e.
    let i : (1 ≤ c) × (c ≤ m) = inside m (s.above ++ s.below) (removed a o) c (omega (arith, a.more c, delta_ne (suc m) c ne)) in
    (i.0, omega arith))

-- a name that is no cell does not stand there
pub absent : {n : ℕ} {xs : List ℕ} → IsPermutation n xs → (c : ℕ) → ((1 ≤ c) × (c ≤ n) → ⊥) → count c xs ≡ 0
absent {n} {xs} o c h = by_le 1 (count c xs) (λ l. absurd (h (inside n xs o c l))) (λ l. omega arith)

pub absent_zero : {n : ℕ} {xs : List ℕ} → IsPermutation n xs → count 0 xs ≡ 0
absent_zero o = absent o 0 (λ b. omega (arith, b.0))

pub absent_past : {n : ℕ} {xs : List ℕ} → IsPermutation n xs → (c : ℕ) → n < c → count c xs ≡ 0
absent_past o c h = absent o c (λ b. omega (arith, b.1))

-- with one cell more
pub added : {m : ℕ} {ys xs : List ℕ} → Adds (suc m) ys xs → IsPermutation m ys → IsPermutation (suc m) xs
added {m} {ys} {xs} a o = record {
  long = omega (arith, a.longer, o.long);
  once = λ c low high.
      by_name (suc m) c
      (λ q e. omega (arith, a.more c, delta_eq (suc m) c q, absent_past o c (omega arith)))
      (λ ne e. omega (arith, a.more c, delta_ne (suc m) c ne, o.once c low (omega arith)));
}

pub counts_agree : {n : ℕ} {xs ys : List ℕ} → IsPermutation n xs → IsPermutation n ys → (c : ℕ) → count c xs ≡ count c ys
counts_agree {n} o p c =
    by_le 1 c
    (λ low. by_le c n
    (λ high. o.once c low high ∙ sym (p.once c low high))
    (λ past. absent_past o c past ∙ sym (absent_past p c past)))
    (λ none. let out : (1 ≤ c) × (c ≤ n) → ⊥ = λ b. omega (arith, b.0) in absent o c out ∙ sym (absent p c out))

-- a permutation, split at its largest cell
pub record Around (m : ℕ) (xs : List ℕ) : Type 0 where
  pub above : List ℕ
  pub below : List ℕ
  pub parts : xs ≡ above ++ suc m ∷ below
  pub none_above : count (suc m) above ≡ 0
  pub none_below : count (suc m) below ≡ 0
  pub sizes : length above + length below ≡ m
  pub others : IsPermutation m (reverse above ++ reverse below)

pub around : {m : ℕ} {xs : List ℕ} → IsPermutation (suc m) xs → Around m xs
around {m} {xs} o =
    let k : count (suc m) xs ≡ 1 = o.once (suc m) (omega arith) (omega arith) in
    let s : Split (suc m) xs = split (suc m) xs (omega arith) in
    let u : List ℕ = s.above in
    let v : List ℕ = s.below in
    let a : Adds (suc m) (reverse u ++ reverse v) xs = adds_reversed u v s.parts in
    record {
      above = u;
      below = v;
      parts = s.parts;
      none_above = s.first;
      none_below = omega (
        arith,
        a.more (suc m),
        delta_self (suc m),
        count_append (suc m) (reverse u) (reverse v),
        count_reverse (suc m) v,
      );
      sizes = omega (arith, o.long, a.longer, length-append (reverse u) (reverse v), length-reverse u, length-reverse v);
      others = removed a o;
    }
