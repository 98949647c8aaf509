-- The three ways in which a step moves the cells of a permutation of m + 1 cells. Assumes nothing.
use mathlib.Core.Path.{◌≡◌, refl, sym, ap, ◌∙◌}
use mathlib.Core.Logic.{◌⊎◌, inl, inr, ⊎_elim}
use mathlib.Core.List.{List, [], ◌∷◌, ◌++◌, reverse, append_assoc, append-nil, reverse-cons, reverse-append}
use Prim.Native.Nat.{ℕ, suc, ◌+◌, ◌-◌, ◌≤◌, ◌<◌}
use native.Mathlib.Omega.{arith}
use lib.ListN.{length, get_or, take, drop, length-append, length-reverse}
use lib.Seq.{split_at, length-take-le}
use Rattle.theory.specs.Lists.{count}
use Rattle.theory.specs.Permutation.{IsPermutation, cell_at, top}
use Rattle.theory.specs.Successor.{smaller, successor, step}
use Rattle.theory.proofs.Cases.{by_le}
use Rattle.theory.proofs.Counts.{delta_eq, count_append}
use Rattle.theory.proofs.Permutations.{around}
use Rattle.theory.proofs.Splits.{last_split, push_is, successor_low, successor_top, successor_bounds}

-- `Move m xs ys`: the step from xs gives ys
pub data Move (m : ℕ) (xs ys : List ℕ) : Type 0 where
  -- cell m + 1 is neither on top nor at the bottom: the bottom cell x passes it
  shift : (u v : List ℕ) (x : ℕ) → xs ≡ u ++ suc m ∷ (v ++ x ∷ []) → ys ≡ (x ∷ u) ++ suc m ∷ v
      → 1 ≤ length u → length u < m → count (suc m) u ≡ 0 → (x ≡ suc m → ⊥) → Move m xs ys
  -- it is at the bottom, and comes on top
  lift : (u : List ℕ) → xs ≡ u ++ suc m ∷ [] → ys ≡ suc m ∷ u → length u ≡ m → count (suc m) u ≡ 0 → Move m xs ys
  -- it is on top, and lets one cell x pass; the remaining permutation takes a step of its own, if it has two cells or more
  turn : (u v : List ℕ) (x : ℕ) → xs ≡ suc m ∷ (u ++ x ∷ v) → ys ≡ x ∷ suc m ∷ (u ++ v) → (x ≡ suc m → ⊥)
      → (m ≡ 1) ⊎ ((2 ≤ m) × (x ∷ (reverse v ++ reverse u) ≡ step m (reverse (u ++ x ∷ v)))) → Move m xs ys

pub reverse_split : (u : List ℕ) (x : ℕ) (v : List ℕ) → reverse (u ++ x ∷ v) ≡ reverse v ++ x ∷ reverse u
reverse_split u x v =
    reverse-append u (x ∷ v) ∙ ap (λ (l : List ℕ). l ++ reverse u) (reverse-cons x v) ∙ append_assoc (reverse v) (x ∷ []) (reverse u)

-- ---- the largest cell is not on top

low_place : (m : ℕ) (xs : List ℕ) → 1 ≤ m → (a : ℕ) (l : List ℕ) → xs ≡ a ∷ l → count (suc m) (a ∷ []) ≡ 0 → successor (suc m) xs ≡ suc m
low_place m xs pos a l e h = successor_low m xs pos (λ k. omega (arith, delta_eq a (suc m) (sym (ap top e) ∙ k)))

low : (m : ℕ) (xs : List ℕ) → 1 ≤ m → (a : ℕ) (u v : List ℕ) → xs ≡ (a ∷ u) ++ suc m ∷ v → count (suc m) (a ∷ u) ≡ 0
    → count (suc m) v ≡ 0 → length (a ∷ u) + length v ≡ m → Move m xs (step (suc m) xs)
unfolding step
low m xs pos a u [] e hu hv sizes =
    lift (a ∷ u) e
    (push_is (suc m) (a ∷ u) [] e (low_place m xs pos a (u ++ suc m ∷ []) e (omega arith) ∙ omega arith)
    ∙ ap (λ (l : List ℕ). suc m ∷ a ∷ l) (append-nil u))
    (omega arith) hu
low m xs pos a u (b ∷ v) e hu hv sizes =
    let n : ℕ = suc (length v) in
    let w : List ℕ = take (n - 1) (b ∷ v) in
    let y : ℕ = cell_at n (b ∷ v) in
    let parts : b ∷ v ≡ w ++ y ∷ [] = last_split n (b ∷ v) (omega arith) refl in
    let e' : xs ≡ (a ∷ u) ++ suc m ∷ (w ++ y ∷ []) = e ∙ ap (λ (l : List ℕ). (a ∷ u) ++ suc m ∷ l) parts in
    let k = low_place m xs pos a (u ++ suc m ∷ b ∷ v) e (omega arith) in
    let t = (a ∷ u) ++ suc m ∷ w in
    shift (a ∷ u) w y e'
    (push_is y t [] (e' ∙ sym (append_assoc (a ∷ u) (suc m ∷ w) (y ∷ [])))
    (k ∙ omega (arith, sizes, length-append u (suc m ∷ w), ap length parts, length-append w (y ∷ [])))
    ∙ ap (λ (l : List ℕ). y ∷ l) (append-nil t))
    (omega arith) (omega arith) hu
    (λ q. omega (arith, hv, ap (count (suc m)) parts, count_append (suc m) w (y ∷ []), delta_eq y (suc m) q))

-- ---- the largest cell is on top, and s is the place that the remaining permutation's step pushes

high : (m : ℕ) (xs v : List ℕ) (s : ℕ) → xs ≡ suc m ∷ v → length v ≡ m → count (suc m) v ≡ 0 → 1 ≤ s → s ≤ m
    → successor (suc m) xs ≡ suc m + 1 - s → (m ≡ 1) ⊎ ((2 ≤ m) × (s ≡ successor m (reverse v))) → Move m xs (step (suc m) xs)
unfolding step
high m xs v s e len none s≥1 s≤m at next =
    turn u w x (e ∙ ap (λ (l : List ℕ). suc m ∷ l) cut)
    (push_is x (suc m ∷ u) w (e ∙ ap (λ (l : List ℕ). suc m ∷ l) cut) (at ∙ omega (arith, len_u)))
    (λ q. omega (arith, none, ap (count (suc m)) cut, count_append (suc m) u (x ∷ w), delta_eq x (suc m) q))
    (⊎_elim inl (λ n. inr (n.0, inner n.1)) next)
  where
    u : List ℕ
    u = take (m - s) v

    x : ℕ
    x = get_or v (m - s) 0

    w : List ℕ
    w = drop (suc (m - s)) v

    cut : v ≡ u ++ x ∷ w
    cut = split_at v (m - s) 0 (omega arith)

    len_u : length u ≡ m - s
    len_u = length-take-le (m - s) v (omega arith)

    inner : s ≡ successor m (reverse v) → x ∷ (reverse w ++ reverse u) ≡ step m (reverse (u ++ x ∷ w))
    inner q =
        sym (push_is x (reverse w) (reverse u) (reverse_split u x w)
        (ap (λ (l : List ℕ). successor m (reverse l)) (sym cut) ∙ sym q
        ∙ omega (arith, len_u, len, ap length cut, length-append u (x ∷ w), length-reverse w)))

on_top : (m : ℕ) (xs v : List ℕ) → 1 ≤ m → xs ≡ suc m ∷ v → length v ≡ m → count (suc m) v ≡ 0 → Move m xs (step (suc m) xs)
unfolding smaller
on_top m xs v pos e len none =
    by_le 2 m
    (λ big.
    let b = successor_bounds m (reverse v) big in
    high m xs v (successor m (reverse v)) e len none (omega (arith, b.0)) b.1
    (successor_top m xs big (ap top e) ∙ ap (λ (l : List ℕ). suc m + 1 - successor m (smaller l)) e)
    (inr (big, refl)))
    (λ small.
    let b = successor_bounds (suc m) xs (omega arith) in
    let one : m ≡ 1 = omega arith in
    high m xs v 1 e len none (omega arith) (omega arith) (omega (arith, b.0, b.1)) (inl one))

pub moves : {m : ℕ} {xs : List ℕ} → 1 ≤ m → IsPermutation (suc m) xs → Move m xs (step (suc m) xs)
moves {m} {xs} pos o = let a = around o in go a.above a.below a.parts a.none_above a.none_below a.sizes
  where
    go : (u v : List ℕ) → xs ≡ u ++ suc m ∷ v → count (suc m) u ≡ 0 → count (suc m) v ≡ 0 → length u + length v ≡ m
        → Move m xs (step (suc m) xs)
    go [] v e hu hv sizes = on_top m xs v pos e (omega arith) hv
    go (a ∷ u) v e hu hv sizes = low m xs pos a u v e hu hv sizes
