-- A step takes a permutation to a permutation, and its rank to the next. Assumes nothing.
use mathlib.Core.Path.{◌≡◌, refl, sym, ap, ◌∙◌, subst}
use mathlib.Core.Logic.{⊎_elim}
use mathlib.Core.List.{List, [], ◌∷◌, ◌++◌, reverse, append_assoc, append-nil, reverse-cons, reverse-append}
use Prim.Native.Nat.{ℕ, zero, suc, ◌+◌, ◌*◌, ◌%◌, ◌≤◌, ◌<◌}
use native.Mathlib.Nat.{mod-lt, mod-eq_of_lt, div-add-mod, mul-div-mul_left}
use native.Mathlib.Omega.{arith}
use lib.ListN.{length}
use Rattle.theory.specs.Factorial.{factorial}
use Rattle.theory.specs.Permutation.{IsPermutation}
use Rattle.theory.specs.Push.{push}
use Rattle.theory.specs.Successor.{successor, step}
use Rattle.theory.specs.Rank.{rank}
use Rattle.theory.specs.Claims.{Stepping}
use Rattle.theory.proofs.Counts.{delta_ne, adds_top, adds_between, adds_reversed}
use Rattle.theory.proofs.Permutations.{moved, removed}
use Rattle.theory.proofs.Factorials.{factorial_pos}
use Rattle.theory.proofs.Splits.{at, push_is, rank_is, digit_top, digit_lower, rank_lt, successor_bounds}
use Rattle.theory.proofs.Moves.{Move, shift, lift, turn, moves, reverse_split}

pub push_permutation : {n : ℕ} (i : ℕ) (xs : List ℕ) → 1 ≤ i → i ≤ n → IsPermutation n xs → IsPermutation n (push i xs)
push_permutation {n} i xs low high o =
    let s = at i xs low (omega (arith, o.long)) in
    subst (IsPermutation n) (sym (push_is s.cell s.above s.below s.parts s.place))
    (moved (adds_between s.above s.below s.parts) (adds_top s.cell (s.above ++ s.below)) o)

pub step_permutation : {n : ℕ} {xs : List ℕ} → 2 ≤ n → IsPermutation n xs → IsPermutation n (step n xs)
unfolding step
step_permutation {n} {xs} h o =
    let b = successor_bounds n xs h in
    push_permutation (successor n xs) xs (omega (arith, b.0)) b.1 o

-- ---- the rank law

-- a factor common to both
mul_mod_mul : (k a b : ℕ) → 1 ≤ k → k * a % (k * b) ≡ k * (a % b)
mul_mod_mul k a b h =
    omega (arith, rw (mul-div-mul_left a b h) at (div-add-mod (k * a) (k * b)), ap (λ (t : ℕ). k * t) (div-add-mod a b))

next_mod : {r s N : ℕ} → s ≡ suc r → s < N → s ≡ (r + 1) % N
next_mod {r} {s} {N} e h = e ∙ sym (mod-eq_of_lt {n = r + 1} {m = N} (omega arith) ∙ omega arith)

pub step_rank : (n : ℕ) (xs : List ℕ) → 2 ≤ n → IsPermutation n xs → rank n (step n xs) ≡ (rank n xs + 1) % factorial n
step_rank zero xs h o = absurd (omega arith)
step_rank (suc m) xs h o = go (moves (omega arith) o) (step_rank m)
  where
    ys : List ℕ
    ys = step (suc m) xs

    -- the largest cell's digit rises by one, and the remaining permutation is the same
    rises : (d e : ℕ) (l k : List ℕ) → rank (suc m) xs ≡ d + suc m * rank m l → rank (suc m) ys ≡ e + suc m * rank m k → e ≡ suc d → k ≡ l
        → rank (suc m) ys ≡ (rank (suc m) xs + 1) % factorial (suc m)
    rises d e l k a b up same = next_mod (omega (arith, ap (λ (t : List ℕ). suc m * rank m t) same)) (rank_lt (suc m) ys)

    go : Move m xs ys → ((l : List ℕ) → 2 ≤ m → IsPermutation m l → rank m (step m l) ≡ (rank m l + 1) % factorial m)
        → rank (suc m) ys ≡ (rank (suc m) xs + 1) % factorial (suc m)
    go (shift u v x ex ey pos small none ne) later =
        rises _ _ _ _ (rank_is m u (v ++ x ∷ []) ex none) (rank_is m (x ∷ u) v ey (omega (arith, delta_ne x (suc m) ne)))
        (omega (
          arith,
          digit_lower m (suc (length u)) (omega arith) (omega arith),
          digit_lower m (suc (suc (length u))) (omega arith) (omega arith),
        ))
        (ap (λ (l : List ℕ). l ++ reverse v) (reverse-cons x u) ∙ append_assoc (reverse u) (x ∷ []) (reverse v)
        ∙ ap (λ (l : List ℕ). reverse u ++ l) (sym (reverse_split v x [])))
    go (lift u ex ey len none) later =
        rises _ _ _ _ (rank_is m u [] ex none) (rank_is m [] u ey refl)
        (omega (arith, digit_lower m (suc (length u)) (omega arith) (omega arith), digit_top m))
        (sym (append-nil (reverse u)))
    go (turn u v x ex ey ne next) later =
        a ∙ ap (λ (t : ℕ). suc m * t) (⊎_elim alone (λ n. ap (rank m) n.1 ∙ later R n.0 (removed (adds_reversed [] (u ++ x ∷ v) ex) o)) next)
        ∙ sym (mul_mod_mul (suc m) (rank m R + 1) (factorial m) (omega arith)) ∙ ap (λ (t : ℕ). t % factorial (suc m)) (sym b)
      where
        R : List ℕ
        R = reverse (u ++ x ∷ v)

        S : List ℕ
        S = x ∷ (reverse v ++ reverse u)

        a : rank (suc m) ys ≡ suc m * rank m S
        a = omega (
          arith,
          rank_is m (x ∷ []) (u ++ v) ey (omega (arith, delta_ne x (suc m) ne)),
          digit_lower m 2 (omega arith) (omega arith),
          ap (λ (l : List ℕ). suc m * rank m (x ∷ l)) (reverse-append u v),
        )

        b : rank (suc m) xs + 1 ≡ suc m * (rank m R + 1)
        b = omega (arith, rank_is m [] (u ++ x ∷ v) ex refl, digit_top m)

        alone : m ≡ 1 → rank m S ≡ (rank m R + 1) % factorial m
        alone e = omega (arith, rank_lt m S, mod-lt (rank m R + 1) (factorial_pos m), ap factorial e)

pub stepping : (n : ℕ) → 2 ≤ n → Stepping n
stepping n big = record {
  place = λ xs. successor_bounds n xs big;
  push_permutation = push_permutation;
  step_permutation = λ xs. step_permutation big;
  step_rank = λ xs. step_rank n xs big;
}
