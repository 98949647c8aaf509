-- Runs of steps from any permutation: ranks, the return after n! steps, and push counts. Assumes nothing.
use mathlib.Core.Path.{◌≡◌, refl, sym, ap, ap₂, ◌∙◌}
use mathlib.Core.List.{List, [], ◌∷◌, ◌++◌}
use Prim.Native.Nat.{ℕ, zero, suc, ◌+◌, ◌-◌, ◌/◌, ◌%◌, ◌≤◌, ◌<◌}
use native.Mathlib.Nat.{mod-eq_of_lt, mod-add-mod, add-mod_right, div-add-mod, mul-le-mul_left, eq_of_mul-eq-mul_left}
use native.Mathlib.Omega.{arith}
use lib.ListN.{length, take}
use lib.Seq.{take_at}
use Rattle.theory.specs.Lists.{delta, count}
use Rattle.theory.specs.Factorial.{factorial}
use Rattle.theory.specs.Permutation.{IsPermutation, cell_at, place_of, top}
use Rattle.theory.specs.Push.{push}
use Rattle.theory.specs.Successor.{successor, step}
use Rattle.theory.specs.Rank.{rank}
use Rattle.theory.specs.Run.{steps, push_count}
use Rattle.theory.proofs.Cases.{by_le}
use Rattle.theory.proofs.Counts.{delta_self, delta_ne, count_append}
use Rattle.theory.proofs.Permutations.{around}
use Rattle.theory.proofs.Members.{entry_inside}
use Rattle.theory.proofs.Factorials.{factorial_pred}
use Rattle.theory.proofs.Splits.{place_is, rank_lt}
use Rattle.theory.proofs.Moves.{Move, shift, lift, turn, moves}
use Rattle.theory.proofs.Stepping.{step_permutation, step_rank}
use Rattle.theory.proofs.Ranking.{rank_injective}
use Rattle.theory.proofs.Sums.{sum_to, sum_add, sum_constant, sum_delta}

-- two sums with one number that leave the same remainder are not less than the divisor apart
mod_apart : (N r i j : ℕ) → i < j → j < N → (r + i) % N ≡ (r + j) % N → ⊥
mod_apart N r i j h k e =
    let p : ℕ = (r + i) / N in
    let q : ℕ = (r + j) / N in
    by_le q p
    (λ l. omega (arith, div-add-mod (r + i) N, div-add-mod (r + j) N, mul-le-mul_left N l))
    (λ l. omega (arith, div-add-mod (r + i) N, div-add-mod (r + j) N, mul-le-mul_left N l))

-- ---- a cell above the largest one

-- how often c stands above cell n
above_largest : ℕ → ℕ → List ℕ → ℕ
above_largest n c xs = count c (take (place_of n xs - 1) xs)

above_is : (n c : ℕ) {xs : List ℕ} (u v : List ℕ) → xs ≡ u ++ n ∷ v → count n u ≡ 0 → above_largest n c xs ≡ count c u
unfolding above_largest
above_is n c {xs} u v e none =
    ap₂ (λ (i : ℕ) (l : List ℕ). count c (take (i - 1) l)) (place_is n u v e none) e
    ∙ ap (count c) (take_at u (n ∷ v) (suc (length u) - 1) (omega arith))

above_once : (n c : ℕ) {xs : List ℕ} → 1 ≤ c → c ≤ n → IsPermutation n xs → above_largest n c xs ≤ 1
above_once zero c low high o = absurd (omega arith)
above_once (suc m) c low high o =
    let a = around o in
    omega (
      arith,
      above_is (suc m) c a.above a.below a.parts a.none_above,
      o.once c low high,
      ap (count c) a.parts,
      count_append c a.above (suc m ∷ a.below),
    )

top_is : {xs : List ℕ} {x : ℕ} (l : List ℕ) (c : ℕ) → xs ≡ x ∷ l → delta (top xs) c ≡ delta x c
top_is l c e = ap (λ (ys : List ℕ). delta (top ys) c) e

-- a step lifts a cell past the largest one, or the largest one past all others
step_above : (n c : ℕ) (xs : List ℕ) → 2 ≤ n → 1 ≤ c → c ≤ n → IsPermutation n xs
    → delta (top (step n xs)) c + above_largest n c xs ≡ delta (top (step n xs)) n + above_largest n c (step n xs)
step_above zero c xs big low high o = absurd (omega arith)
step_above (suc m) c xs big low high o = go (moves (omega arith) o)
  where
    n : ℕ
    n = suc m

    ys : List ℕ
    ys = step n xs

    go : Move m xs ys → delta (top ys) c + above_largest n c xs ≡ delta (top ys) n + above_largest n c ys
    go (shift u v x ex ey pos small none ne) =
        omega (
          arith,
          top_is (u ++ n ∷ v) c ey,
          top_is (u ++ n ∷ v) n ey,
          above_is n c u (v ++ x ∷ []) ex none,
          above_is n c (x ∷ u) v ey (omega (arith, delta_ne x n ne)),
          delta_ne x n ne,
        )
    go (lift u ex ey len none) =
        omega (
          arith,
          top_is u c ey,
          top_is u n ey,
          above_is n c u [] ex none,
          above_is n c [] u ey refl,
          delta_self n,
          o.once c low high,
          ap (count c) ex,
          count_append c u (n ∷ []),
        )
    go (turn u v x ex ey ne next) =
        omega (
          arith,
          top_is (n ∷ (u ++ v)) c ey,
          top_is (n ∷ (u ++ v)) n ey,
          above_is n c [] (u ++ x ∷ v) ex refl,
          above_is n c (x ∷ []) (u ++ v) ey (omega (arith, delta_ne x n ne)),
          delta_ne x n ne,
        )

-- ---- the run

pub steps_add : (n k j : ℕ) (xs : List ℕ) → steps n j (steps n k xs) ≡ steps n (k + j) xs
unfolding steps
steps_add n k zero xs =
    let e : k ≡ k + 0 = omega arith in
    ap (λ (i : ℕ). steps n i xs) e
steps_add n k (suc j) xs =
    let e : suc (k + j) ≡ k + suc j = omega arith in
    ap (step n) (steps_add n k j xs) ∙ ap (λ (i : ℕ). steps n i xs) e

-- what one step counts
pub count_pushed : (n : ℕ) (xs : List ℕ) → push_count n (cell_at (successor n xs) xs) 1 xs ≡ 1
unfolding push_count steps step push
count_pushed n xs = omega (arith, delta_self (cell_at (successor n xs) xs))

pub count_others : (n : ℕ) (xs : List ℕ) (c : ℕ) → (c ≡ cell_at (successor n xs) xs → ⊥) → push_count n c 1 xs ≡ 0
unfolding push_count steps step push
count_others n xs c ne = omega (arith, delta_ne (cell_at (successor n xs) xs) c (λ e. ne (sym e)))

pub count_step : (n : ℕ) (xs : List ℕ) (k c : ℕ) → push_count n c (suc k) xs ≡ push_count n c k xs + push_count n c 1 (steps n k xs)
unfolding push_count steps
count_step n xs k c = omega arith

module _ (n : ℕ) (big : 2 ≤ n) (xs : List ℕ) (o : IsPermutation n xs) where
  pub run_permutation : (k : ℕ) → IsPermutation n (steps n k xs)
  unfolding steps
  run_permutation zero = o
  run_permutation (suc k) = step_permutation big (run_permutation k)

  pub run_rank : (k : ℕ) → rank n (steps n k xs) ≡ (rank n xs + k) % factorial n
  unfolding steps
  run_rank zero = sym (ap (λ (t : ℕ). t % factorial n) (omega arith) ∙ mod-eq_of_lt (rank_lt n xs))
  run_rank (suc k) =
      step_rank n (steps n k xs) big (run_permutation k)
      ∙ ap (λ (t : ℕ). (t + 1) % factorial n) (run_rank k)
      ∙ mod-add-mod (rank n xs + k) (factorial n) 1
      ∙ ap (λ (t : ℕ). t % factorial n) (omega arith)

  pub run_different : (i j : ℕ) → i < j → j < factorial n → steps n i xs ≡ steps n j xs → ⊥
  run_different i j h k e = mod_apart (factorial n) (rank n xs) i j h k (sym (run_rank i) ∙ ap (rank n) e ∙ run_rank j)

  pub run_return : steps n (factorial n) xs ≡ xs
  run_return =
      rank_injective (run_permutation (factorial n)) o
      (run_rank (factorial n) ∙ add-mod_right (rank n xs) (factorial n) ∙ mod-eq_of_lt (rank_lt n xs))

  -- against the pushes of the largest cell
  count_above : (k c : ℕ) → 1 ≤ c → c ≤ n
      → push_count n c k xs + above_largest n c xs ≡ push_count n n k xs + above_largest n c (steps n k xs)
  unfolding push_count steps
  count_above zero c low high = refl
  count_above (suc k) c low high =
      omega (arith, count_above k c low high, step_above n c (steps n k xs) big low high (run_permutation k))

  pub run_balance : (k c d : ℕ) → 1 ≤ c → c ≤ n → 1 ≤ d → d ≤ n → push_count n c k xs ≤ push_count n d k xs + 2
  run_balance k c d c≥1 c≤n d≥1 d≤n =
      omega (
        arith,
        count_above k c c≥1 c≤n,
        count_above k d d≥1 d≤n,
        above_once n c c≥1 c≤n (run_permutation k),
        above_once n d d≥1 d≤n o,
      )

  count_sum : (k : ℕ) → sum_to (λ c. push_count n c k xs) n ≡ k
  unfolding push_count
  count_sum zero = sum_constant (λ c. 0) 0 n (λ c low high. refl) ∙ omega arith
  count_sum (suc k) =
      let h = top (steps n (suc k) xs) in
      let p = run_permutation (suc k) in
      let b = entry_inside p 0 (omega (arith, p.long)) in
      sum_add (λ c. push_count n c k xs) (delta h) n ∙ omega (arith, count_sum k, sum_delta h n b.0 b.1)

  pub run_shares : (c : ℕ) → 1 ≤ c → c ≤ n → push_count n c (factorial n) xs ≡ factorial (n - 1)
  run_shares c low high =
      let q : ℕ = push_count n n (factorial n) xs in
      let all : (d : ℕ) → 1 ≤ d → d ≤ n → push_count n d (factorial n) xs ≡ q =
      λ d l h. omega (arith, count_above (factorial n) d l h, ap (above_largest n d) run_return) in
      all c low high
      ∙ eq_of_mul-eq-mul_left n (omega arith) q (factorial (n - 1))
      (sym (sum_constant (λ d. push_count n d (factorial n) xs) q n all) ∙ count_sum (factorial n) ∙ factorial_pred n (omega arith))
