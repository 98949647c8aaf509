-- Values with any zero, and with the old and the new one. Assumes nothing.
use mathlib.Core.Path.{◌≡◌, refl, sym, ap, ◌∙◌}
use mathlib.Core.List.{List}
use Prim.Native.Nat.{ℕ, ◌+◌, ◌-◌, ◌%◌, ◌≤◌, ◌<◌}
use native.Mathlib.Nat.{mod-lt, mod-eq_of_lt, mod-add-mod, add-mod_right}
use native.Mathlib.Omega.{arith}
use Rattle.theory.specs.Lists.{names}
use Rattle.theory.specs.Factorial.{factorial}
use Rattle.theory.specs.Permutation.{IsPermutation}
use Rattle.theory.specs.Rank.{rank}
use Rattle.theory.specs.Unrank.{unrank}
use Rattle.theory.specs.Run.{steps}
use Rattle.theory.specs.Zero.{value_from, permutation_from, old_zero, new_zero}
use Rattle.theory.specs.Claims.{Valuing, Zeros}
use Rattle.theory.proofs.Names.{names_length, names_ascending, ascending_distinct, names_permutation}
use Rattle.theory.proofs.Factorials.{factorial_pos}
use Rattle.theory.proofs.Splits.{rank_lt}
use Rattle.theory.proofs.Ranking.{unrank_permutation, rank_unrank, unrank_rank}
use Rattle.theory.proofs.Cycle.{run_rank}

-- the remainder of a number that is N past one below N
pub mod_past : {a N : ℕ} (b : ℕ) → b ≡ a + N → a < N → b % N ≡ a
mod_past {a} {N} b e h = ap (λ (t : ℕ). t % N) e ∙ add-mod_right a N ∙ mod-eq_of_lt h

module _ (n : ℕ) (z : List ℕ) where
  abbrev N : ℕ
  N = factorial n

  -- added modulo n!, this takes the rank of the zero off
  abbrev off : ℕ
  off = N - rank n z

  value_is : (xs : List ℕ) → value_from n z xs ≡ (rank n xs + off) % N
  unfolding value_from
  value_is xs = ap (λ (t : ℕ). t % N) (omega (arith, rank_lt n z))

  pub value_counted : 2 ≤ n → (xs : List ℕ) → IsPermutation n xs → (k : ℕ) → value_from n z (steps n k xs) ≡ (value_from n z xs + k) % N
  value_counted low xs o k =
      let e : rank n xs + k + off ≡ rank n xs + off + k = omega arith in
      value_is (steps n k xs)
      ∙ ap (λ (r : ℕ). (r + off) % N) (run_rank n low xs o k)
      ∙ mod-add-mod (rank n xs + k) N off
      ∙ ap (λ (t : ℕ). t % N) e
      ∙ sym (mod-add-mod (rank n xs + off) N k)
      ∙ ap (λ (v : ℕ). (v + k) % N) (sym (value_is xs))

  value_lt : (xs : List ℕ) → value_from n z xs < N
  unfolding value_from
  value_lt xs = mod-lt _ (factorial_pos n)

  -- the rank by the value, and the value by the rank
  rank_value : (xs : List ℕ) → (value_from n z xs + rank n z) % N ≡ rank n xs
  rank_value xs =
      ap (λ (v : ℕ). (v + rank n z) % N) (value_is xs)
      ∙ mod-add-mod (rank n xs + off) N (rank n z)
      ∙ mod_past (rank n xs + off + rank n z) (omega (arith, rank_lt n z)) (rank_lt n xs)

  value_rank : (v : ℕ) (xs : List ℕ) → v < N → rank n xs ≡ (v + rank n z) % N → value_from n z xs ≡ v
  value_rank v xs h e =
      value_is xs
      ∙ ap (λ (r : ℕ). (r + off) % N) e
      ∙ mod-add-mod (v + rank n z) N off
      ∙ mod_past (v + rank n z + off) (omega (arith, rank_lt n z)) h

  value_has : (v : ℕ) → v < N → value_from n z (permutation_from n z v) ≡ v
  unfolding permutation_from
  value_has v h = value_rank v _ h (rank_unrank n ((v + rank n z) % N) (mod-lt (v + rank n z) (factorial_pos n)))

  value_only : (v : ℕ) (xs : List ℕ) → IsPermutation n xs → value_from n z xs ≡ v → xs ≡ permutation_from n z v
  unfolding permutation_from
  value_only v xs o e =
      sym (unrank_rank n xs o) ∙ ap (unrank n) (sym (rank_value xs)) ∙ ap (λ (w : ℕ). unrank n ((w + rank n z) % N)) e

  value_permutation : (v : ℕ) → IsPermutation n (permutation_from n z v)
  unfolding permutation_from
  value_permutation v = unrank_permutation n ((v + rank n z) % N)

  pub valuing : 2 ≤ n → Valuing n z
  valuing low = record {
    start = value_is z ∙ mod_past (rank n z + off) (omega (arith, rank_lt n z)) (factorial_pos n);
    counted = value_counted low;
    below = value_lt;
    has = λ v h. (value_permutation v, value_has v h);
    only = value_only;
  }

-- ---- the two zeros
new_permutation : (n : ℕ) → IsPermutation n (new_zero n)
new_permutation n = names_permutation (names_length 1 n) (ascending_distinct (names n) (names_ascending 1 n)) (λ c. refl)

pub old_rank : (n : ℕ) → rank n (old_zero n) ≡ 0
old_rank n = rank_unrank n 0 (factorial_pos n)

pub old_value : (n : ℕ) (xs : List ℕ) → value_from n (old_zero n) xs ≡ rank n xs
old_value n xs =
    let e : rank n xs ≡ rank n xs + rank n (old_zero n) = omega (arith, old_rank n) in
    value_rank n (old_zero n) (rank n xs) xs (rank_lt n xs) (sym (mod-eq_of_lt (rank_lt n xs)) ∙ ap (λ (r : ℕ). r % factorial n) e)

pub zero_changed : (n : ℕ) (xs : List ℕ) → value_from n (old_zero n) xs ≡ (value_from n (new_zero n) xs + rank n (new_zero n)) % factorial n
zero_changed n xs = old_value n xs ∙ sym (rank_value n (new_zero n) xs)

pub zeros : (n : ℕ) → 2 ≤ n → Zeros n
zeros n low = record {
  old_permutation = unrank_permutation n 0;
  new_permutation = new_permutation n;
  old = valuing n (old_zero n) low;
  new = valuing n (new_zero n) low;
  old_rank = old_rank n;
  old_value = old_value n;
  changed = zero_changed n;
}
