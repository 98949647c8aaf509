-- The row of push counts of a run: before the first step, when one step more is counted, and its entries. Assumes nothing.
use Rattle.std.proofs.Common.{◌≡◌, ℕ, zero, suc, ◌+◌, ◌-◌, ◌≤◌, List, get_or, set, replicate, sym, refl, ap, ◌∙◌, arith}
use Rattle.theory.specs.Permutation.{IsPermutation, row, top}
use Rattle.theory.specs.Run.{steps, push_count}
use Rattle.theory.proofs.Cases.{by_name}
use Rattle.theory.proofs.Counts.{delta_eq, delta_ne}
use Rattle.theory.proofs.Members.{entry_inside}
use Rattle.theory.proofs.Demand3.{demand3}
use Rattle.runs.specs.Steps.{push_counts, count_in}
use Rattle.runs.proofs.Tallies.{tally_zero, tally_at, tally_set}

-- a push count is at most the number of steps
count_le : (n c k : ℕ) (xs : List ℕ) → push_count n c k xs ≤ k
unfolding push_count
count_le n c zero xs = omega arith
count_le n c (suc k) xs = by_name (top (steps n (suc k) xs)) c
    (λ e t. omega (arith, delta_eq (top (steps n (suc k) xs)) c e, count_le n c k xs))
    (λ ne t. omega (arith, delta_ne (top (steps n (suc k) xs)) c ne, count_le n c k xs))

-- the push of this cell is counted after `done` others
pub record Tallied (n : ℕ) (xs : List ℕ) (done : ℕ) (counts : List ℕ) (cell : ℕ) : Type 0 where
  pub low : 1 ≤ cell
  pub high : cell ≤ n
  pub fits : get_or counts (cell - 1) 0 ≤ done
  pub counted : set counts (cell - 1) (get_or counts (cell - 1) 0 + 1) ≡ row (push_counts n (suc done) xs)

module _ (n : ℕ) (few : 2 ≤ n) (many : n ≤ 20) (xs : List ℕ) where
  pub counts_none : replicate 20 0 ≡ row (push_counts n 0 xs)
  unfolding push_count
  counts_none = tally_zero n many (λ c. push_count n c 0 xs) (λ c. refl)

  module _ (done : ℕ) (counts : List ℕ) (so_far : counts ≡ row (push_counts n done xs)) where
    pub counts_at : (c : ℕ) → 1 ≤ c → c ≤ n → count_in counts c ≡ push_count n c done xs
    counts_at c low high = rw so_far (tally_at n many (λ c. push_count n c done xs) c low high)

    module _ (o : IsPermutation n xs) (cell : ℕ) (is : cell ≡ top (steps n (suc done) xs)) where
      inside : (1 ≤ cell) × (cell ≤ n)
      inside =
          let p = (demand3 n few).permutation xs o (suc done) in
          rw is (entry_inside p 0 (omega (arith, p.long)))

      raised : get_or counts (cell - 1) 0 + 1 ≡ push_count n cell (suc done) xs
      unfolding push_count
      raised = omega (arith, counts_at cell inside.0 inside.1, delta_eq (top (steps n (suc done) xs)) cell (sym is))

      kept : (d : ℕ) → (d ≡ cell → ⊥) → push_count n d done xs ≡ push_count n d (suc done) xs
      unfolding push_count
      kept d ne = omega (arith, delta_ne (top (steps n (suc done) xs)) d (λ z. ne (sym (is ∙ z))))

      pub tallied : Tallied n xs done counts cell
      tallied = record {
        low = inside.0;
        high = inside.1;
        fits = rw (counts_at cell inside.0 inside.1) (count_le n cell done xs);
        counted =
            ap (λ (l : List ℕ). set l (cell - 1) (get_or counts (cell - 1) 0 + 1)) so_far
            ∙ tally_set n many (λ c. push_count n c done xs) (λ c. push_count n c (suc done) xs) cell _ inside.0 inside.1 raised kept;
      }
