-- The tables that the code keeps, of factorials, of weights and of the ranks of the new zeros: each entry, and what is within them. Assumes nothing.
use mathlib.Core.Path.{◌≡◌, refl, sym, ap, ◌∙◌}
use mathlib.Core.List.{List, []}
use Prim.Native.Nat.{ℕ, suc, ◌≤◌, ◌<◌}
use native.Mathlib.Omega.{arith}
use borrow.Author.Tests.{le-leb, lt-leb}
use lib.ListN.{get_or, length}
use Rattle.std.proofs.lemmas.List.{get_or_past}
use Rattle.theory.specs.Factorial.{factorial, falling}
use Rattle.theory.specs.Rank.{rank}
use Rattle.theory.specs.Zero.{new_zero}
use Rattle.theory.proofs.Cases.{by_le}
use Rattle.theory.proofs.Names.{names_map_at}
use Rattle.theory.proofs.Factorials.{factorial_grows}
use Rattle.ranking.specs.Factorials.{factorial_table, factorial_within}
use Rattle.ranking.specs.Weights.{weight_row, weight_table}
use Rattle.ranking.specs.Zeros.{new_zero_ranks}

pub table_at : {table : List ℕ} → table ≡ factorial_table → (n : ℕ) → n ≤ 20 → get_or table n 0 ≡ factorial n
unfolding factorial_table
table_at e n h = rw e (names_map_at 0 factorial 0 21 n n (omega arith) (omega arith))

pub within_is : (n : ℕ) → n ≤ 20 → factorial_within n ≡ factorial n
within_is n h = rw (le-leb n 20 h)

-- an entry, or 0 past the table
pub table_within : {table : List ℕ} → table ≡ factorial_table → (n : ℕ) → get_or table n 0 ≡ factorial_within n
unfolding factorial_table
table_within {table} e n =
    by_le n 20 (λ l. table_at e n l ∙ sym (within_is n l))
    (λ l. rw (lt-leb n 20 l) (get_or_past table n 0 (omega (arith, ap length e))))

-- a number below what is within the table tells that n is
pub within_few : (n v : ℕ) → v < factorial_within n → n ≤ 20
within_few n v h = by_le n 20 (λ l. l) (λ l. absurd (omega (arith, rw (lt-leb n 20 l) at h)))

-- 20! is the largest
pub factorial_bounded : (n : ℕ) → n ≤ 20 → factorial n ≤ 2432902008176640000
factorial_bounded n h = omega (arith, factorial_grows n 20 h)

-- the weights of k + 1 cells, and each of those of n
pub weight_row_at : {table : List (List ℕ)} → table ≡ weight_table → (k : ℕ) → k < 20 → get_or table k [] ≡ weight_row (suc k)
unfolding weight_table
weight_row_at e k h = rw e (names_map_at [] weight_row 1 20 k (suc k) (omega arith) h)

pub weight_at : (n : ℕ) {weights : List ℕ} → weights ≡ weight_row n → (i : ℕ) → i ≤ 20 → get_or weights i 0 ≡ falling n i
unfolding weight_row
weight_at n e i h = rw e (names_map_at 0 (falling n) 0 21 i i (omega arith) (omega arith))

pub weights_long : (n : ℕ) → length (weight_row n) ≡ 21
unfolding weight_row
weights_long n = refl

pub new_zero_at : {table : List ℕ} → table ≡ new_zero_ranks → (n : ℕ) → n ≤ 20 → get_or table n 0 ≡ rank n (new_zero n)
unfolding new_zero_ranks
new_zero_at e n h = rw e (names_map_at 0 (λ m. rank m (new_zero m)) 0 21 n n (omega arith) (omega arith))
