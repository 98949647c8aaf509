-- The charge of pushes is the sum of levels afterwards less the sum before, and so it fits. Assumes nothing.
use mathlib.Core.Path.{◌≡◌, refl, ap, ◌∙◌}
use mathlib.Core.Bool.{false≢true}
use mathlib.Core.List.{List, [], ◌∷◌}
use Prim.Native.Nat.{ℕ, zero, suc, ◌+◌, ◌-◌, ◌*◌, ◌≤◌, ◌<◌}
use native.Mathlib.Omega.{arith}
use lib.ListN.{length, get_or, set}
use Rattle.theory.specs.Refusal.{given}
use Rattle.theory.specs.Lists.{Cells}
use Rattle.theory.specs.Permutation.{IsPermutation}
use Rattle.theory.specs.Successor.{successor}
use Rattle.theory.specs.Levels.{highest, read_number, permutation_of, push_level, push_levels, jump}
use Rattle.theory.specs.CountUp.{next_cell, count_up, ceiling_of, call_number, call_levels}
use Rattle.theory.specs.Run.{after_calls}
use Rattle.theory.specs.Rewrite.{rewrite_pushes}
use Rattle.theory.specs.Store.{store_pushes}
use Rattle.theory.specs.Spent.{level_sum, Spends, charge_of, count_up_pushes, call_charge, calls_charge}
use Rattle.theory.specs.Claims.{Spending}
use Rattle.theory.proofs.Cases.{by_name}
use Rattle.theory.proofs.Refusal.{given_refused, or_else_done, readable, ceiling_room}
use Rattle.theory.proofs.Members.{member_first, member_later, entry_inside}
use Rattle.theory.proofs.Splits.{successor_bounds}
use Rattle.theory.proofs.Sorting.{permutation_of_permutation}
use Rattle.theory.proofs.Reading.{pushed_length, pushed_jump, row_length, cells_later, row_highest}
use Rattle.theory.proofs.Calls.{calling}
use Rattle.theory.proofs.Rewriting.{rewriting}
use Rattle.theory.proofs.Storing.{storing}

-- ---- rows of pushes

set_sum : (L : List ℕ) (i v : ℕ) → i < length L → level_sum (set L i v) + get_or L i 0 ≡ level_sum L + v
set_sum [] i v h = absurd (omega arith)
set_sum (a ∷ L) zero v h = omega arith
set_sum (a ∷ L) (suc i) v h = omega (arith, set_sum L i v (omega arith))

pub push_sum : (L : List ℕ) (c : ℕ) → 1 ≤ c → c ≤ length L → Spends L (push_level c L) (jump c L)
unfolding push_level
push_sum L c low high = omega (arith, set_sum L (c - 1) (highest L + 1) (omega arith), pushed_jump L c low high)

pub row_sum : (cs L : List ℕ) → Cells (length L) cs → Spends L (push_levels cs L) (charge_of cs L)
row_sum [] L h = omega arith
row_sum (c ∷ cs) L h =
    let b = h c (member_first c cs) in
    omega (arith, row_sum cs (push_level c L) (cells_later c cs L h), push_sum L c b.0 b.1)

-- ---- jobs that may be refused

pub given_sum : (number : ℕ) (L L' : List ℕ) (charge : ℕ) → (number ≡ 0 → Spends L L' charge)
    → Spends L (given number L' L) (given number charge 0)
given_sum number L L' charge h = by_name number 0 (λ q e. rw e (h q)) (λ ne e. rw e (omega arith))

-- ---- how much it can be

sum_bound : (L : List ℕ) (t : ℕ) → highest L ≤ t → level_sum L ≤ length L * t
sum_bound [] t h = omega arith
sum_bound (a ∷ L) t h = omega (arith, sum_bound L t (omega arith))

-- twenty levels of 16 bits
pub sum_fits : (L : List ℕ) → length L ≤ 20 → highest L ≤ 65535 → level_sum L ≤ 1310700
sum_fits L many h = omega (arith, sum_bound L 65535 h)

row_fits : (cs L : List ℕ) → Cells (length L) cs → length L ≤ 20 → highest L + length cs ≤ 65535 → level_sum (push_levels cs L) ≤ 1310700
row_fits cs L cells many h =
    sum_fits (push_levels cs L) (omega (arith, row_length cs L)) (omega (arith, row_highest cs L cells))

-- ---- count up

-- the cell of the next step is one of the group's
pub next_inside : (L : List ℕ) → 2 ≤ length L → (1 ≤ next_cell L) × (next_cell L ≤ length L)
unfolding next_cell
next_inside L big =
    let o : IsPermutation (length L) (permutation_of L) = permutation_of_permutation L in
    let b = successor_bounds (length L) (permutation_of L) big in
    entry_inside o (successor (length L) (permutation_of L) - 1) (omega (arith, b.0, b.1, o.long))

pub step_sum : (L : List ℕ) → 2 ≤ length L → Spends L (push_level (next_cell L) L) (jump (next_cell L) L)
step_sum L big = let b = next_inside L big in push_sum L (next_cell L) b.0 b.1

count_row : (k : ℕ) (L : List ℕ) → count_up k L ≡ push_levels (count_up_pushes k L) L
unfolding count_up count_up_pushes
count_row zero L = refl
count_row (suc k) L = count_row k (push_level (next_cell L) L)

count_long : (k : ℕ) (L : List ℕ) → length (count_up_pushes k L) ≡ k
unfolding count_up_pushes
count_long zero L = refl
count_long (suc k) L = omega (arith, count_long k (push_level (next_cell L) L))

count_cells : (k : ℕ) (L : List ℕ) → 2 ≤ length L → Cells (length L) (count_up_pushes k L)
unfolding count_up_pushes
count_cells zero L big c m = absurd (false≢true m)
count_cells (suc k) L big c m =
    by_name c (next_cell L)
    (λ q e. rw q (next_inside L big))
    (λ ne e.
    let size = pushed_length (next_cell L) L in
    let b = count_cells k (push_level (next_cell L) L) (omega arith) c (rw e at m) in
    (b.0, omega (arith, b.1)))

pub counted_sum : (k : ℕ) (L : List ℕ) → 2 ≤ length L → Spends L (count_up k L) (charge_of (count_up_pushes k L) L)
counted_sum k L big = rw (count_row k L) (row_sum (count_up_pushes k L) L (count_cells k L big))

-- ---- calls

-- a call that is done has from 2 to 20 levels, and room
call_room : (k : ℕ) (L : List ℕ) → call_number k L ≡ 0 → (2 ≤ length L) × (length L ≤ 20) × (highest L + k ≤ 65535)
unfolding call_number
call_room k L e =
    let g = or_else_done (read_number L) (ceiling_of L k) e in
    let r = readable g.0 in
    (r.few, r.many, ceiling_room L k g.1)

call_sum : (k : ℕ) (L : List ℕ) → Spends L (call_levels k L) (call_charge k L)
unfolding call_levels call_charge
call_sum k L =
    given_sum (call_number k L) L (count_up k L) (charge_of (count_up_pushes k L) L) (λ e. counted_sum k L (call_room k L e).0)

calls_sum : (ks L : List ℕ) → Spends L (after_calls ks L) (calls_charge ks L)
unfolding after_calls calls_charge
calls_sum [] L = omega arith
calls_sum (k ∷ ks) L = omega (arith, calls_sum ks (call_levels k L), call_sum k L)

-- the levels after a call that is done
call_fits : (k : ℕ) (L : List ℕ) → call_number k L ≡ 0 → level_sum (call_levels k L) ≤ 1310700
call_fits k L e =
    let g = call_room k L e in
    rw (((calling k L).counted e).1 ∙ count_row k L)
    (row_fits (count_up_pushes k L) L (count_cells k L g.0) g.1 (omega (arith, count_long k L, g.2)))

calls_room : (ks L : List ℕ) → calls_charge ks L ≤ 1310700 - level_sum L
unfolding calls_charge
calls_room [] L = omega arith
calls_room (k ∷ ks) L =
    by_name (call_number k L) 0
    (λ q e. omega (arith, call_fits k L q, call_sum k L, calls_room ks (call_levels k L)))
    (λ ne e. omega (arith, ap level_sum ((calling k L).unchanged ne).1, call_sum k L, calls_room ks (call_levels k L)))

pub calls_fit : (ks L : List ℕ) → calls_charge ks L ≤ 1310700
calls_fit ks L = omega (arith, calls_room ks L)

-- ---- all of it

pub spending : (L : List ℕ) → Spending L
unfolding call_charge
spending L = record {
  lower = λ c d cells below.
      let b = cells c (member_first c (d ∷ [])) in
      let e = cells d (member_later d c (d ∷ []) (member_first d [])) in
      omega (arith, below, pushed_jump L c b.0 b.1, pushed_jump L d e.0 e.1);
  push = push_sum L;
  row = λ cs. row_sum cs L;
  rewrite = λ target some o. row_sum (rewrite_pushes (permutation_of L) target) L
      (rewriting (length L) (permutation_of L) target some (permutation_of_permutation L) o).cells;
  store = λ p q prefix. row_sum (store_pushes q (permutation_of L)) L
      (storing (length L) p q (permutation_of L) prefix (permutation_of_permutation L)).cells;
  count = λ k. counted_sum k L;
  count_row = λ k. count_row k L;
  count_long = λ k. count_long k L;
  call = λ k. call_sum k L;
  refused = λ k ne. given_refused (call_number k L) (charge_of (count_up_pushes k L) L) 0 ne;
  calls = λ ks. calls_sum ks L;
  row_fits = λ cs cells many h. omega (arith, row_fits cs L cells many h, row_sum cs L cells);
  calls_fit = λ ks. omega (arith, calls_fit ks L);
}
