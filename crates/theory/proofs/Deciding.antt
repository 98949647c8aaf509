-- What decided a step: its tests and its deciding size, by cases, and the tests of a whole round. Assumes nothing.
use mathlib.Core.Path.{◌≡◌, refl, sym, ap, ◌∙◌, subst}
use mathlib.Core.Bool.{cond}
use mathlib.Core.Logic.{◌⊎◌, inl, inr}
use mathlib.Core.List.{List, [], ◌∷◌, ◌++◌, reverse}
use Prim.Native.Nat.{ℕ, zero, suc, ◌+◌, ◌-◌, ◌*◌, ◌/◌, ◌%◌, ◌≤◌, ◌<◌, max}
use native.Mathlib.Nat.{mod-lt, mod-add-div, add-mul-div_left, div-eq_of_lt, mul_assoc}
use native.Mathlib.Omega.{arith}
use borrow.Author.Tests.{eq-eqb, ne_eqb, le-leb, lt-leb}
use lib.Dec.{leb}
use lib.ListN.{length}
use Rattle.theory.specs.Lists.{count}
use Rattle.theory.specs.Factorial.{factorial}
use Rattle.theory.specs.Permutation.{IsPermutation, top}
use Rattle.theory.specs.Successor.{smaller, successor}
use Rattle.theory.specs.Rank.{rank}
use Rattle.theory.specs.Run.{steps}
use Rattle.theory.specs.Deciding.{tests, deciding_size, shrunk, total_tests, factorial_sum}
use Rattle.theory.specs.Claims.{Deciding}
use Rattle.theory.proofs.Cases.{by_name, by_le}
use Rattle.theory.proofs.Counts.{delta_eq}
use Rattle.theory.proofs.Permutations.{around}
use Rattle.theory.proofs.Splits.{rank_is, digit_top, digit_lower, successor_low, successor_top}
use Rattle.theory.proofs.Cycle.{run_permutation, run_rank}

-- ---- one step

module _ (m : ℕ) (xs : List ℕ) where
  pub tests_few : suc m ≤ 2 → tests (suc m) xs ≡ 0
  unfolding tests
  tests_few l = rw (le-leb (suc m) 2 l)

  pub tests_top : 2 < suc m → top xs ≡ suc m → tests (suc m) xs ≡ 1 + tests m (smaller xs)
  unfolding tests
  tests_top l e = rw (lt-leb (suc m) 2 l, eq-eqb (top xs) (suc m) e)

  pub tests_low : 2 < suc m → (top xs ≡ suc m → ⊥) → tests (suc m) xs ≡ 1
  unfolding tests
  tests_low l ne = rw (lt-leb (suc m) 2 l, ne_eqb (top xs) (suc m) ne)

  pub size_few : suc m ≤ 2 → deciding_size (suc m) xs ≡ 2
  unfolding deciding_size
  size_few l = rw (le-leb (suc m) 2 l)

  pub size_top : 2 < suc m → top xs ≡ suc m → deciding_size (suc m) xs ≡ deciding_size m (smaller xs)
  unfolding deciding_size
  size_top l e = rw (lt-leb (suc m) 2 l, eq-eqb (top xs) (suc m) e)

  pub size_low : 2 < suc m → (top xs ≡ suc m → ⊥) → deciding_size (suc m) xs ≡ suc m
  unfolding deciding_size
  size_low l ne = rw (lt-leb (suc m) 2 l, ne_eqb (top xs) (suc m) ne)

  -- the three cases of a decision
  by_top : {P : Type 0} → (suc m ≤ 2 → P) → (2 < suc m → top xs ≡ suc m → P) → (2 < suc m → (top xs ≡ suc m → ⊥) → P) → P
  by_top few above low = by_le (suc m) 2 few (λ l. by_name (top xs) (suc m) (λ q e. above l q) (λ ne e. low l ne))

size_bounds : (n : ℕ) (xs : List ℕ) → 2 ≤ n → (2 ≤ deciding_size n xs) × (deciding_size n xs ≤ n)
size_bounds zero xs big = absurd (omega arith)
size_bounds (suc m) xs big =
    by_top m xs
    (λ l. let s = size_few m xs l in (omega arith, omega arith))
    (λ l q. let b = size_bounds m (smaller xs) (omega arith) in let s = size_top m xs l q in (omega (arith, b.0), omega (arith, b.1)))
    (λ l ne. let s = size_low m xs l ne in (omega arith, omega arith))

-- one test of each size from n down to the deciding one, and none of two cells
pub size_tests : (n : ℕ) (xs : List ℕ) → 2 ≤ n → tests n xs + max 3 (deciding_size n xs) ≡ max 3 (n + 1)
size_tests zero xs big = absurd (omega arith)
size_tests (suc m) xs big =
    by_top m xs
    (λ l. omega (arith, size_few m xs l, tests_few m xs l))
    (λ l q. omega (arith, size_top m xs l q, tests_top m xs l q, size_tests m (smaller xs) (omega arith)))
    (λ l ne. omega (arith, size_low m xs l ne, tests_low m xs l ne))

-- ---- the shrunken groups

passed : (n : ℕ) (xs : List ℕ) (i : ℕ) → deciding_size n xs < i → i ≤ n → top (shrunk (n - i) xs) ≡ i
unfolding shrunk deciding_size
passed zero xs i h k = absurd (omega arith)
passed (suc m) xs i h k =
    by_top m xs
    (λ l. absurd (omega (arith, size_few m xs l)))
    (λ l q. by_le i m
    (λ j. let s : suc m - i ≡ suc (m - i) = omega arith in rw s (passed m (smaller xs) i (omega (arith, size_top m xs l q)) j))
    (λ j. let s : suc m - i ≡ 0 = omega arith in rw s (q ∙ omega arith)))
    (λ l ne. absurd (omega (arith, size_low m xs l ne)))

-- below its largest cell, a permutation that has it on top is one too
smaller_permutation : (m : ℕ) (xs : List ℕ) → IsPermutation (suc m) xs → top xs ≡ suc m → IsPermutation m (smaller xs)
unfolding smaller
smaller_permutation m xs o q = let a = around o in go a.above a.below a.parts a.none_above a.others
  where
    go : (u v : List ℕ) → xs ≡ u ++ suc m ∷ v → count (suc m) u ≡ 0 → IsPermutation m (reverse u ++ reverse v) → IsPermutation m (smaller xs)
    go [] v e none p = subst (λ (l : List ℕ). IsPermutation m (smaller l)) (sym e) p
    go (x ∷ u) v e none p = absurd (omega (arith, delta_eq x (suc m) (sym (ap top e) ∙ q)))

group : (n : ℕ) (xs : List ℕ) → IsPermutation n xs → (i : ℕ) → deciding_size n xs ≤ i → i ≤ n → IsPermutation i (shrunk (n - i) xs)
unfolding shrunk
group zero xs o i h k = let z : i ≡ 0 = omega arith in rw z o
group (suc m) xs o i h k =
    by_le (suc m) i
    (λ l. let w : i ≡ suc m = omega arith in let s : suc m - i ≡ 0 = omega arith in rw (s, w) o)
    (λ l. by_top m xs
    (λ few. absurd (omega (arith, size_few m xs few)))
    (λ many q.
    let s : suc m - i ≡ suc (m - i) = omega arith in
    rw s (group m (smaller xs) (smaller_permutation m xs o q) i (omega (arith, size_top m xs many q)) (omega arith)))
    (λ many ne. absurd (omega (arith, size_low m xs many ne))))

-- the group at which the answer falls: the whole one, or the one at which the smaller group's falls
group_whole : (m : ℕ) (xs : List ℕ) → suc m ≤ deciding_size (suc m) xs → shrunk (suc m - deciding_size (suc m) xs) xs ≡ xs
unfolding shrunk
group_whole m xs l = let s : suc m - deciding_size (suc m) xs ≡ 0 = omega arith in rw s

group_smaller : (m : ℕ) (xs : List ℕ) → 2 < suc m → deciding_size (suc m) xs ≡ deciding_size m (smaller xs)
    → shrunk (suc m - deciding_size (suc m) xs) xs ≡ shrunk (m - deciding_size m (smaller xs)) (smaller xs)
unfolding shrunk
group_smaller m xs l t =
    let b = size_bounds m (smaller xs) (omega arith) in
    let s : suc m - deciding_size (suc m) xs ≡ suc (m - deciding_size m (smaller xs)) = omega (arith, b.1) in
    rw s

stopped : (n : ℕ) (xs : List ℕ) → 2 ≤ n → (deciding_size n xs ≡ 2) ⊎ (top (shrunk (n - deciding_size n xs) xs) ≡ deciding_size n xs → ⊥)
stopped zero xs big = absurd (omega arith)
stopped (suc m) xs big =
    by_top m xs
    (λ l. inl (size_few m xs l))
    (λ l q. let t = size_top m xs l q in rw (group_smaller m xs l t, t) (stopped m (smaller xs) (omega arith)))
    (λ l ne. let t = size_low m xs l ne in inr (λ k. ne (sym (ap top (group_whole m xs (omega arith))) ∙ k ∙ t)))

successor_two : (xs : List ℕ) → successor 2 xs ≡ 2
unfolding successor
successor_two xs = refl

answer : (n : ℕ) (xs : List ℕ) → 2 ≤ n → successor (deciding_size n xs) (shrunk (n - deciding_size n xs) xs) ≡ deciding_size n xs
answer zero xs big = absurd (omega arith)
answer (suc m) xs big =
    by_top m xs
    (λ l. let t = size_few m xs l in rw t (successor_two (shrunk (suc m - 2) xs)))
    (λ l q. let t = size_top m xs l q in rw (group_smaller m xs l t, t) (answer m (smaller xs) (omega arith)))
    (λ l ne. let t = size_low m xs l ne in rw (group_whole m xs (omega arith), t) (successor_low m xs (omega arith) ne))

larger_answers : (n : ℕ) (xs : List ℕ) (i : ℕ) → deciding_size n xs ≤ i → i < n
    → successor (suc i) (shrunk (n - suc i) xs) ≡ suc i + 1 - successor i (shrunk (n - i) xs)
unfolding shrunk
larger_answers zero xs i h k = absurd (omega arith)
larger_answers (suc m) xs i h k =
    by_top m xs
    (λ l. absurd (omega (arith, size_few m xs l)))
    (λ l q. by_le (suc i) m
    (λ j.
    let s : suc m - suc i ≡ suc (m - suc i) = omega arith in
    let t : suc m - i ≡ suc (m - i) = omega arith in
    rw (s, t) (larger_answers m (smaller xs) i (omega (arith, size_top m xs l q)) j))
    (λ j.
    let w : i ≡ m = omega arith in
    let s : suc m - suc m ≡ 0 = omega arith in
    let t : suc m - m ≡ 1 = omega arith in
    rw (w, s, t) (successor_top m xs (omega arith) q)))
    (λ l ne. absurd (omega (arith, size_low m xs l ne)))

-- ---- runs of steps, and a round

total_one : (n : ℕ) (xs : List ℕ) → total_tests n 1 xs ≡ tests n xs
unfolding total_tests steps
total_one n xs = omega arith

total_step : (n : ℕ) (xs : List ℕ) (k : ℕ) → total_tests n (suc k) xs ≡ total_tests n k xs + total_tests n 1 (steps n k xs)
unfolding total_tests steps
total_step n xs k = omega arith

-- the tests at the ranks below r: of n cells one at each, and of fewer cells those of the rank that remains, once for each whole turn of cell n
unfoldable tests_below : ℕ → ℕ → ℕ
tests_below zero r = 0
tests_below (suc m) r = cond (leb (suc m) 2) 0 (r + tests_below m (r / suc m))

below_none : (r : ℕ) → tests_below 0 r ≡ 0
unfolding tests_below
below_none r = refl

below_few : (m r : ℕ) → suc m ≤ 2 → tests_below (suc m) r ≡ 0
unfolding tests_below
below_few m r l = rw (le-leb (suc m) 2 l)

below_many : (m r d q : ℕ) → 2 < suc m → r ≡ d + suc m * q → d < suc m → tests_below (suc m) r ≡ r + tests_below m q
unfolding tests_below
below_many m r d q l e h =
    let s : r / suc m ≡ q = omega (
      arith,
      ap (λ (t : ℕ). t / suc m) e,
      add-mul-div_left d q {y = suc m} (omega arith),
      div-eq_of_lt {n = d} {m = suc m} h,
    ) in
    rw (lt-leb (suc m) 2 l, s)

-- the tests at a rank
below_next : (n : ℕ) (xs : List ℕ) → IsPermutation n xs → tests_below n (rank n xs + 1) ≡ tests_below n (rank n xs) + tests n xs
unfolding tests_below tests smaller
below_next zero xs o = refl
below_next (suc m) xs o =
    by_le (suc m) 2
    (λ l. omega (arith, below_few m (rank (suc m) xs + 1) l, below_few m (rank (suc m) xs) l, tests_few m xs l))
    (λ l. let a = around o in
    go l a.above a.below a.parts a.none_above a.sizes (below_next m (reverse a.above ++ reverse a.below) a.others))
  where
    r : ℕ
    r = rank (suc m) xs

    go : 2 < suc m → (u v : List ℕ) → xs ≡ u ++ suc m ∷ v → count (suc m) u ≡ 0 → length u + length v ≡ m
        → (let q : ℕ = rank m (reverse u ++ reverse v) in tests_below m (q + 1) ≡ tests_below m q + tests m (reverse u ++ reverse v))
        → tests_below (suc m) (r + 1) ≡ tests_below (suc m) r + tests (suc m) xs
    go l [] v e none sizes later =
        let q : ℕ = rank m (reverse v) in
        let is : r ≡ m + suc m * q = rank_is m [] v e none ∙ omega (arith, digit_top m) in
        omega (
          arith,
          below_many m r m q l is (omega arith),
          below_many m (r + 1) 0 (q + 1) l (omega arith) (omega arith),
          tests_top m xs l (ap top e),
          ap (λ (ys : List ℕ). tests m (smaller ys)) e,
          later,
        )
    go l (x ∷ u) v e none sizes later =
        let q : ℕ = rank m (reverse (x ∷ u) ++ reverse v) in
        let is : r ≡ length u + suc m * q =
        rank_is m (x ∷ u) v e none ∙ omega (arith, digit_lower m (suc (length (x ∷ u))) (omega arith) (omega arith)) in
        omega (
          arith,
          below_many m r (length u) q l is (omega arith),
          below_many m (r + 1) (length u + 1) q l (omega arith) (omega arith),
          tests_low m xs l (λ k. omega (arith, delta_eq x (suc m) (sym (ap top e) ∙ k))),
        )

sum_few : (n : ℕ) → n ≤ 2 → factorial_sum n ≡ 0
sum_few zero l = refl
sum_few (suc m) l = rw (lt-leb 3 (suc m) (omega arith)) (omega (arith, sum_few m (omega arith)))

sum_many : (m : ℕ) → 2 < suc m → factorial_sum (suc m) ≡ factorial_sum m + factorial (suc m)
sum_many m l = rw (le-leb 3 (suc m) l)

-- q rounds further on, they are as many more as q rounds have
below_rounds : (n r q : ℕ) → tests_below n (r + factorial n * q) ≡ tests_below n r + factorial_sum n * q
below_rounds zero r q = omega (arith, below_none (r + factorial 0 * q), below_none r)
below_rounds (suc m) r q =
    by_le (suc m) 2
    (λ l.
    let none : factorial_sum (suc m) * q ≡ 0 = ap (λ (t : ℕ). t * q) (sum_few (suc m) l) ∙ omega arith in
    omega (arith, below_few m (r + factorial (suc m) * q) l, below_few m r l))
    (λ l.
    let d : ℕ = r % suc m in
    let p : ℕ = r / suc m in
    let less : d < suc m = mod-lt r (omega arith) in
    let whole : r ≡ d + suc m * p = sym (mod-add-div r (suc m)) in
    let more : r + factorial (suc m) * q ≡ d + suc m * (p + factorial m * q) = omega (arith, mul_assoc (suc m) (factorial m) q) in
    let sum : factorial_sum (suc m) * q ≡ factorial_sum m * q + factorial (suc m) * q =
    ap (λ (t : ℕ). t * q) (sum_many m l) ∙ omega arith in
    omega (
      arith,
      below_many m (r + factorial (suc m) * q) d (p + factorial m * q) l more less,
      below_many m r d p l whole less,
      below_rounds m p q,
    ))

module _ (n : ℕ) (big : 2 ≤ n) (xs : List ℕ) (o : IsPermutation n xs) where
  -- the tests of k steps
  run_tests : (k : ℕ) → total_tests n k xs + tests_below n (rank n xs) ≡ tests_below n (rank n xs + k)
  unfolding total_tests
  run_tests zero = let e : rank n xs ≡ rank n xs + 0 = omega arith in omega (arith, ap (tests_below n) e)
  run_tests (suc k) =
      let N : ℕ = factorial n in
      let t : ℕ = rank n xs + k in
      let ys : List ℕ = steps n k xs in
      let is : rank n ys ≡ t % N = run_rank n big xs o k in
      let whole : t % N + N * (t / N) ≡ t = mod-add-div t N in
      let next : t % N + 1 + N * (t / N) ≡ rank n xs + suc k = omega arith in
      omega (
        arith,
        run_tests k,
        rw is at (below_next n ys (run_permutation n big xs o k)),
        ap (tests_below n) whole,
        ap (tests_below n) next,
        below_rounds n (t % N) (t / N),
        below_rounds n (t % N + 1) (t / N),
      )

  pub round_tests : total_tests n (factorial n) xs ≡ factorial_sum n
  round_tests =
      let one : rank n xs + factorial n * 1 ≡ rank n xs + factorial n = omega arith in
      omega (arith, run_tests (factorial n), ap (tests_below n) one, below_rounds n (rank n xs) 1)

pub deciding : (n : ℕ) → 2 ≤ n → Deciding n
deciding n big = record {
  size = λ xs. size_bounds n xs big;
  group = group n;
  passed = passed n;
  stopped = λ xs. stopped n xs big;
  answer = λ xs. answer n xs big;
  larger_answers = larger_answers n;
  none = λ xs two. omega (arith, size_tests n xs big, (size_bounds n xs big).1);
  tested = λ xs h. omega (arith, size_tests n xs big, (size_bounds n xs big).1);
  tested_all = λ xs h. omega (arith, size_tests n xs big);
  told = λ xs h. omega (arith, size_tests n xs big, (size_bounds n xs big).1);
  told_last = λ xs h. omega (arith, size_tests n xs big, (size_bounds n xs big).1);
  total_one = total_one n;
  total_step = total_step n;
  round = round_tests n big;
}
