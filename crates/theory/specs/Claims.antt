-- What is claimed of the meanings, topic by topic. `specs/Theory` says under which conditions each claim is proved. Assumes nothing.
use Rattle.std.specs.Prelude.{◌≡◌, true, false, ◌⊎◌, ℕ, suc, ◌+◌, ◌-◌, ◌/◌, ◌%◌, ◌^◌, ◌≤◌, ◌<◌, length, get_or, take, drop}
use mathlib.Core.List.{List, [], ◌∷◌, ◌++◌, reverse, Lexᴰ}
use Rattle.theory.specs.Reasons as reason
use Rattle.theory.specs.Lists.{without, names, Cells}
use Rattle.theory.specs.Factorial.{factorial, falling}
use Rattle.theory.specs.Permutation.{IsPermutation, row, cell_at, top}
use Rattle.theory.specs.Push.{push, pushes, Places, push_cells, cell_places}
use Rattle.theory.specs.Successor.{successor, step}
use Rattle.theory.specs.Rank.{remaining, rank, digits, digit_value, weighted_sum}
use Rattle.theory.specs.Unrank.{unrank}
use Rattle.theory.specs.Zero.{value_from, permutation_from, old_zero, new_zero}
use Rattle.theory.specs.Levels.{level, highest, lowest, tied, permutation_of, ReadsAs, push_level, push_levels, jump}
use Rattle.theory.specs.CountUp.{count_up, call_number, call_pushes, call_levels}
use Rattle.theory.specs.Run.{steps, after_calls}
use Rattle.theory.specs.Deciding.{tests, deciding_size, shrunk, total_tests, factorial_sum}
use Rattle.theory.specs.Rewrite.{rewrite_count, rewrite_pushes}
use Rattle.theory.specs.Prefix.{IsPrefix, prefixes, prefix_at, prefix_number, prefix_length, symbol_prefix, symbol_of}
use Rattle.theory.specs.Store.{rest_leads, store_count, store_pushes}
use Rattle.theory.specs.Spent.{Spends, charge_of, count_up_pushes, call_charge, calls_charge}

-- "Why a job is sent back": the number of each word
pub record Reasons : Type 0 where
  pub done : reason.done ≡ 0
  pub size : reason.size ≡ 1
  pub fit : reason.fit ≡ 2
  pub muddle : reason.muddle ≡ 3
  pub tie : reason.tie ≡ 4
  pub value : reason.value ≡ 5
  pub ceiling : reason.ceiling ≡ 6
  pub idle : reason.idle ≡ 7
  pub sheet : reason.sheet ≡ 8
  -- document 02, request 2: "New numbers: 9 paper"
  pub paper : reason.paper ≡ 9
  -- request 4: "New numbers: 10 unsure"
  pub unsure : reason.unsure ≡ 10

-- factorials and falling factorials
pub record Factorials : Type 0 where
  -- "20! = 2,432,902,008,176,640,000 fits 64 bits."
  pub twenty : factorial 20 ≡ 2432902008176640000
  pub fits : (n : ℕ) → n ≤ 20 → factorial n < 2 ^ 64
  pub quotient : (n p : ℕ) → p ≤ n → falling n p ≡ factorial n / factorial (n - p)
  -- "n!/(n-p)!" fits 64 bits too
  pub quotient_fits : (n p : ℕ) → n ≤ 20 → factorial n / factorial (n - p) < 2 ^ 64
  -- document 02, request 10: "with 0 past i = n"
  pub past : (n p : ℕ) → n < p → falling n p ≡ 0

-- a row of twenty that holds xs, of at most twenty entries
pub record Padding (xs : List ℕ) : Type 0 where
  pub long : length (row xs) ≡ 20
  pub first : take (length xs) (row xs) ≡ xs
  pub past : (i : ℕ) → length xs ≤ i → get_or (row xs) i 0 ≡ 0

-- ranks and permutations of n cells
pub record Ranking (n : ℕ) : Type 0 where
  -- "Ranks run from 0 to n! - 1"
  pub below : (xs : List ℕ) → rank n xs < factorial n
  pub unrank_rank : (xs : List ℕ) → IsPermutation n xs → unrank n (rank n xs) ≡ xs
  pub rank_unrank : (r : ℕ) → r < factorial n → rank n (unrank n r) ≡ r
  pub unrank_permutation : (r : ℕ) → IsPermutation n (unrank n r)
  -- "the circle of cells is read upward and downward by turns": upward from the place above cell n, round to the place below it
  pub circle : (i : ℕ) (xs : List ℕ) → remaining i xs ≡ reverse (drop i xs ++ take (i - 1) xs)
  -- "Digits b0 first, n of them, the last always 0", each "from 0 to n - 1" for its n; they determine the rank
  pub digits_long : (xs : List ℕ) → length (digits n xs) ≡ n
  pub digits_range : (xs : List ℕ) (i : ℕ) → i < n → get_or (digits n xs) i 0 < n - i
  pub digits_last : (xs : List ℕ) → get_or (digits n xs) (n - 1) 0 ≡ 0
  pub digits_rank : (xs : List ℕ) → digit_value n (digits n xs) ≡ rank n xs
  -- document 02, request 10: of any n digits, the sum by weights is the number that they stand for; so "it must give the same rank for all orders"
  pub weighted : (ds : List ℕ) → length ds ≡ n → weighted_sum n n ds ≡ digit_value n ds
  pub weighted_rank : (xs : List ℕ) → weighted_sum n n (digits n xs) ≡ rank n xs

-- a step of n cells
pub record Stepping (n : ℕ) : Type 0 where
  pub place : (xs : List ℕ) → (2 ≤ successor n xs) × (successor n xs ≤ n)
  pub push_permutation : (i : ℕ) (xs : List ℕ) → 1 ≤ i → i ≤ n → IsPermutation n xs → IsPermutation n (push i xs)
  pub step_permutation : (xs : List ℕ) → IsPermutation n xs → IsPermutation n (step n xs)
  pub step_rank : (xs : List ℕ) → IsPermutation n xs → rank n (step n xs) ≡ (rank n xs + 1) % factorial n

-- document 02, request 9, "Which rule chose the step", of n cells
pub record Deciding (n : ℕ) : Type 0 where
  pub size : (xs : List ℕ) → (2 ≤ deciding_size n xs) × (deciding_size n xs ≤ n)
  -- the shrunken group of i cells is the group shrunk n - i times. Down to the deciding one each is a permutation, so that its largest cell is i
  pub group : (xs : List ℕ) → IsPermutation n xs → (i : ℕ) → deciding_size n xs ≤ i → i ≤ n → IsPermutation i (shrunk (n - i) xs)
  -- "the first whose largest cell is not on top, or 2"
  pub passed : (xs : List ℕ) (i : ℕ) → deciding_size n xs < i → i ≤ n → top (shrunk (n - i) xs) ≡ i
  pub stopped : (xs : List ℕ) → (deciding_size n xs ≡ 2) ⊎ (top (shrunk (n - deciding_size n xs) xs) ≡ deciding_size n xs → ⊥)
  -- "at which the answer fell": the next step of that group is at its last place. That of each larger one, up to the whole, is its size plus 1 less that of the next smaller one
  pub answer : (xs : List ℕ) → successor (deciding_size n xs) (shrunk (n - deciding_size n xs) xs) ≡ deciding_size n xs
  pub larger_answers :
      (xs : List ℕ) (i : ℕ) → deciding_size n xs ≤ i → i < n → successor (suc i) (shrunk (n - suc i) xs) ≡ suc i + 1 - successor i (shrunk (n - i) xs)
  -- each group from n cells down to the deciding one is tested, but that of two cells is not: "n = 2 has none"
  pub none : (xs : List ℕ) → n ≡ 2 → tests n xs ≡ 0
  pub tested : (xs : List ℕ) → 3 ≤ deciding_size n xs → tests n xs ≡ n + 1 - deciding_size n xs
  pub tested_all : (xs : List ℕ) → deciding_size n xs ≡ 2 → tests n xs ≡ n - 2
  -- so the tests tell the size, but for what the last one, of three cells, was answered
  pub told : (xs : List ℕ) → tests n xs < n - 2 → deciding_size n xs ≡ n + 1 - tests n xs
  pub told_last : (xs : List ℕ) → tests n xs ≡ n - 2 → deciding_size n xs ≤ 3
  -- the tests of one step are those on the permutation before it, and each further step adds its own
  pub total_one : (xs : List ℕ) → total_tests n 1 xs ≡ tests n xs
  pub total_step : (xs : List ℕ) (k : ℕ) → total_tests n (suc k) xs ≡ total_tests n k xs + total_tests n 1 (steps n k xs)
  -- "Summed over a whole round of n! steps from any order, they are the sum of i! for i from 3 to n"
  pub round : (xs : List ℕ) → IsPermutation n xs → total_tests n (factorial n) xs ≡ factorial_sum n

-- document 02, request 7: the values of n cells with the zero z. "both are shown for a zero of any order": z is any list
pub record Valuing (n : ℕ) (z : List ℕ) : Type 0 where
  -- the count starts at the zero
  pub start : value_from n z z ≡ 0
  -- "Any k steps add k to the value modulo n!"
  pub counted : (xs : List ℕ) → IsPermutation n xs → (k : ℕ) → value_from n z (steps n k xs) ≡ (value_from n z xs + k) % factorial n
  -- "each value from 0 to n! - 1 belongs to exactly one order of n cells": there are no other values, a permutation has each of them, and no other permutation
  -- has the same
  pub below : (xs : List ℕ) → value_from n z xs < factorial n
  pub has : (v : ℕ) → v < factorial n → IsPermutation n (permutation_from n z v) × (value_from n z (permutation_from n z v) ≡ v)
  pub only : (v : ℕ) (xs : List ℕ) → IsPermutation n xs → value_from n z xs ≡ v → xs ≡ permutation_from n z v

-- "and used for these two": the old zero and the new, of n cells
pub record Zeros (n : ℕ) : Type 0 where
  pub old_permutation : IsPermutation n (old_zero n)
  pub new_permutation : IsPermutation n (new_zero n)
  pub old : Valuing n (old_zero n)
  pub new : Valuing n (new_zero n)
  pub old_rank : rank n (old_zero n) ≡ 0
  -- so on the old zero the value is the rank, as it was before there was a new one
  pub old_value : (xs : List ℕ) → value_from n (old_zero n) xs ≡ rank n xs
  -- request 8, of a group that changes from the old zero to the new and keeps its permutation: "only the value differs, by the rank of [1,2,...,n] modulo n!"
  pub changed : (xs : List ℕ) → value_from n (old_zero n) xs ≡ (value_from n (new_zero n) xs + rank n (new_zero n)) % factorial n

-- the permutation of levels without a tie
pub record Reading (L : List ℕ) : Type 0 where
  -- it is the only one along which the levels strictly fall
  pub reads : ReadsAs L (permutation_of L)
  pub only : (xs : List ℕ) → ReadsAs L xs → permutation_of L ≡ xs
  -- "Top and bottom are the highest and lowest level"
  pub top_highest : 1 ≤ length L → level L (top (permutation_of L)) ≡ highest L
  pub bottom_lowest : 1 ≤ length L → level L (cell_at (length L) (permutation_of L)) ≡ lowest L
  -- "that cell's level becomes the old top level plus 1 and no other changes"
  pub push_level_lem : (c : ℕ) → 1 ≤ c → c ≤ length L → level (push_level c L) c ≡ highest L + 1
  pub push_others : (c d : ℕ) → 1 ≤ c → 1 ≤ d → (d ≡ c → ⊥) → level (push_level c L) d ≡ level L d
  pub push_length : (c : ℕ) → length (push_level c L) ≡ length L
  -- "a push raises a cell by its new level less its old"
  pub push_jump : (c : ℕ) → 1 ≤ c → c ≤ length L → level L c + jump c L ≡ level (push_level c L) c
  -- a push on the levels is the push of the permutation; the highest level rises by one, and no tie comes up
  pub push_read :
      (i : ℕ) → 1 ≤ i → i ≤ length L → permutation_of (push_level (cell_at i (permutation_of L)) L) ≡ push i (permutation_of L)
  pub push_highest : (c : ℕ) → 1 ≤ c → c ≤ length L → highest (push_level c L) ≡ highest L + 1
  pub push_untied : (c : ℕ) → 1 ≤ c → c ≤ length L → tied (push_level c L) ≡ false
  -- and so of a row of pushes of cells
  pub row_read : (cs : List ℕ) → Cells (length L) cs → permutation_of (push_levels cs L) ≡ push_cells cs (permutation_of L)
  pub row_highest : (cs : List ℕ) → Cells (length L) cs → highest (push_levels cs L) ≡ highest L + length cs

-- rewriting a permutation of n cells to a target permutation
pub record Rewriting (n : ℕ) (xs target : List ℕ) : Type 0 where
  pub reaches : push_cells (rewrite_pushes xs target) xs ≡ target
  pub many : length (rewrite_pushes xs target) ≡ rewrite_count xs target
  -- each of them is a push of a cell, at a place 2 to n
  pub cells : Cells n (rewrite_pushes xs target)
  pub places : Places n (cell_places (rewrite_pushes xs target) xs)
  pub at_most : rewrite_count xs target ≤ n - 1
  -- no shorter row of pushes gives the target
  pub fewest : (is : List ℕ) → Places n is → pushes is xs ≡ target → rewrite_count xs target ≤ length is

-- the enumeration of the prefixes of length p of n cells
pub record Numbering (n p : ℕ) : Type 0 where
  pub many : length (prefixes p (names n)) ≡ factorial n / factorial (n - p)
  -- strictly lexicographic, which `Lexᴰ` says of lists for an order of their entries
  pub lexicographic : (s t : ℕ) → s < t → t < length (prefixes p (names n)) → Lexᴰ ◌<◌ (prefix_at n p s) (prefix_at n p t)
  pub prefix : (s : ℕ) → s < length (prefixes p (names n)) → IsPrefix n p (prefix_at n p s)
  -- the number of a prefix undoes the enumeration, and the other way round; what follows the prefix in xs plays no part
  pub number_prefix :
      (s : ℕ) (rest : List ℕ) → s < length (prefixes p (names n)) → prefix_number n p (prefix_at n p s ++ rest) ≡ s
  pub prefix_number_lem :
      (xs : List ℕ) → IsPrefix n p (take p xs)
      → (prefix_number n p xs < length (prefixes p (names n))) × (prefix_at n p (prefix_number n p xs) ≡ take p xs)

-- a code of m symbols on n cells
pub record Coding (n m : ℕ) : Type 0 where
  pub at_most : prefix_length n m ≤ n
  pub enough : m ≤ factorial n / factorial (n - prefix_length n m)
  pub least : (p : ℕ) → p < prefix_length n m → factorial n / factorial (n - p) < m
  -- every permutation is led by the prefix whose number is read from it: "Reading gives the symbol whose prefix leads the order."
  pub reads :
      (xs : List ℕ) → IsPermutation n xs
      → (symbol_of n m xs < factorial n / factorial (n - prefix_length n m)) × (symbol_prefix n m (symbol_of n m xs) ≡ take (prefix_length n m) xs)
  -- "With m = 1, p is 0"
  pub one : m ≡ 1 → prefix_length n m ≡ 0

-- storing a prefix q of p cells in a permutation of n cells
pub record Storing (n p : ℕ) (q xs : List ℕ) : Type 0 where
  -- "the smallest r for which the order, with the prefix's first r cells taken out, begins with the rest of the prefix"
  pub leads : rest_leads q xs (store_count q xs) ≡ true
  pub smallest : (r : ℕ) → rest_leads q xs r ≡ true → store_count q xs ≤ r
  -- the prefix, and below it the other cells in their old sequence
  pub reaches : push_cells (store_pushes q xs) xs ≡ q ++ without q xs
  -- by as many pushes as it counts, each of a cell, at a place 2 to n
  pub counted : store_count q xs ≡ length (store_pushes q xs)
  pub cells : Cells n (store_pushes q xs)
  pub places : Places n (cell_places (store_pushes q xs) xs)
  -- "no shorter row of pushes reaches any order with that prefix"
  pub fewest : (is : List ℕ) → Places n is → take p (pushes is xs) ≡ q → store_count q xs ≤ length is
  -- a prefix that leads already needs no push
  pub standing : take p xs ≡ q → store_count q xs ≡ 0
  -- it is a rewrite: to the prefix, and below it the other cells in their old sequence
  pub rewrites : store_count q xs ≡ rewrite_count xs (q ++ without q xs)

-- storing symbol s of m in a permutation of n cells
pub record SymbolStoring (n m s : ℕ) (xs : List ℕ) : Type 0 where
  -- it has a prefix, which is stored as any other
  pub prefix : IsPrefix n (prefix_length n m) (symbol_prefix n m s)
  -- "With m = 1 [..] no push is done."
  pub one : m ≡ 1 → store_count (symbol_prefix n m s) xs ≡ 0
  -- what was stored is read
  pub read : symbol_of n m (push_cells (store_pushes (symbol_prefix n m s) xs) xs) ≡ s

-- the answer of a count-up call with k on any levels
pub record Calling (k : ℕ) (L : List ℕ) : Type 0 where
  -- "Where several hold, the lowest number is given"
  pub too_few : length L < 2 → call_number k L ≡ 1
  pub too_many : 20 < length L → call_number k L ≡ 1
  pub tie : 2 ≤ length L → length L ≤ 20 → tied L ≡ true → call_number k L ≡ 4
  pub ceiling : 2 ≤ length L → length L ≤ 20 → tied L ≡ false → 65535 < highest L + k → call_number k L ≡ 6
  pub done : 2 ≤ length L → length L ≤ 20 → tied L ≡ false → highest L + k ≤ 65535 → call_number k L ≡ 0
  -- done, it gives k pushes and the levels of k steps; refused, 0 pushes "and no change in any lent list"
  pub counted : call_number k L ≡ 0 → (call_pushes k L ≡ k) × (call_levels k L ≡ count_up k L)
  pub unchanged : (call_number k L ≡ 0 → ⊥) → (call_pushes k L ≡ 0) × (call_levels k L ≡ L)

-- document 02, request 3: the charge that pushes on levels L spend is the sum of all levels afterwards less the sum before
pub record Spending (L : List ℕ) : Type 0 where
  -- "a push costs more the lower its cell stands"
  pub lower : (c d : ℕ) → Cells (length L) (c ∷ d ∷ []) → level L c < level L d → jump d L < jump c L
  -- of one push, and of a row of pushes of cells
  pub push : (c : ℕ) → 1 ≤ c → c ≤ length L → Spends L (push_level c L) (jump c L)
  pub row : (cs : List ℕ) → Cells (length L) cs → Spends L (push_levels cs L) (charge_of cs L)
  -- of a rewrite and of a store
  pub rewrite :
      (target : List ℕ) → 1 ≤ length L → IsPermutation (length L) target
      → Spends L (push_levels (rewrite_pushes (permutation_of L) target) L) (charge_of (rewrite_pushes (permutation_of L) target) L)
  pub store :
      (p : ℕ) (q : List ℕ) → IsPrefix (length L) p q
      → Spends L (push_levels (store_pushes q (permutation_of L)) L) (charge_of (store_pushes q (permutation_of L)) L)
  -- of count up by k, which is a row of k pushes
  pub count : (k : ℕ) → 2 ≤ length L → Spends L (count_up k L) (charge_of (count_up_pushes k L) L)
  pub count_row : (k : ℕ) → count_up k L ≡ push_levels (count_up_pushes k L) L
  pub count_long : (k : ℕ) → length (count_up_pushes k L) ≡ k
  -- of a count-up call, which spends nothing when it is refused, and of a list of them
  pub call : (k : ℕ) → Spends L (call_levels k L) (call_charge k L)
  pub refused : (k : ℕ) → (call_number k L ≡ 0 → ⊥) → call_charge k L ≡ 0
  pub calls : (ks : List ℕ) → Spends L (after_calls ks L) (calls_charge ks L)
  -- "in 32 bits": a row of pushes that is not refused, of up to twenty levels, and any list of calls on any levels
  pub row_fits : (cs : List ℕ) → Cells (length L) cs → length L ≤ 20 → highest L + length cs ≤ 65535 → charge_of cs L < 2 ^ 32
  pub calls_fit : (ks : List ℕ) → calls_charge ks L < 2 ^ 32
