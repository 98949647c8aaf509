-- A row of digits by weights, the lowest digit first: what holds when i digits were read. Then the rank and the value of a record. Assumes nothing.
use mathlib.Core.Path.{◌≡◌, refl, sym, ap, ap₂, ◌∙◌}
use mathlib.Core.List.{List}
use Prim.Native.Nat.{ℕ, suc, ◌+◌, ◌-◌, ◌*◌, ◌^◌, ◌≤◌, ◌<◌}
use native.Mathlib.Omega.{arith}
use lib.ListN.{get_or, take, length}
use lib.Seq.{get_or-take}
use Rattle.theory.specs.Factorial.{falling}
use Rattle.theory.specs.Permutation.{IsPermutation, row}
use Rattle.theory.specs.Rank.{rank, digits, digit_value, weighted_sum}
use Rattle.theory.specs.Claims.{Padding}
use Rattle.theory.proofs.Factorials.{factorials, falling_quotient}
use Rattle.theory.proofs.Padding.{padding}
use Rattle.theory.proofs.Weights.{weighted_value, weighted_below}
use Rattle.theory.proofs.Ranking.{digits_long, digits_rank, ranking}
use Rattle.permutation.specs.Records.{list_of, record_of, record_number}
use Rattle.permutation.specs.declared.answers.Permutation.{Permutation}
use Rattle.permutation.proofs.Records.{Sound, sound, fault_record}
use Rattle.permutation.proofs.Answering.{list_record}
use Rattle.ranking.specs.Answers.{rank_answer, value_answer}
use Rattle.ranking.specs.declared.answers.Ranked.{Ranked}
use Rattle.ranking.specs.Zeros.{value_on}
use Rattle.ranking.specs.declared.zero.Zero.{Zero}
use Rattle.ranking.specs.BySpots.{Bounded}

-- the first i digits by weights
pub record Summed (row : List ℕ) (n i sum : ℕ) : Type 0 where
  pub within : i ≤ n
  pub is : sum ≡ weighted_sum n i row
  pub below : sum < falling n i

module _ (row : List ℕ) (n : ℕ) where
  pub summed_none : Summed row n 0 0
  unfolding weighted_sum
  summed_none = record { within = omega arith; is = refl; below = omega arith }

  module _ {i sum d w : ℕ} (v : Summed row n i sum) (more : i < n) (is_d : d ≡ get_or row i 0) (small : d < n - i) (is_w : w ≡ falling n i) where
    next_below : sum + d * w < falling n (suc i)
    next_below = rw is_w (weighted_below n i v.below small)

    pub summed_more : Summed row n (suc i) (sum + d * w)
    unfolding weighted_sum
    summed_more = record {
      within = more;
      is = ap₂ (λ (s t : ℕ). s + t) v.is (ap₂ (λ (x y : ℕ). x * y) is_d (is_w ∙ falling_quotient n i v.within));
      below = next_below;
    }

    pub summed_fits : n ≤ 20 → sum + d * w < 2 ^ 64
    summed_fits few = omega (arith, next_below, falling_quotient n (suc i) more, factorials.quotient_fits n (suc i) few)

  pub summed_all : {i sum : ℕ} → i ≡ n → Summed row n i sum → sum ≡ weighted_sum n n row
  summed_all e v = v.is ∙ ap (λ (k : ℕ). weighted_sum n k row) e

-- ---- the row of a permutation's digits
module _ (n : ℕ) (xs : List ℕ) (few : n ≤ 20) where
  padded : Padding (digits n xs)
  padded = padding (digits n xs) (omega (arith, digits_long n xs))

  first : take n (row (digits n xs)) ≡ digits n xs
  first = ap (λ (k : ℕ). take k (row (digits n xs))) (sym (digits_long n xs)) ∙ padded.first

  pub digits_bounded : Bounded (row (digits n xs)) n
  digits_bounded = record { few = few; small = small }
    where
      small : (i : ℕ) → i < n → get_or (row (digits n xs)) i 0 < n - i
      small i h =
          rw (← get_or-take n (row (digits n xs)) i 0 h, first) ((ranking n).digits_range xs i h)

  pub row_rank : weighted_sum n n (row (digits n xs)) ≡ rank n xs
  row_rank =
      weighted_value n n (row (digits n xs)) (omega arith) (omega (arith, padded.long)) ∙ ap (digit_value n) first ∙ digits_rank n xs

-- the rank and the value of the record of a permutation
module _ (n : ℕ) (xs : List ℕ) (few : 2 ≤ n) (many : n ≤ 20) (o : IsPermutation n xs) where
  pub ranked_record : rank_answer (record_of xs) ≡ record { number = 0; rank = rank n xs }
  unfolding rank_answer
  ranked_record = rw (fault_record n xs few many o, list_record n xs few many o, o.long)

  pub valued_record : (z : Zero) → value_answer (record_of xs) z ≡ record { number = 0; value = value_on z n xs }
  unfolding value_answer
  valued_record z = rw (fault_record n xs few many o, list_record n xs few many o, o.long)

-- ---- what the answer of a job that gives a rank tells of its record
module _ (p : Permutation) {a : Ranked} (e : a ≡ rank_answer p) where
  pub rank_number : a.number ≡ record_number p
  unfolding rank_answer
  rank_number = ap (λ (k : Ranked). k.number) e

  pub rank_sound : length p.cells ≡ 20 → a.number ≡ 0 → Sound p
  rank_sound long z = sound p long (sym rank_number ∙ z)

  pub rank_is : Sound p → a.rank ≡ rank p.n (list_of p)
  unfolding rank_answer
  rank_is s = ap (λ (k : Ranked). k.rank) e ∙ rw s.fault
