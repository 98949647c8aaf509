-- What the job is judged by, and what it answers and leaves. Assumes nothing.
use mathlib.Core.Path.{◌≡◌, ap, sym, ◌∙◌}
use mathlib.Core.Logic.{◌↔◌}
use mathlib.Core.List.{List, ◌++◌, flatten}
use Prim.Native.Nat.{ℕ, ◌+◌, ◌-◌, ◌*◌, ◌/◌, ◌≤◌, ◌<◌}
use native.Mathlib.Nat.{div-lt_iff_lt-mul}
use native.Mathlib.Omega.{arith}
use lib.ListN.{length, take, drop}
use lib.Seq.{sets, sets-eq}
use borrow.Author.Tests.{le-leb, lt-leb}
use Rattle.theory.specs.Reasons.{fit, value}
use Rattle.theory.specs.Factorial.{falling}
use Rattle.theory.specs.Permutation.{IsPermutation}
use Rattle.theory.specs.Levels.{read_number, permutation_of}
use Rattle.theory.proofs.Cases.{by_le}
use Rattle.theory.proofs.Factorials.{falling_quotient}
use Rattle.theory.proofs.Refusal.{refused, answered, or_else_refused, Readable, read_done}
use Rattle.theory.proofs.Sorting.{permutation_of_permutation}
use Rattle.reach.specs.Reach.{within_reach}
use Rattle.reach.specs.Answers.{reach_count, reach_bytes, reach_number, reach_answer, reach_list, ReachOf}
use Rattle.reach.specs.Led.{LedRow, HasRoom}
use Rattle.reach.specs.declared.answers.Reached.{Reached}
use Rattle.reach.proofs.Reaching.{within_many, reaching}
use Rattle.reach.proofs.ListedBytes.{flatten_at, entries_long, within_bytes, reaching_as}

-- on the levels L, by r, with the lent list `list`: what it answers, and the list that it leaves
abbrev Answered : List ℕ → ℕ → List ℕ → Reached → List ℕ → Type 0
Answered L r list a left = (a ≡ reach_answer L r (length list)) × ((left ≡ reach_list L r list) × ReachOf L r a left)

pub job_refused :
    (L : List ℕ) (r : ℕ) (list : List ℕ) {a : Reached} {number : ℕ} → a ≡ record { number = number; permutations = 0 }
    → number ≡ reach_number L r (length list) → (number ≡ 0 → ⊥) → Answered L r list a list
unfolding reach_answer reach_list
job_refused L r list {a} {number} e is ne = (
  e ∙ refused (λ (number k : ℕ). record { number = number; permutations = k }) (reach_count (length L) r) 0 is ne,
  (
    refused (λ number left. left) _ list is ne,
    λ z. absurd (ne (sym (ap (λ (a : Reached). a.number) e) ∙ z)),
  ),
)

-- what is known past the tests
pub record Taken (L : List ℕ) (r room count : ℕ) : Type 0 where
  pub readable : Readable L
  pub near : r < length L
  pub counted : count ≡ reach_count (length L) r
  pub fits : reach_bytes (length L) r ≤ room
  pub number : reach_number L r room ≡ 0

module _ (L : List ℕ) (r room : ℕ) where
  abbrev n : ℕ
  n = length L

  abbrev why : ℕ
  why = reach_number L r room

  pub job_fault : {number : ℕ} → number ≡ read_number L → (number ≡ 0 → ⊥) → number ≡ why
  unfolding reach_number
  job_fault e ne = or_else_refused (read_number L) _ e ne

  module _ (s : Readable L) where
    pub job_far : n ≤ r → value ≡ why
    unfolding reach_number
    job_far h = rw (read_done s, lt-leb r (n - 1) (omega (arith, s.few)))

    -- r pushes, and how many permutations are within reach of them
    module _ (near : r < n) {count : ℕ} (is : count ≡ falling n r) where
      quotient : count ≡ reach_count n r
      quotient = is ∙ falling_quotient n r (omega arith)

      -- the limit divided by n is below the count exactly where the limit is below the bytes
      divided : (65536 / n < count) ↔ (65536 < count * n)
      divided = div-lt_iff_lt-mul {k = n} {x = 65536} {y = count} (omega (arith, s.few))

      pub job_large : 65536 / n < count → value ≡ why
      unfolding reach_number
      job_large h = rw (read_done s, le-leb r (n - 1) (omega arith), lt-leb (reach_bytes n r) 65536 (rw quotient at (divided.0 h)))

      module _ (small : count ≤ 65536 / n) where
        pub job_small : count * n ≤ 65536
        job_small = by_le (count * n) 65536 (λ l. l) (λ l. absurd (omega (arith, divided.1 l)))

        pub job_short : room < count * n → fit ≡ why
        unfolding reach_number
        job_short h =
            rw (
              read_done s,
              le-leb r (n - 1) (omega arith),
              le-leb (reach_bytes n r) 65536 (rw quotient at job_small),
              lt-leb (reach_bytes n r) room (rw quotient at h),
            )

        module _ (fits : count * n ≤ room) where
          accepted : why ≡ 0
          unfolding reach_number
          accepted =
              rw (
                read_done s,
                le-leb r (n - 1) (omega arith),
                le-leb (reach_bytes n r) 65536 (rw quotient at job_small),
                le-leb (reach_bytes n r) room (rw quotient at fits),
              )

          pub job_taken : Taken L r room count
          job_taken = record { readable = s; near = near; counted = quotient; fits = rw quotient at fits; number = accepted }

-- a job that is done, on a row that has the present permutation
module _ (L : List ℕ) (r : ℕ) (list : List ℕ) {count : ℕ} (v : Taken L r (length list) count)
    (row : List ℕ) (long : length row ≡ 20) (sorted : take (length L) row ≡ permutation_of L) where
  present : IsPermutation (length L) (permutation_of L)
  present = permutation_of_permutation L

  pub job_led : LedRow row (length L) 0 r × HasRoom list 0 (flatten (within_reach (length L) (take (length L) row) r))
  job_led = (
    record { few = v.readable.many; long = long; first = omega arith; most = omega (arith, v.near); permutation = rw sorted present },
    rw sorted (omega (arith, within_bytes present r v.near, v.fits)),
  )

  pub job_done : {left : List ℕ} → left ≡ sets list 0 (flatten (within_reach (length L) (take (length L) row) r))
      → Answered L r list (record { number = 0; permutations = count }) left
  unfolding reach_answer reach_list
  job_done {left} listed =
      let n : ℕ = length L in
      let ts : List (List ℕ) = within_reach n (permutation_of L) r in
      let bytes : 0 + length (flatten ts) ≡ reach_bytes n r = omega (arith, within_bytes present r v.near) in
      let laid : left ≡ flatten ts ++ drop (reach_bytes n r) list =
      listed ∙ rw sorted (sets-eq (flatten ts) list 0 (omega (arith, bytes, v.fits)) ∙ rw bytes) in
      let many : count ≡ length ts = v.counted ∙ sym (within_many present r (omega (arith, v.near))) in (
        rw v.counted (answered (λ (number k : ℕ). record { number = number; permutations = k }) (reach_count n r) 0 v.number),
        (
          laid ∙ answered (λ number left. left) (flatten ts ++ drop (reach_bytes n r) list) list v.number,
          λ z. rw (many, laid) (reaching_as (flatten_at n ts (drop (reach_bytes n r) list) (entries_long present r)) (reaching present r v.near)),
        ),
      )
