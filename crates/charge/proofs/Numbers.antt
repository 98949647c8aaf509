-- What a job on levels answers, by its number, and spends, and what a count-up call is judged by. Assumes nothing.
use mathlib.Core.Path.{◌≡◌, sym, ap, ◌∙◌}
use mathlib.Core.Bool.{◌&&◌, and-eq-true_iff}
use mathlib.Core.List.{List, []}
use Prim.Native.Nat.{ℕ, ◌+◌, ◌-◌, ◌≤◌, ◌<◌}
use native.Mathlib.Omega.{arith}
use borrow.Author.Tests.{leb-true, le-leb, lt-leb}
use lib.Dec.{leb}
use lib.ListN.{length}
use Rattle.theory.specs.Reasons.{done, value, ceiling, max_level}
use Rattle.theory.specs.Refusal.{given}
use Rattle.theory.specs.Permutation.{row, cell_at}
use Rattle.theory.specs.Levels.{highest, read_number, permutation_of}
use Rattle.theory.specs.CountUp.{ceiling_of, call_number, call_levels}
use Rattle.theory.specs.Spent.{Spends, call_charge}
use Rattle.theory.proofs.Refusal.{refused, answered, given_done, given_refused, or_else_refused, or_else_done, tested, Readable, read_done, readable}
use Rattle.theory.proofs.Refusal.{ceiling_refused, ceiling_done, ceiling_room}
use Rattle.theory.proofs.Members.{entry_inside}
use Rattle.theory.proofs.Sorting.{permutation_of_permutation, permutation_of_length}
use Rattle.theory.proofs.Spent.{push_sum, given_sum, spending}
use Rattle.permutation.specs.declared.answers.Permutation.{Permutation}
use Rattle.permutation.specs.declared.answers.Permuted.{Permuted}
use Rattle.permutation.proofs.Answering.{permuted_with}
use Rattle.charge.specs.declared.answers.Pushes.{Pushes}
use Rattle.charge.specs.Counting.{Call, call_judged}
use Rattle.charge.specs.Answers.{no_pushes, done_pushes, pushes_of, read_answer, place_number, place_answer, place_levels, call_answer}
use Rattle.charge.proofs.Sorting.{row_record}

-- ---- a job that pushes, by its number: k pushes, which spend this charge and leave the levels L', or none, and the levels L as they were

abbrev Answered : ℕ → ℕ → ℕ → List ℕ → List ℕ → Pushes → List ℕ → Type 0
Answered why k charge L L' a left = (a ≡ pushes_of why k charge) × (left ≡ given why L' L)

module _ {why : ℕ} (k charge : ℕ) (L L' : List ℕ) where
  pub pushes_refused : {a : Pushes} {number : ℕ} → a ≡ no_pushes number → number ≡ why → (number ≡ 0 → ⊥) → Answered why k charge L L' a L
  pushes_refused {number = number} e is ne = (
    e ∙ rw (← is, given_refused number k 0 ne, given_refused number charge 0 ne),
    refused (λ number left. left) L' L is ne,
  )

  pub pushes_done : {a : Pushes} {left : List ℕ} → a ≡ done_pushes k charge → why ≡ 0 → left ≡ L' → Answered why k charge L L' a left
  pushes_done e z is = (e ∙ rw z, is ∙ answered (λ number left. left) L' L z)

-- and what it spends, where that is known of what it answers and leaves
pub with_spent : (L : List ℕ) {answer a : Pushes} {levels left : List ℕ} → Spends L levels answer.charge → (a ≡ answer) × (left ≡ levels)
    → (a ≡ answer) × ((left ≡ levels) × Spends L left a.charge)
with_spent L s p = (p.0, (p.1, rw (p.0, p.1) s))

-- ---- the push at place i

module _ (L : List ℕ) (i : ℕ) where
  pub place_fault : {number : ℕ} → number ≡ read_number L → (number ≡ 0 → ⊥) → number ≡ place_number L i
  unfolding place_number
  place_fault e ne = or_else_refused (read_number L) _ e ne

  module _ (r : Readable L) where
    pub place_low : i < 2 → value ≡ place_number L i
    unfolding place_number
    place_low h = rw (read_done r, lt-leb 2 i h)

    pub place_high : 2 ≤ i → length L < i → value ≡ place_number L i
    unfolding place_number
    place_high low h = rw (read_done r, le-leb 2 i low, lt-leb i (length L) h)

    module _ (low : 2 ≤ i) (high : i ≤ length L) where
      pub place_ceiling : max_level < highest L + 1 → ceiling ≡ place_number L i
      unfolding place_number
      place_ceiling h = rw (read_done r, le-leb 2 i low, le-leb i (length L) high) (ceiling_refused L 1 h)

      pub place_done : highest L + 1 ≤ max_level → place_number L i ≡ done
      unfolding place_number
      place_done h = rw (read_done r, le-leb 2 i low, le-leb i (length L) high) (ceiling_done L 1 h)

  -- the sum of the levels grows by what it spends
  pub place_spends : Spends L (place_levels L i) (place_answer L i).charge
  unfolding place_answer place_levels place_number
  place_spends =
      given_sum (place_number L i) L _ _
      (λ e.
      let test = tested (leb 2 i && leb i (length L)) (λ z. omega arith) (or_else_done _ (ceiling_of L 1) (or_else_done (read_number L) _ e).1).0 in
      let b = (and-eq-true_iff (leb 2 i) (leb i (length L))).0 test in
      let low = leb-true 2 i b.0 in let high = leb-true i (length L) b.1 in
      let inside = entry_inside (permutation_of_permutation L) (i - 1) (omega (arith, low, high, permutation_of_length L)) in
      push_sum L (cell_at i (permutation_of L)) inside.0 inside.1)

-- ---- reading

pub read_sorted : {L cells : List ℕ} → Readable L → cells ≡ row (permutation_of L)
    → ◌≡◌ {A = Permuted} (record { number = 0; permutation = record { n = length L; cells = cells } }) (read_answer L)
unfolding read_answer
read_sorted {L} r e =
    ap (λ (p : Permutation). record { number = 0; permutation = p }) (row_record L r.many e)
    ∙ answered permuted_with (permutation_of L) [] (read_done r)

-- ---- a call of count up with k

pub call_spends : (k : ℕ) (L : List ℕ) → Spends L (call_levels k L) (call_answer L k).charge
unfolding call_answer call_charge
call_spends k L = (spending L).call k

-- it is done, and this is the highest level
pub record Granted (k : ℕ) (L : List ℕ) (top : ℕ) : Type 0 where
  pub number : call_number k L ≡ 0
  pub faultless : Readable L
  pub top_is : top ≡ highest L
  pub room : top + k ≤ max_level

pub judged_granted : (k : ℕ) (L : List ℕ) {a : Call} → a ≡ call_judged L k → a.number ≡ 0 → Granted k L a.top
unfolding call_judged call_number
judged_granted k L e z =
    let number : call_number k L ≡ 0 = sym (ap (λ (a : Call). a.number) e) ∙ z in
    let past = or_else_done (read_number L) (ceiling_of L k) number in
    let top = ap (λ (a : Call). a.top) e ∙ given_done (call_number k L) (highest L) 0 number in
    record { number = number; faultless = readable past.0; top_is = top; room = rw top (ceiling_room L k past.1) }
