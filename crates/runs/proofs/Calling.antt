-- A list of count-up calls: what holds when some of them were made, and demand 3 of the whole. Assumes nothing.
use Rattle.std.proofs.Common.{◌≡◌, ℕ, zero, suc, ◌+◌, ◌<◌, ◌≤◌, cond, eqb, List, [], ◌∷◌, ◌++◌, length, get_or, take, drop, set, refl, ap, ◌∙◌, subst, ap₂, arith, take_all, le-leb}
use borrow.Author.Tests.{lt-leb}
use lib.ListN.{get_or-append}
use lib.Seq.{take-length}
use Rattle.theory.specs.Reasons.{done, fit}
use Rattle.theory.specs.Levels.{highest, permutation_of}
use Rattle.theory.specs.CountUp.{call_number, call_pushes, call_levels}
use Rattle.theory.specs.Rank.{rank}
use Rattle.theory.specs.Run.{push_count, step_levels, after_calls, call_numbers, steps_done}
use Rattle.theory.specs.Spent.{Spends, call_charge, calls_charge}
use Rattle.theory.specs.Demand3.{Start, Demand3}
use Rattle.theory.proofs.Refusal.{refused, answered, Readable}
use Rattle.theory.proofs.Sorting.{reads_permutation_of, reads_untied}
use Rattle.theory.proofs.LevelRun.{run_reads}
use Rattle.theory.proofs.FilledRow.{filled_all}
use Rattle.theory.proofs.InTurn.{added_next, InTurn, turn_none, turn_more, turn_left}
use Rattle.theory.proofs.CallLists.{after_next, numbers_long, after_length, number_at, steps_fit}
use Rattle.theory.proofs.Spent.{calls_fit, spending}
use Rattle.theory.proofs.Demand3.{demand3}
use Rattle.charge.specs.Answers.{no_pushes, done_pushes, call_answer}
use Rattle.charge.specs.declared.answers.Pushes.{Pushes}
use Rattle.charge.proofs.Numbers.{pushes_refused, pushes_done}
use Rattle.runs.specs.Steps.{RunOf}
use Rattle.runs.specs.Calls.{calls_number, calls_answer, called_levels, called_numbers, sum_done, CallsOf}
use Rattle.runs.proofs.Running.{run_of}
use Rattle.runs.proofs.LevelRunning.{run_values}

-- the steps that the first i calls did are those of the ones with number 0
sum_done_lem : (i : ℕ) (ks L rest : List ℕ) → steps_done (take i ks) L ≡ sum_done (take i ks) (call_numbers ks L ++ rest)
unfolding steps_done call_numbers call_pushes
sum_done_lem zero ks L rest = refl
sum_done_lem (suc i) [] L rest = refl
sum_done_lem (suc i) (k ∷ ks) L rest = ap (λ (j : ℕ). cond (eqb (call_number k L) done) k 0 + j) (sum_done_lem i ks (call_levels k L) rest)

-- ---- i of the calls were made
pub record Made (L ks numbers₀ : List ℕ) (i : ℕ) (levels numbers : List ℕ) (pushes charge : ℕ) : Type 0 where
  pub in_turn : InTurn call_number call_levels (λ (M : List ℕ). M) ks L numbers₀ levels numbers i
  pub pushes_are : pushes ≡ steps_done (take i ks) L
  pub charge_is : charge ≡ calls_charge (take i ks) L

pub made_none : {L ks numbers₀ : List ℕ} → length ks ≤ length numbers₀ → Made L ks numbers₀ 0 L numbers₀ 0 0
unfolding steps_done calls_charge
made_none room = record { in_turn = turn_none room refl; pushes_are = refl; charge_is = refl }

module _ {L ks numbers₀ : List ℕ} {i : ℕ} {levels numbers : List ℕ} {pushes charge : ℕ} (v : Made L ks numbers₀ i levels numbers pushes charge) where
  levels_are : levels ≡ after_calls (take i ks) L
  unfolding after_calls
  levels_are = v.in_turn.left

  pub levels_length : length levels ≡ length L
  levels_length = ap length levels_are ∙ after_length (take i ks) L

  module _ (more : i < length ks) where
    abbrev k : ℕ
    k = get_or ks i 0

    next_pushes : pushes + call_pushes k levels ≡ steps_done (take (i + 1) ks) L
    unfolding steps_done
    next_pushes = rw (v.pushes_are, v.in_turn.left) (added_next call_levels call_pushes ks L i 0 more)

    next_charge : charge + call_charge k levels ≡ calls_charge (take (i + 1) ks) L
    unfolding calls_charge
    next_charge = rw (v.charge_is, v.in_turn.left) (added_next call_levels call_charge ks L i 0 more)

    -- by the answer of the call, and the levels that it left
    pub made_more : (answer : Pushes) (after : List ℕ) → answer ≡ call_answer levels k → after ≡ call_levels k levels
        → (pushes + answer.pushes ≤ 65535) × (charge + answer.charge ≤ 1310700)
        × Made L ks numbers₀ (i + 1) after (set numbers i answer.number) (pushes + answer.pushes) (charge + answer.charge)
    unfolding call_answer call_pushes call_charge
    made_more answer after e f = rw (e, f) (
      rw next_pushes (steps_fit (take (i + 1) ks) L),
      rw next_charge (calls_fit (take (i + 1) ks) L),
      record {
        in_turn = turn_more v.in_turn 0 more (ap (call_number k) v.in_turn.left) (ap (call_levels k) v.in_turn.left);
        pushes_are = next_pushes;
        charge_is = next_charge;
      },
    )

-- what the contract says of an answer, and of the levels and the numbers that are left
abbrev Answered : List ℕ → List ℕ → List ℕ → Pushes → List ℕ → List ℕ → Type 0
Answered L ks numbers₀ a levels numbers =
    (a ≡ calls_answer L ks numbers₀)
    × ((levels ≡ called_levels L ks numbers₀)
    × ((numbers ≡ called_numbers L ks numbers₀) × Spends L levels a.charge))

-- ---- all calls were made
module _ {L ks numbers₀ : List ℕ} {i : ℕ} {levels numbers : List ℕ} {pushes charge : ℕ} (v : Made L ks numbers₀ i levels numbers pushes charge)
    (all : length ks ≤ i) where
  levels_all : levels ≡ after_calls ks L
  unfolding after_calls
  levels_all = turn_left v.in_turn all

  numbers_all : numbers ≡ call_numbers ks L ++ drop (length ks) numbers₀
  unfolding call_numbers
  numbers_all = filled_all v.in_turn.answered all

  pushes_all : pushes ≡ steps_done ks L
  pushes_all = v.pushes_are ∙ rw (take_all i ks all)

  charge_all : charge ≡ calls_charge ks L
  charge_all = v.charge_is ∙ rw (take_all i ks all)

  pub called_done : {a : Pushes} → a ≡ done_pushes pushes charge → Answered L ks numbers₀ a levels numbers
  unfolding calls_answer called_levels called_numbers
  called_done e =
      let fits : calls_number ks numbers₀ ≡ 0 = rw (le-leb (length ks) (length numbers₀) v.in_turn.answered.room) in
      let b = pushes_done (steps_done ks L) (calls_charge ks L) L (after_calls ks L) (e ∙ ap₂ done_pushes pushes_all charge_all) fits levels_all in (
        b.0,
        (
          b.1,
          (
            numbers_all ∙ answered (λ number left. left) (call_numbers ks L ++ drop (length ks) numbers₀) numbers₀ fits,
            rw (e, levels_all, charge_all) ((spending L).calls ks),
          ),
        ),
      )

  pub calls_of : 2 ≤ length L → Start (length L) L → CallsOf L ks levels numbers pushes
  calls_of few start = rw (levels_all, pushes_all) (record {
    sum = subst (λ (js : List ℕ). steps_done js L ≡ sum_done js numbers) (take-length ks) (so_far (length ks));
    levels = d.levels L start ks;
    highest_level = d.highest_level L start ks;
    run = ran;
    value_read_lem = run_values (record { few = few; many = start.few; untied = start.untied }) still ran;
    start = d.level_start L start;
    call_done = λ i h room.
        let done = d.call_done L start (take i ks) (get_or ks i 0) room in
        (number_of i h ∙ done.number, done);
    call_refused = λ i h past.
        let refused = d.call_refused L start (take i ks) (get_or ks i 0) past in
        (number_of i h ∙ refused.number, refused);
    between = after_next ks L;
    top_then = λ i. d.highest_level L start (take i ks) ∙ ap (λ (j : ℕ). highest L + j) (so_far i);
    inside = λ i j.
        d.inside L start (take i ks) j ∙ ap (λ (s : ℕ). step_levels (length L) (s + j) (permutation_of L) L) (so_far i);
    gap_left = λ gapless. rw (d.levels L start ks) (d.gap L refl gapless (steps_done ks L));
    gap = λ gapless k h. d.gap L refl gapless k;
    jumps = λ gapless k h. d.jumps L refl gapless k;
  })
    where
      d : Demand3 (length L)
      d = demand3 (length L) few

      ran :
          RunOf (length L) (permutation_of L) (steps_done ks L) (permutation_of (after_calls ks L)) (rank (length L) (permutation_of (after_calls ks L)))
          (λ c. push_count (length L) c (steps_done ks L) (permutation_of L))
      ran =
          run_of (length L) few start.few (permutation_of L) (d.level_start L start) (steps_done ks L) (permutation_of (after_calls ks L)) _ _ (d.read L start ks)
          refl (λ c low high. refl)

      still : Readable (after_calls ks L)
      still =
          let size = after_length ks L in
          let reads = run_reads (length L) few L (permutation_of L) refl (reads_permutation_of L start.untied) (steps_done ks L) in
          record { few = omega (arith, few); many = omega (arith, start.few); untied = rw (d.levels L start ks) (reads_untied reads) }

      so_far : (i : ℕ) → steps_done (take i ks) L ≡ sum_done (take i ks) numbers
      so_far i = rw numbers_all (sum_done_lem i ks L (drop (length ks) numbers₀))

      number_of : (i : ℕ) → i < length ks → get_or numbers i 0 ≡ call_number (get_or ks i 0) (after_calls (take i ks) L)
      number_of i h =
          rw numbers_all (get_or-append (call_numbers ks L) _ 0 i (omega (arith, numbers_long ks L)) ∙ number_at ks L i h)

-- there is no place for each call's number
pub called_refused : (L ks numbers₀ : List ℕ) {a : Pushes} → a ≡ no_pushes fit → length numbers₀ < length ks → Answered L ks numbers₀ a L numbers₀
unfolding calls_answer called_levels called_numbers
called_refused L ks numbers₀ e short =
    let is : fit ≡ calls_number ks numbers₀ = rw (lt-leb (length ks) (length numbers₀) short) in
    let ne : fit ≡ 0 → ⊥ = λ z. omega arith in
    let b = pushes_refused (steps_done ks L) (calls_charge ks L) L (after_calls ks L) e is ne in
    (b.0, (b.1, (refused (λ number left. left) (call_numbers ks L ++ drop (length ks) numbers₀) numbers₀ is ne, rw e (omega arith))))
