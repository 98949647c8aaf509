-- A run of steps: what holds when some of them were done, and demand 3 of the whole. Assumes nothing.
use Rattle.std.proofs.Common.{◌≡◌, ℕ, suc, ◌+◌, ◌-◌, ◌%◌, ◌^◌, ◌≤◌, List, length, get_or, set, replicate, sym, refl, ap, ◌∙◌, ap₂, add-one, arith, ne_eqb}
use Rattle.theory.specs.Permutation.{IsPermutation, row, top}
use Rattle.theory.specs.Push.{push}
use Rattle.theory.specs.Successor.{successor, step}
use Rattle.theory.specs.Rank.{rank}
use Rattle.theory.specs.Factorial.{factorial}
use Rattle.theory.specs.Zero.{value_from}
use Rattle.theory.specs.Run.{steps, push_count}
use Rattle.theory.specs.Deciding.{tests, total_tests}
use Rattle.theory.specs.Demand3.{Demand3}
use Rattle.theory.proofs.Padding.{row_at_lem}
use Rattle.theory.proofs.Stepping.{stepping}
use Rattle.theory.proofs.Zero.{valuing}
use Rattle.theory.proofs.Demand3.{demand3}
use Rattle.permutation.specs.Records.{list_of, record_of, record_number}
use Rattle.permutation.specs.Answers.{placed_if, successor_answer, push_answer}
use Rattle.ranking.specs.Answers.{rank_answer}
use Rattle.permutation.specs.declared.answers.Permutation.{Permutation}
use Rattle.permutation.specs.declared.answers.Permuted.{Permuted}
use Rattle.permutation.specs.declared.answers.Placed.{Placed}
use Rattle.ranking.specs.declared.answers.Ranked.{Ranked}
use Rattle.permutation.proofs.Records.{Sound}
use Rattle.permutation.proofs.Answering.{placed_record, pushed_record, list_record}
use Rattle.ranking.specs.Zeros.{zero_permutation}
use Rattle.ranking.proofs.Values.{ranked_record, valued_record}
use Rattle.runs.specs.Steps.{Ran, push_counts, run_answer, count_in, RunOf, TestsOf}
use Rattle.runs.proofs.PushCounts.{Tallied, tallied, counts_none, counts_at}
use Rattle.runs.proofs.TotalTests.{total_more, tests_of}

-- demand 3 of the list that k steps lead to
pub run_of : (n : ℕ) → 2 ≤ n → n ≤ 20 → (xs : List ℕ) → IsPermutation n xs → (k : ℕ) (ys : List ℕ) (r : ℕ) (counts : ℕ → ℕ)
    → ys ≡ steps n k xs → r ≡ rank n ys → ((c : ℕ) → 1 ≤ c → c ≤ n → counts c ≡ push_count n c k xs) → RunOf n xs k ys r counts
run_of n few many xs o k ys r counts end rank_of count_of = record {
  run = end;
  permutation = after;
  rank_now = rank_of;
  ranks = rank_of ∙ rw end (d.ranks xs o k);
  values = valued;
  value_answers = λ z. valued_record n ys few many after z ∙ rw (valued_record n xs few many o z, valued (zero_permutation z n));
  different = λ i j less within below. d.different xs o i j less below;
  return = λ whole. end ∙ ap (λ (j : ℕ). steps n j xs) whole ∙ d.return xs o;
  pushes = count_of;
  shares = λ whole c low high. count_of c low high ∙ ap (λ (j : ℕ). push_count n c j xs) whole ∙ d.shares xs o c low high;
  balance = λ c e low high low' high'. rw (count_of c low high, count_of e low' high') (d.balance xs o k c e low high low' high');
  round = λ whole. (d.return xs o, d.shares xs o);
  even = λ j c e within. d.balance xs o j c e;
}
  where
    d : Demand3 n
    d = demand3 n few

    after : IsPermutation n ys
    after = rw end (d.permutation xs o k)

    valued : (z : List ℕ) → value_from n z ys ≡ (value_from n z xs + k) % factorial n
    valued z = rw end ((valuing n z few).counted xs o k)

-- `done` steps of the run from p lead to this record, with these counts and this total of tests
pub record Running (p : Permutation) (done : ℕ) (current : Permutation) (counts : List ℕ) (total : ℕ) : Type 0 where
  pub at : current ≡ record_of (steps p.n done (list_of p))
  pub counted : counts ≡ row (push_counts p.n done (list_of p))
  pub tested : total ≡ total_tests p.n done (list_of p) % 2 ^ 64

module _ (p : Permutation) (s : Sound p) where
  abbrev after : ℕ → List ℕ
  after k = steps p.n k (list_of p)

  orders : (k : ℕ) → IsPermutation p.n (after k)
  orders k = (demand3 p.n s.few).permutation (list_of p) s.permutation k

  long : (k : ℕ) → length (after k) ≡ p.n
  long k = (orders k).long

  pub running_none : Running p 0 p (replicate 20 0) 0
  unfolding steps total_tests
  running_none = record { at = s.is; counted = counts_none p.n s.few s.many (list_of p); tested = refl }

  module _ (done : ℕ) (current : Permutation) (counts : List ℕ) (total : ℕ) (v : Running p done current counts total) where
    next : successor_answer current ≡ placed_if 0 p.n (after done)
    next = ap successor_answer v.at ∙ placed_record p.n (after done) s.few s.many (orders done)

    -- nor is a step's job refused
    pub asked_done : {a : Placed} → a ≡ successor_answer current → a.number ≡ 0
    asked_done e = ap (λ (a : Placed). a.number) (e ∙ next)

    pub ranked_done : {a : Ranked} → a ≡ rank_answer current → a.number ≡ 0
    ranked_done e = ap (λ (a : Ranked). a.number) (e ∙ ap rank_answer v.at ∙ ranked_record p.n (after done) s.few s.many (orders done))

    module _ (placed : Placed) (q : placed ≡ successor_answer current) where
      abbrev place : ℕ
      place = placed.place

      next_place : place ≡ successor p.n (after done)
      next_place = ap (λ (a : Placed). a.place) (q ∙ next)

      asked : placed.tests ≡ tests p.n (after done)
      asked = ap (λ (a : Placed). a.tests) (q ∙ next)

      next_push : push_answer current place ≡ record { number = 0; permutation = record_of (push (successor p.n (after done)) (after done)) }
      next_push =
          let b = (stepping p.n s.few).place (after done) in
          ap₂ push_answer v.at next_place ∙ pushed_record p.n (after done) s.few s.many (orders done) _ b.0 b.1

      pub pushed_done : {a : Permuted} → a ≡ push_answer current place → a.number ≡ 0
      pushed_done e = ap (λ (a : Permuted). a.number) (e ∙ next_push)

      -- the record after one more step
      next_record : (push_answer current place).permutation ≡ record_of (after (suc done))
      unfolding steps step
      next_record = ap (λ (a : Permuted). a.permutation) next_push

      module _ (current' : Permutation) (e : current' ≡ (push_answer current place).permutation) where
        at' : current' ≡ record_of (after (suc done))
        at' = e ∙ next_record

        cell : get_or current'.cells 0 0 ≡ top (after (suc done))
        cell = ap (λ (c : Permutation). get_or c.cells 0 0) at' ∙ row_at_lem (after (suc done)) 0 (let few = s.few in omega (arith, long (suc done)))

        -- the cell that came to place 1 is counted
        module _ (pushed_cell : ℕ) (is : pushed_cell ≡ get_or current'.cells 0 0) where
          pub step_tallied : Tallied p.n (list_of p) done counts pushed_cell
          step_tallied = tallied p.n s.few s.many (list_of p) done counts v.counted s.permutation pushed_cell (is ∙ cell)

          pub running_more :
              (total' : ℕ) → total' ≡ (total + placed.tests) % 2 ^ 64
              → Running p (done + 1) current' (set counts (pushed_cell - 1) (get_or counts (pushed_cell - 1) 0 + 1)) total'
          running_more total' sum = rw (add-one done) (record {
            at = at';
            counted = step_tallied.counted;
            tested = sum ∙ total_more p.n (list_of p) done total placed.tests v.tested asked;
          })

  -- ---- all k steps were done, and the rank is that of the record
  module _ (k : ℕ) (current : Permutation) (counts : List ℕ) (total : ℕ) (v : Running p k current counts total) (r : ℕ) (is : r ≡ (rank_answer current).rank) where
    rank_is : r ≡ rank p.n (after k)
    rank_is =
        is ∙ ap (λ (c : Permutation). (rank_answer c).rank) v.at
        ∙ ap (λ (a : Ranked). a.rank) (ranked_record p.n (after k) s.few s.many (orders k))

    end : list_of current ≡ after k
    end = ap list_of v.at ∙ list_record p.n (after k) s.few s.many (orders k)

    pub ran_done : ◌≡◌ {A = Ran} (record { number = 0; permutation = current; rank = r; counts = counts; tests = total }) (run_answer p k)
    unfolding run_answer
    ran_done = rw (s.fault, v.at, rank_is, v.counted, v.tested)

    pub run_record : RunOf p.n (list_of p) k (list_of current) r (count_in counts)
    run_record =
        run_of p.n s.few s.many (list_of p) s.permutation k (list_of current) r (count_in counts)
        end (rank_is ∙ ap (rank p.n) (sym end)) (counts_at p.n s.few s.many (list_of p) k counts v.counted)

    pub run_tests : TestsOf p.n (list_of p) k total
    run_tests = tests_of p.n (list_of p) s.few s.many s.permutation k total v.tested

-- a record that is no permutation's
pub ran_refused : (p : Permutation) (k number : ℕ) → number ≡ record_number p → (number ≡ 0 → ⊥)
    → ◌≡◌ {A = Ran} (record { number = number; permutation = record { n = 0; cells = replicate 20 0 }; rank = 0; counts = replicate 20 0; tests = 0 }) (run_answer p k)
unfolding run_answer
ran_refused p k number e h = rw (← e, ne_eqb number 0 h)
