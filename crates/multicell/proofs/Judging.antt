-- The tests of the job decide its number, one after another; past them both lists are arrangements, and its answer is made of what they give. Assumes nothing.
use mathlib.Core.Path.{◌≡◌, sym, ◌∙◌}
use mathlib.Core.Bool.{true, false, and-eq-true_iff, ◌&&◌}
use mathlib.Core.List.{List}
use Prim.Native.Nat.{ℕ, ◌*◌, ◌≤◌}
use native.Mathlib.Omega.{arith}
use borrow.Author.Tests.{eq-eqb, ne_eqb, eqb-true, leb-true}
use lib.Dec.{eqb, leb}
use lib.ListN.{length}
use Rattle.theory.specs.Reasons.{size, fit}
use Rattle.theory.proofs.Refusal.{refused, answered, given_done, given_refused, or_else_done, tested}
use Rattle.multicell.specs.Arrangement.{IsArrangement, used_each, in_range}
use Rattle.multicell.specs.Cost.{cost_of, raised_levels}
use Rattle.multicell.specs.Claims.{LeastRaise}
use Rattle.multicell.specs.Answers.{rearrange_size, rearrange_fit, rearrange_muddle, rearrange_number, rearrange_answer, rearrange_list, RaiseOf}
use Rattle.multicell.specs.Pricing.{Priced, RaisedBytes}
use Rattle.multicell.specs.declared.answers.Rearranged.{Rearranged}
use Rattle.multicell.proofs.Arranging.{arrangement}
use Rattle.multicell.proofs.Changing.{same, some_cell, natural, least_raise}

-- sizes in their ranges
pub record Ranged (q z : ℕ) : Type 0 where
  pub few : 2 ≤ q
  pub many : q ≤ 16
  pub some : 1 ≤ z
  pub small : z ≤ 16
  pub all : q * z ≤ 64

pub ranged : (q z : ℕ) → in_range q z ≡ true → Ranged q z
ranged q z h =
    let a = (and-eq-true_iff (leb 2 q && leb q 16 && leb 1 z && leb z 16) (leb (q * z) 64)).0 h in
    let b = (and-eq-true_iff (leb 2 q && leb q 16 && leb 1 z) (leb z 16)).0 a.0 in
    let c = (and-eq-true_iff (leb 2 q && leb q 16) (leb 1 z)).0 b.0 in
    let d = (and-eq-true_iff (leb 2 q) (leb q 16)).0 c.0 in
    record {
      few = leb-true 2 q d.0;
      many = leb-true q 16 d.1;
      some = leb-true 1 z c.1;
      small = leb-true z 16 b.1;
      all = leb-true (q * z) 64 a.1;
    }

-- what holds where the number is 0
pub record Judged (q z : ℕ) (old new : List ℕ) (room : ℕ) : Type 0 where
  pub sizes : Ranged q z
  pub from : IsArrangement q z old
  pub to : IsArrangement q z new
  pub room_is : room ≡ q * z

module _ (q z : ℕ) (old new : List ℕ) (room : ℕ) where
  pub judge_size : in_range q z ≡ false → size ≡ rearrange_number q z old new room
  unfolding rearrange_number
  judge_size e = rw e

  module _ (e : in_range q z ≡ true) where
    pub judge_old : (length old ≡ q * z → ⊥) → fit ≡ rearrange_number q z old new room
    unfolding rearrange_number
    judge_old ne = rw (e, ne_eqb (length old) (q * z) ne)

    module _ (o : length old ≡ q * z) where
      pub judge_new : (length new ≡ q * z → ⊥) → fit ≡ rearrange_number q z old new room
      unfolding rearrange_number
      judge_new ne = rw (e, eq-eqb (length old) (q * z) o, ne_eqb (length new) (q * z) ne)

      module _ (n : length new ≡ q * z) where
        pub judge_room : (room ≡ q * z → ⊥) → fit ≡ rearrange_number q z old new room
        unfolding rearrange_number
        judge_room ne = rw (e, eq-eqb (length old) (q * z) o, eq-eqb (length new) (q * z) n, ne_eqb room (q * z) ne)

        -- past these, the arrangements decide
        pub judge_lists : room ≡ q * z → rearrange_muddle q z old new ≡ rearrange_number q z old new room
        unfolding rearrange_number
        judge_lists r = rw (e, eq-eqb (length old) (q * z) o, eq-eqb (length new) (q * z) n, eq-eqb room (q * z) r)

  pub judged : rearrange_number q z old new room ≡ 0 → Judged q z old new room
  unfolding rearrange_number
  judged h =
      let a = or_else_done (rearrange_size q z) _ h in
      let b = or_else_done (rearrange_fit q z old new room) (rearrange_muddle q z old new) a.1 in
      let lists = (and-eq-true_iff (eqb (length old) (q * z) && eqb (length new) (q * z)) (eqb room (q * z))).0 (tested _ (λ e. omega arith) b.0) in
      let both = (and-eq-true_iff (eqb (length old) (q * z)) (eqb (length new) (q * z))).0 lists.0 in
      let used = (and-eq-true_iff (used_each q z old) (used_each q z new)).0 (tested _ (λ e. omega arith) b.1) in
      record {
        sizes = ranged q z (tested (in_range q z) (λ e. omega arith) a.0);
        from = arrangement q z old (eqb-true (length old) (q * z) both.0) used.0;
        to = arrangement q z new (eqb-true (length new) (q * z) both.1) used.1;
        room_is = eqb-true room (q * z) lists.1;
      }

-- ---- the job

-- what it is to give: its answer a, and the list that it leaves
abbrev Answered : ℕ → ℕ → List ℕ → List ℕ → List ℕ → Rearranged → List ℕ → Type 0
Answered q z old new list a left =
    (a ≡ rearrange_answer q z old new (length list)) × ((left ≡ rearrange_list q z old new list) × RaiseOf q old new a left)

abbrev answer : ℕ → ℕ → Rearranged
answer number cost = record { number = number; cost = cost }

module _ (q z : ℕ) (old new list : List ℕ) where
  pub job_refused :
      {number : ℕ} → number ≡ rearrange_number q z old new (length list) → (number ≡ 0 → ⊥) → Answered q z old new list (answer number 0) list
  unfolding rearrange_answer rearrange_list
  job_refused e ne =
      (refused answer (cost_of old new) 0 e ne, (sym (given_refused _ (raised_levels (cost_of old new) new) list (λ z. ne (e ∙ z))), λ z. absurd (ne z)))

  module _ (v : Judged q z old new (length list)) where
    levels : 1 ≤ q
    levels = omega (arith, v.sizes.few)

    least : LeastRaise q old new (cost_of old new) (raised_levels (cost_of old new) new)
    least = least_raise levels v.sizes.some v.from v.to

    pub job_priced : Priced old new
    job_priced = record {
      some = some_cell levels v.sizes.some v.from v.to;
      same = same levels v.sizes.some v.from v.to;
      natural = natural levels v.sizes.some v.from v.to;
      small = omega (arith, least.below, v.sizes.many);
    }

    module _ {cost : ℕ} (is : cost ≡ cost_of old new) where
      pub job_raisable : RaisedBytes new cost list
      job_raisable = record {
        same = v.room_is ∙ sym v.to.long;
        small = λ i l. omega (arith, is, least.below, v.sizes.many, (v.to.level i l).1);
      }

      pub job_done :
          rearrange_number q z old new (length list) ≡ 0 → {left : List ℕ} → left ≡ raised_levels cost new
          → Answered q z old new list (answer 0 cost) left
      unfolding rearrange_answer rearrange_list
      job_done none e =
          let raised = rw is at e in
          let given = given_done _ (raised_levels (cost_of old new) new) list none in
          (rw is (answered answer (cost_of old new) 0 none), (raised ∙ sym given, λ _. rw (is, raised) least))
