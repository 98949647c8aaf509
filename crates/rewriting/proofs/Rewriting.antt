-- What a rewrite answers, by the tests that the code makes, and what is read when it is done. Assumes nothing.
use mathlib.Core.Path.{◌≡◌, sym, ap, ◌∙◌, subst}
use mathlib.Core.Bool.{◌&&◌, and-eq-true_iff}
use mathlib.Core.List.{List, [], ◌++◌, reverse}
use Prim.Native.Nat.{ℕ, ◌-◌, ◌≤◌}
use native.Mathlib.Omega.{arith}
use borrow.Author.Tests.{eqb-true, leb-true}
use lib.Dec.{eqb, leb}
use lib.ListN.{length, take, drop}
use lib.Seq.{take-take, get_or-take}
use Rattle.theory.specs.Permutation.{IsPermutation, row}
use Rattle.theory.specs.Levels.{permutation_of, push_levels, read_number}
use Rattle.theory.specs.CountUp.{ceiling_of}
use Rattle.theory.specs.Rewrite.{rewrite_count, rewrite_pushes}
use Rattle.theory.specs.Spent.{Spends, charge_of}
use Rattle.theory.specs.Claims.{Rewriting}
use Rattle.theory.proofs.Members.{entry_inside}
use Rattle.theory.proofs.Sorting.{permutation_of_permutation}
use Rattle.theory.proofs.Reading as theory
use Rattle.theory.proofs.Rewriting.{rewriting}
use Rattle.theory.proofs.Spent.{row_sum, given_sum}
use Rattle.permutation.specs.Records.{list_of, record_of, record_number}
use Rattle.theory.specs.Refusal.{given, size_of}
use Rattle.permutation.specs.declared.answers.Permutation.{Permutation}
use Rattle.permutation.proofs.Records.{sound}
use Rattle.theory.proofs.Refusal.{refused, answered, given_done, given_refused, given_so, or_else_refused, or_else_done, tested, Readable, readable, read_done}
use Rattle.permutation.proofs.Answering.{permuted_with}
use Rattle.charge.specs.Answers.{no_pushes, pushes_of, read_answer}
use Rattle.charge.specs.declared.answers.Pushes.{Pushes}
use Rattle.charge.proofs.Sorting.{row_first}
use Rattle.charge.proofs.Numbers.{pushes_refused, with_spent}
use Rattle.rewriting.specs.Answers.{fit_of, pushes_to, target_number, rewrite_number, rewrite_answer, rewrite_levels, rewrite_list, RewriteOf}
use Rattle.rewriting.specs.Raising.{Pushable, raised}
use Rattle.charge.proofs.ReadLevels.{row_readable}
use Rattle.rewriting.proofs.Targets.{target_permutation}

-- ---- where the judge does not refuse

-- what is then known of the levels, of the target and of the room in the push list
pub record Judged (L : List ℕ) (target : Permutation) (room : ℕ) : Type 0 where
  pub none : target_number L target room ≡ 0
  pub readable : Readable L
  pub fault : record_number target ≡ 0
  pub same : target.n ≡ length L
  pub enough : length L - 1 ≤ room

pub judged : {L : List ℕ} {target : Permutation} {room : ℕ} → target_number L target room ≡ 0 → Judged L target room
unfolding target_number
judged {L} {target} {room} h =
    let past_target = (or_else_done (size_of target.n) _ (or_else_done (size_of (length L)) _ h).1).1 in
    let past_fit = or_else_done (fit_of L target room) _ past_target in
    let last = or_else_done (record_number target) (read_number L) past_fit.1 in
    let f = (and-eq-true_iff (eqb target.n (length L)) (leb (length L - 1) room)).0 (tested (eqb target.n (length L) && leb (length L - 1) room) (λ z. omega arith) past_fit.0) in
    record {
      none = h;
      readable = readable last.1;
      fault = last.0;
      same = eqb-true target.n (length L) f.0;
      enough = leb-true (length L - 1) room f.1;
    }

module _ {L : List ℕ} {target : Permutation} {room : ℕ} (j : Judged L target room) where
  target_is : IsPermutation (length L) (list_of target)
  target_is = subst (λ (n : ℕ). IsPermutation n (list_of target)) j.same (target_permutation target j.fault)

  rewrites : Rewriting (length L) (permutation_of L) (list_of target)
  rewrites =
      rewriting (length L) (permutation_of L) (list_of target) (omega (arith, j.readable.few)) (permutation_of_permutation L) target_is

  -- r is found on the sorted row
  pub sorted_number : {cells : List ℕ} {r : ℕ} → cells ≡ row (permutation_of L) → r ≡ rewrite_count (take target.n cells) (list_of target)
      → r ≡ pushes_to L target
  sorted_number sorted e = e ∙ rw (j.same, row_first L j.readable.many sorted)

  module _ {r : ℕ} (is : r ≡ pushes_to L target) where
    pub number_below : r ≤ length L - 1
    number_below = rw is rewrites.at_most

    pushes_are : reverse (take r target.cells) ≡ rewrite_pushes (permutation_of L) (list_of target)
    unfolding rewrite_pushes
    pushes_are =
        ap reverse (sym (take-take r target.n target.cells (omega (arith, number_below, j.same))))
        ∙ ap (λ (k : ℕ). reverse (take k (list_of target))) is

  -- the first cells of the target, so many as a rewrite may push
  pub pushable : {r : ℕ} → length target.cells ≡ 20 → r ≤ length L - 1 → Pushable (length L) target.cells r
  pushable {r} long below = record {
    long = long;
    few = omega (arith, j.readable.many);
    named = λ i h.
        let b = entry_inside target_is i (omega (arith, target_is.long)) in
        rw (get_or-take target.n target.cells i 0 (omega (arith, j.same))) at b;
  }

  -- the levels that the pushes leave are read as the target
  rewrite_read : {L' : List ℕ} {r : ℕ} → length target.cells ≡ 20 → L' ≡ push_levels (rewrite_pushes (permutation_of L) (list_of target)) L
      → r ≡ pushes_to L target → RewriteOf L target L' r
  unfolding read_answer
  rewrite_read {L'} {r} long e is =
      let cs : List ℕ = rewrite_pushes (permutation_of L) (list_of target) in
      let left : permutation_of L' ≡ list_of target =
      rw e ((theory.reading L j.readable.untied).row_read cs rewrites.cells ∙ rewrites.reaches) in
      record {
        read =
            sym (ap (λ (p : Permutation). record { number = 0; permutation = p }) ((sound target long j.fault).is ∙ ap record_of (sym left))
            ∙ answered permuted_with (permutation_of L') [] (read_done (rw e (row_readable cs rewrites.cells j.readable))));
        fewest = rw is rewrites.fewest;
      }

-- whatever is asked, levels with a permutation keep one
pub rewrite_readable : {L : List ℕ} → Readable L → (target : Permutation) (room : ℕ) → Readable (rewrite_levels L target room)
unfolding rewrite_levels rewrite_number
rewrite_readable {L} r target room =
    given_so Readable (rewrite_number L target room) _ L r
    (λ z. row_readable (rewrite_pushes (permutation_of L) (list_of target)) (rewrites (judged (or_else_done (target_number L target room) _ z).0)).cells r)

-- and the sum of the levels grows by what is spent
rewrite_spends : (L : List ℕ) (target : Permutation) (room : ℕ) → Spends L (rewrite_levels L target room) (rewrite_answer L target room).charge
unfolding rewrite_answer rewrite_levels rewrite_number
rewrite_spends L target room =
    given_sum (rewrite_number L target room) L _ _
    (λ z. row_sum (rewrite_pushes (permutation_of L) (list_of target)) L (rewrites (judged (or_else_done (target_number L target room) _ z).0)).cells)

-- ---- the answer

-- what the contract says of an answer, and of the levels and the list that are left
abbrev Answered : List ℕ → Permutation → List ℕ → Pushes → List ℕ → List ℕ → Type 0
Answered L target list a L' list' =
    (a ≡ rewrite_answer L target (length list))
    × ((L' ≡ rewrite_levels L target (length list))
    × ((list' ≡ rewrite_list L target list)
    × ((a.number ≡ 0 → RewriteOf L target L' a.pushes) × Spends L L' a.charge)))

module _ (L : List ℕ) (target : Permutation) (list : List ℕ) where
  pub rewrite_fault : {a : Pushes} {number : ℕ} → a ≡ no_pushes number → number ≡ target_number L target (length list) → (number ≡ 0 → ⊥)
      → Answered L target list a L list
  unfolding rewrite_answer rewrite_levels rewrite_list rewrite_number
  rewrite_fault e fault ne =
      let is = or_else_refused (target_number L target (length list)) (ceiling_of L (pushes_to L target)) fault ne in
      let cs : List ℕ = rewrite_pushes (permutation_of L) (list_of target) in
      let b = pushes_refused (pushes_to L target) (charge_of cs L) L (push_levels cs L) e is ne in
      let s = with_spent L (rewrite_spends L target (length list)) b in (
        s.0,
        (
          s.1.0,
          (
            refused (λ number left. left) (cs ++ drop (pushes_to L target) list) list is ne,
            (λ z. absurd (ne (sym (ap (λ (a : Pushes). a.number) e) ∙ z)), s.1.1),
          ),
        ),
      )

  -- the answer of r pushes is that of the job where r is its number of pushes, and the list gets their names where it is done
  module _ (j : Judged L target (length list)) (long : length target.cells ≡ 20) {r : ℕ} {a : Pushes} {L' : List ℕ}
      (k : (a ≡ pushes_of (ceiling_of L r) r (charge_of (reverse (take r target.cells)) L)) × (L' ≡ raised L target.cells r)) (is : r ≡ pushes_to L target) where
    reason_is : rewrite_number L target (length list) ≡ ceiling_of L r
    unfolding rewrite_number
    reason_is = rw (j.none, is)

    number_is : a.number ≡ ceiling_of L r
    number_is = ap (λ (b : Pushes). b.number) k.0

    names : List ℕ
    names = reverse (take r target.cells) ++ drop r list

    all_answered : {list' : List ℕ} → list' ≡ given (ceiling_of L r) names list → Answered L target list a L' list'
    unfolding rewrite_answer rewrite_levels rewrite_list raised names
    all_answered list_is =
        let left : L' ≡ given (ceiling_of L r) (push_levels (rewrite_pushes (permutation_of L) (list_of target)) L) L = k.1 ∙ rw (pushes_are j is) in
        let answer : a ≡ rewrite_answer L target (length list) = k.0 ∙ rw (reason_is, pushes_are j is, is) in
        let levels : L' ≡ rewrite_levels L target (length list) = left ∙ rw reason_is in
        let s = with_spent L (rewrite_spends L target (length list)) (answer, levels) in (
          s.0,
          (
            s.1.0,
            (
              list_is ∙ rw (reason_is, pushes_are j is, is),
              (
                λ z.
                    let done : L' ≡ _ = left ∙ given_done (ceiling_of L r) _ L (sym number_is ∙ z) in
                    rewrite_read j long done (ap (λ (b : Pushes). b.pushes) k.0 ∙ given_done (ceiling_of L r) r 0 (sym number_is ∙ z) ∙ is),
                s.1.1,
              ),
            ),
          ),
        )

    pub rewrite_done : {list' : List ℕ} → a.number ≡ 0 → list' ≡ reverse (take r target.cells) ++ drop r list → Answered L target list a L' list'
    unfolding names
    rewrite_done z list_is = all_answered (list_is ∙ sym (given_done (ceiling_of L r) _ list (sym number_is ∙ z)))

    pub rewrite_ceiling : (a.number ≡ 0 → ⊥) → Answered L target list a L' list
    rewrite_ceiling ne = all_answered (sym (given_refused (ceiling_of L r) _ list (λ z. ne (number_is ∙ z))))
