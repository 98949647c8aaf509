-- What each way out of a job answers. Assumes nothing.
use mathlib.Core.Path.{◌≡◌, sym, ap, ap₂, ◌∙◌}
use mathlib.Core.List.{List, []}
use mathlib.Core.Bool.{cond, ◌&&◌}
use Prim.Native.Nat.{ℕ, ◌≤◌}
use native.Mathlib.Omega.{arith}
use borrow.Author.Tests.{le-leb, lt-leb}
use lib.Dec.{leb}
use lib.ListN.{length}
use Rattle.theory.specs.Reasons.{done, value}
use Rattle.theory.specs.Permutation.{IsPermutation}
use Rattle.theory.specs.Push.{push}
use Rattle.theory.proofs.Cases.{by_le}
use Rattle.theory.proofs.Refusal.{refused, answered, or_else_refused}
use Rattle.theory.proofs.Padding.{padding}
use Rattle.theory.proofs.Stepping.{push_permutation}
use Rattle.permutation.specs.Records.{list_of, record_of, record_number}
use Rattle.permutation.specs.Answers.{placed_if, push_number, push_answer, successor_answer}
use Rattle.permutation.specs.declared.answers.Permutation.{Permutation}
use Rattle.permutation.specs.declared.answers.Permuted.{Permuted}
use Rattle.permutation.proofs.Records.{Sound, fault_record}
use Rattle.permutation.proofs.PushedRows.{push_row}

-- an answer that holds a permutation
abbrev pub permuted_with : ℕ → List ℕ → Permuted
permuted_with number xs = record { number = number; permutation = record_of xs }

-- ---- push
module _ (p : Permutation) (i : ℕ) where
  pub push_fault : {k : ℕ} → k ≡ record_number p → (k ≡ 0 → ⊥) → permuted_with k [] ≡ push_answer p i
  unfolding push_answer push_number
  push_fault e h = refused permuted_with (push i (list_of p)) [] (or_else_refused (record_number p) _ e h) h

  pub push_outside : record_number p ≡ 0 → (2 ≤ i → i ≤ p.n → ⊥) → permuted_with value [] ≡ push_answer p i
  unfolding push_answer push_number
  push_outside e h =
      let out : value ≡ cond (leb 2 i && leb i p.n) done value =
      by_le 2 i (λ l. by_le i p.n (λ m. absurd (h l m)) (λ m. rw (le-leb 2 i l, lt-leb i p.n m))) (λ l. rw (lt-leb 2 i l)) in
      refused permuted_with (push i (list_of p)) [] (rw e out) (λ z. omega arith)

  pub push_done : (cells : List ℕ) → Sound p → 2 ≤ i → i ≤ p.n → cells ≡ push i p.cells
      → ◌≡◌ {A = Permuted} (record { number = 0; permutation = record { n = p.n; cells = cells } }) (push_answer p i)
  unfolding push_answer push_number
  push_done cells s low high h =
      ap₂ (λ (k : ℕ) (l : List ℕ). record { number = 0; permutation = record { n = k; cells = l } }) long filled
      ∙ answered permuted_with (push i (list_of p)) [] (rw (s.fault, le-leb 2 i low, le-leb i p.n high))
    where
      long : p.n ≡ length (push i (list_of p))
      long = sym (push_permutation i (list_of p) (omega arith) high s.permutation).long

      filled : cells ≡ (record_of (push i (list_of p))).cells
      filled =
          h ∙ ap (λ (q : Permutation). push i q.cells) s.is ∙ push_row p.n i (list_of p) (omega arith) high s.permutation

-- ---- the jobs on the record of a permutation are done
module _ (n : ℕ) (xs : List ℕ) (few : 2 ≤ n) (many : n ≤ 20) (o : IsPermutation n xs) where
  pub list_record : list_of (record_of xs) ≡ xs
  list_record = (padding xs (omega (arith, o.long))).first

  pub placed_record : successor_answer (record_of xs) ≡ placed_if 0 n xs
  unfolding successor_answer
  placed_record = rw (fault_record n xs few many o, list_record, o.long)

  pub pushed_record : (i : ℕ) → 2 ≤ i → i ≤ n → push_answer (record_of xs) i ≡ record { number = 0; permutation = record_of (push i xs) }
  unfolding push_answer push_number
  pushed_record i low high = rw (fault_record n xs few many o, list_record, o.long, le-leb 2 i low, le-leb i n high)
