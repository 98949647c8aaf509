-- The number of a code of m symbols on n cells, and what `judge_code` answers. Assumes nothing.
use mathlib.Core.Path.{◌≡◌, sym, ap, ◌∙◌}
use mathlib.Core.Bool.{and-eq-true_iff, and-false}
use Prim.Native.Nat.{ℕ, ◌≤◌, ◌<◌}
use native.Mathlib.Omega.{arith}
use borrow.Author.Tests.{le-leb, lt-leb, leb-true}
use lib.Dec.{leb}
use Rattle.theory.specs.Reasons.{value}
use Rattle.theory.specs.Factorial.{factorial}
use Rattle.theory.specs.Prefix.{prefix_length}
use Rattle.theory.proofs.Cases.{by_le}
use Rattle.theory.proofs.Refusal.{tested}
use Rattle.symbols.specs.Answers.{coded, code_of}
use Rattle.symbols.specs.ByCode.{Code, code_judged}

module _ (n m : ℕ) where
  pub code_none : m < 1 → value ≡ code_of n m
  code_none h = rw (lt-leb 1 m h)

  pub code_many : factorial n < m → value ≡ code_of n m
  code_many h = rw (lt-leb m (factorial n) h, and-false (leb 1 m))

  pub code_done : 1 ≤ m → m ≤ factorial n → code_of n m ≡ 0
  code_done low high = rw (le-leb 1 m low, le-leb m (factorial n) high)

  pub code_out : (1 ≤ m → m ≤ factorial n → ⊥) → value ≡ code_of n m
  code_out h = by_le 1 m (λ low. by_le m (factorial n) (λ high. absurd (h low high)) code_many) code_none

  pub code_range : code_of n m ≡ 0 → (1 ≤ m) × (m ≤ factorial n)
  code_range z =
      let t = (and-eq-true_iff (leb 1 m) (leb m (factorial n))).0 (tested (coded n m) (λ e. omega arith) z) in
      (leb-true 1 m t.0, leb-true m (factorial n) t.1)

-- what `judge_code` answers
module _ (n m : ℕ) {code : Code} (e : code ≡ code_judged n m) where
  pub judged_number : code.number ≡ code_of n m
  unfolding code_judged
  judged_number = ap (λ (k : Code). k.number) e

  pub judged_range : code.number ≡ 0 → (1 ≤ m) × (m ≤ factorial n)
  judged_range z = code_range n m (sym judged_number ∙ z)

  pub judged_length : code.number ≡ 0 → code.length ≡ prefix_length n m
  unfolding code_judged
  judged_length z = ap (λ (k : Code). k.length) e ∙ rw (sym judged_number ∙ z)
