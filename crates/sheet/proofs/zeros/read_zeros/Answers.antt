-- `sheet::zeros::read_zeros` meets its contract: at each return the tests that led there say which case of `zeros_at` holds. Assumes nothing.
use mathlib.Core.Path.{sym, ap, ◌∙◌}
use Prim.Native.Nat.{◌≤◌}
use native.Mathlib.Omega.{arith}
use borrow.Author.Rules.{rules}
use Rattle.theory.proofs.Cases.{by_le}
use Rattle.sheet.specs.Parts.{zeros_answer}
use Rattle.sheet.proofs.ZeroSection.{held_old, named_anywhere}
use Rattle.sheet.proofs.ByTests.{zeros_none, zeros_beyond, zeros_few, zeros_many, zeros_unended, zeros_row}
use Rattle.sheet.proofs.zeros.read_zeros.Goals as goal
use Rattle.sheet.proofs.zeros.read_zeros.Goals.{Else-not-contains}

pub returns-then-at-s : goal.returns-then-at-s
unfolding zeros_answer
returns-then-at-s c =
    rw (zeros_none _ _ _ c.if-at-s.true, c.old_zeros.ensures, held_old c.args.total c.requires)

pub returns-then-s-at : goal.returns-then-s-at
unfolding zeros_answer
returns-then-s-at c = ap zeros_answer (sym (zeros_beyond _ _ _ c.if-s-at.true))

pub returns-then-not-contains : goal.returns-then-not-contains
unfolding zeros_answer
returns-then-not-contains c =
    let n = c.from-count.result in
    ap zeros_answer
    (sym
    (by_le 1 n
    (λ some. by_le n c.args.total (λ few. absurd (search rules)) (λ many. zeros_many _ _ _ _ (omega arith) c.from-count.ensures some many))
    (λ none. zeros_few _ _ _ _ (omega arith) c.from-count.ensures none)))

-- past the test
counted : (c : Else-not-contains) → (1 ≤ c.from-count.result) × (c.from-count.result ≤ c.args.total)
counted c = (search rules, search rules)

pub returns-then-s-from : goal.returns-then-s-from
unfolding zeros_answer
returns-then-s-from c =
    let n = counted (goal.at.returns-then-s-from c).Else-not-contains in
    ap zeros_answer (sym (zeros_unended _ _ _ _ (omega arith) c.from-count.ensures n.0 n.1 (λ e. omega arith)))

pub returns : goal.returns
returns c =
    let n = counted (goal.at.returns c).Else-not-contains in
    c.zeros_named.ensures
    ∙ named_anywhere _ _ _
    ∙ ap zeros_answer (sym (zeros_row _ _ _ _ (omega arith) c.from-count.ensures n.0 n.1 (omega arith)))
