-- `symbols::code::judge_code` meets its contract: the test decides the number. Assumes nothing.
use mathlib.Core.Path.{ap, ◌∙◌}
use Prim.Native.Nat.{ℕ, ◌≤◌}
use native.Mathlib.Omega.{arith}
use borrow.Author.Rules.{rules}
use Rattle.theory.specs.Prefix.{prefix_length}
use Rattle.theory.specs.Factorial.{factorial}
use Rattle.theory.proofs.Refusal.{refused, answered}
use Rattle.symbols.specs.ByCode.{Code, code_judged}
use Rattle.symbols.proofs.Codes.{code_out, code_done}
use Rattle.symbols.proofs.code.judge_code.Goals as goal
use Rattle.symbols.proofs.code.judge_code.Goals.{Else-not-contains}

-- the answer by its number
abbrev codeWith : ℕ → ℕ → Code
codeWith number length = record { number = number; length = length }

pub returns-then-not-contains : goal.returns-then-not-contains
unfolding code_judged
returns-then-not-contains c =
    let a = c.args in
    refused codeWith (prefix_length a.n a.m) 0 (code_out a.n a.m (λ low high. absurd (search rules))) (λ z. omega arith)

range : (c : Else-not-contains) → (1 ≤ c.args.m) × (c.args.m ≤ factorial c.args.n)
range c =
    let low : 1 ≤ c.args.m = search rules in
    let high : c.args.m ≤ c.small_factorial.result = search rules in
    (low, omega (arith, c.small_factorial.ensures))

pub returns : goal.returns
unfolding code_judged
returns c =
    let a = c.args in
    let r = range (goal.at.returns c).Else-not-contains in
    ap (codeWith 0) c.prefix_length.ensures ∙ answered codeWith (prefix_length a.n a.m) 0 (code_done a.n a.m r.0 r.1)
