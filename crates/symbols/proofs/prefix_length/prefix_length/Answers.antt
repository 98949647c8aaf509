-- `symbols::prefix_length::prefix_length` meets its contract: no length before the first that is enough is. Assumes nothing.
use mathlib.Core.Path.{◌∙◌}
use Prim.Native.Nat.{◌-◌, ◌/◌, ◌<◌, ◌≤◌}
use borrow.Author.Rules.{rules}
use borrow.Author.Tests.{tests}
use Rattle.std.proofs.lemmas.Iterator.{first_from_Range}
use Rattle.theory.specs.Factorial.{factorial}
use Rattle.symbols.proofs.Lengths.{first_found}
use Rattle.symbols.proofs.prefix_length.prefix_length.Goals as goal

pub returns : goal.returns
returns c =
    let a = c.args in
    let pre = c.requires in
    let first = first_from_Range _ _ _ c.find.result (λ p. factorial (a.n - p) ≤ factorial a.n / a.m) (λ p. factorial a.n / a.m < factorial (a.n - p)) c.find.ensures.ran
    (λ x q k. search (rules, tests)) (λ x q k. search (rules, tests)) in
    c.unwrap_or.ensures ∙ first_found a.n a.m pre.1 pre.2 c.find.result first
