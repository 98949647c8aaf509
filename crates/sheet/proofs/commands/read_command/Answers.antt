-- `sheet::commands::read_command` meets its contract: at each return the tests that led there say which case of `command` holds. Assumes nothing.
use mathlib.Core.Path.{◌≡◌, sym, ap, ◌∙◌}
use Prim.Native.Nat.{◌+◌}
use native.Mathlib.Omega.{arith}
use lib.ListN.{get_or}
use Rattle.sheet.specs.Sheet.{change_at, command, body_at}
use Rattle.sheet.specs.Parts.{entry_answer}
use Rattle.sheet.proofs.ByTests.{command_short, command_stray, command_body, body_count, body_rewrite, body_store, body_change, body_none}
use Rattle.sheet.proofs.commands.read_command.Goals as goal
use Rattle.sheet.proofs.commands.read_command.Goals.{Else-sizes-g}

-- past the tests, the kind decides
at_body : (c : Else-sizes-g) → let a = c.args in
    command a.sizes.now a.s.now a.at
    ≡ body_at (get_or a.s.now a.at 0) (get_or a.s.now (a.at + 1) 0) (get_or a.sizes.now c.from-g.result 0) a.s.now (a.at + 2)
at_body c =
    let body : c.args.at + 2 ≡ c.args.at + 1 + 1 = omega arith in
    rw (c.from-g.ensures, body) (command_body _ _ _ (omega arith) (omega arith) (omega (arith, c.from-g.ensures, c.if-sizes-g.false)))

pub returns-then-saturating_sub-lt2 : goal.returns-then-saturating_sub-lt2
unfolding entry_answer
returns-then-saturating_sub-lt2 c = ap entry_answer (sym (command_short _ _ _ (omega arith)))

pub returns-then-sizes-g : goal.returns-then-sizes-g
unfolding entry_answer
returns-then-sizes-g c =
    ap entry_answer (sym (command_stray _ _ _ (omega arith) (omega arith) (omega (arith, c.from-g.ensures, c.if-sizes-g.true))))

pub returns-in-1 : goal.returns-in-1
returns-in-1 c = c.count_at.ensures ∙ ap entry_answer (sym (at_body (goal.at.returns-in-1 c).Else-sizes-g ∙ body_count _ _ _ _ _ c.in-1.is))

pub returns-in-2 : goal.returns-in-2
returns-in-2 c = c.rewrite_at.ensures ∙ ap entry_answer (sym (at_body (goal.at.returns-in-2 c).Else-sizes-g ∙ body_rewrite _ _ _ _ _ c.in-2.is))

pub returns-in-3 : goal.returns-in-3
returns-in-3 c = c.store_at.ensures ∙ ap entry_answer (sym (at_body (goal.at.returns-in-3 c).Else-sizes-g ∙ body_store _ _ _ _ _ c.in-3.is))

pub returns-in-4 : goal.returns-in-4
unfolding entry_answer change_at
returns-in-4 c = rw c.untargeted.ensures (ap entry_answer (sym (at_body (goal.at.returns-in-4 c).Else-sizes-g ∙ body_change _ _ _ _ _ c.in-4.is)))

pub returns-in_default : goal.returns-in_default
unfolding entry_answer
returns-in_default c =
    ap entry_answer
    (sym (at_body (goal.at.returns-in_default c).Else-sizes-g ∙ body_none _ _ _ _ _ (λ e. omega arith) (λ e. omega arith) (λ e. omega arith) (λ e. omega arith)))
