-- `symbols::store::tied_along` meets its contract: where each of the first p is above all behind it, a tie is among the others. Assumes nothing.
use mathlib.Core.Path.{ap, ◌∙◌}
use mathlib.Core.List.{List}
use Prim.Native.Nat.{ℕ}
use denote.Ref.{Bor}
use native.Mathlib.Omega.{arith}
use borrow.Author.Rules.{part_to_end}
use Rattle.theory.specs.Levels.{tied}
use Rattle.symbols.proofs.Along.{tied_others}
use Rattle.symbols.proofs.store.tied_along.Goals as goal
use Rattle.symbols.proofs.store.tied_along.Goals.{then-all_stand, else-all_stand}

pub returns : goal.returns
returns c =
    let along = c.args.along.now in
    elim c.if-all_stand.branch [
      | then-all_stand w ↦
          c.tied.ensures ∙ ap tied (ap (λ (x : Bor (List ℕ)). x.now) w.tied-is ∙ part_to_end along c.args.p)
          ∙ tied_others along c.args.p (λ j l. c.requires.above j (omega (arith, w.if-all_stand.true)) l)
      | else-all_stand w ↦ c.tied.ensures ∙ ap (λ (x : Bor (List ℕ)). tied x.now) w.tied-is
    ]
