-- `symbols::store::store_prefix` meets its contract: the levels along the row tell the pushes of the storing rule, and a tie. Assumes nothing.
use mathlib.Core.Path.{◌≡◌, refl}
use mathlib.Core.List.{map}
use native.Mathlib.Omega.{arith}
use lib.ListN.{length, take}
use Rattle.theory.specs.Levels.{level}
use Rattle.symbols.specs.Answers.{LedBy}
use Rattle.symbols.proofs.Storing.{along_front, first_pushable, lead_refused, tie_refused, untied_now, lead_done, if_done}
use Rattle.symbols.proofs.store.store_prefix.Goals as goal
use Rattle.symbols.proofs.store.store_prefix.Goals.{After-levels_along-row}

-- the levels along the row
front : (c : After-levels_along-row)
    → let a = c.args in let n = length a.levels.now in
    take n c.levels_along-row.result ≡ map (level a.levels.now) (take n a.prefix.now.cells)
front c = along_front c.requires _ c.levels_along-row.ensures

pub returns-then-tied_along : goal.returns-then-tied_along
returns-then-tied_along c =
    let p = lead_refused 0 c.args.levels.now (take c.args.prefix.now.length c.args.prefix.now.cells) refl (tie_refused c.requires (front (goal.at.returns-then-tied_along c).After-levels_along-row) c.tied_along.ensures c.if-tied_along.true) (λ z. omega arith) in
    record { answer = p.0; levels_left = p.1.0; led = tt }

pub raise-requires : goal.raise-requires
raise-requires c =
    first_pushable c.requires (omega (arith, c.store_count-r.ensures.within))

pub returns : goal.returns
returns c =
    let v = c.requires in
    let p = lead_done v (front (goal.at.returns c).After-levels_along-row) c.store_count-r.ensures (untied_now v (front (goal.at.returns c).After-levels_along-row) c.tied_along.ensures c.if-tied_along.false)
    (c.raise.ensures.answer, c.raise.ensures.levels_left) in
    record { answer = p.0; levels_left = p.1.0; led = if_done (LedBy (take c.args.prefix.now.length c.args.prefix.now.cells) c.args.levels.now c.raise.new.levels) c.raise.result p.1.1 }
