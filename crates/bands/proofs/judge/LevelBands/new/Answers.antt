-- `bands::judge::LevelBands::new` meets its contract: each test decides the number. Assumes nothing.
use mathlib.Core.Path.{◌≡◌, refl, sym, ◌∙◌}
use native.Mathlib.Omega.{arith}
use lib.ListN.{length}
use Rattle.std.proofs.lemmas.Result.{err_from_is_err_and}
use Rattle.theory.specs.Reasons.{done}
use Rattle.theory.specs.Refusal.{size_of}
use Rattle.theory.proofs.Refusal.{or_else_refused}
use Rattle.permutation.proofs.Refusals.{not_done}
use Rattle.bands.specs.Answers.{bands_number}
use Rattle.bands.proofs.Judging.{banded, bands_fit, bands_value, bands_done}
use Rattle.bands.proofs.judge.LevelBands.new.Goals as goal
use Rattle.bands.proofs.judge.LevelBands.new.Goals.{In_ok-size_within, Else-not-none_above}

pub returns-in_err-size_within : goal.returns-in_err-size_within
unfolding bands_number
returns-in_err-size_within c =
    let p = err_from_is_err_and c.from_residual.result c.from_residual.ensures.1 in
    rw (p.1, p.2) (record { number = or_else_refused (size_of (length c.args.lowest.now)) _ c.in_err-size_within.ensures.number (not_done c.in_err-size_within.field-0.0); made = tt })

-- past the first test the size is right
sized : (c : In_ok-size_within) → size_of (length c.args.lowest.now) ≡ 0
sized c = sym c.in_ok-size_within.ensures.number

pub returns-then-highest-lowest : goal.returns-then-highest-lowest
returns-then-highest-lowest c = record { number = bands_fit _ _ (sized (goal.at.returns-then-highest-lowest c).In_ok-size_within) (λ e. omega (arith, c.if-highest-lowest.true, e)); made = tt }

pub returns-then-not-none_above : goal.returns-then-not-none_above
returns-then-not-none_above c =
    let size = sized (goal.at.returns-then-not-none_above c).In_ok-size_within in
    record { number = bands_value _ _ size (omega (arith, c.if-highest-lowest.false)) (sym c.none_above.ensures ∙ c.if-not-none_above.true); made = tt }

taken : (c : Else-not-none_above) → done ≡ bands_number c.args.lowest.now c.args.highest.now
taken c =
    bands_done _ _ (sized (goal.at.Else-not-none_above c).In_ok-size_within) (omega (arith, c.if-highest-lowest.false)) (sym c.none_above.ensures ∙ c.if-not-none_above.false)

pub invariant_of-result : goal.invariant_of-result
invariant_of-result c = record { taken = banded _ _ (sym (taken (goal.at.invariant_of-result c).Else-not-none_above)) }

pub returns : goal.returns
returns c = record { number = taken (goal.at.returns c).Else-not-none_above; made = (refl, refl) }
