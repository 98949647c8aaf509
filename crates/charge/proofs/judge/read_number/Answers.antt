-- `charge::judge::read_number` meets its contract: each test decides the number. Assumes nothing.
use mathlib.Core.Path.{◌≡◌, sym, ◌∙◌}
use mathlib.Core.Bool.{cond}
use lib.ListN.{length}
use Rattle.std.proofs.lemmas.Result.{err_from_is_err_and}
use Rattle.theory.specs.Reasons.{done, tie}
use Rattle.theory.specs.Refusal.{size_of}
use Rattle.theory.specs.Levels.{tied, read_number}
use Rattle.theory.proofs.Refusal.{or_else_refused}
use Rattle.permutation.proofs.Refusals.{not_done}
use Rattle.charge.proofs.judge.read_number.Goals as goal
use Rattle.charge.proofs.judge.read_number.Goals.{In_ok-size_within}

pub returns-in_err-size_within : goal.returns-in_err-size_within
unfolding read_number
returns-in_err-size_within c =
    let L = c.args.levels.now in
    let p = err_from_is_err_and c.from_residual.result c.from_residual.ensures.1 in
    rw (p.1, p.2) (or_else_refused (size_of (length L)) (cond (tied L) tie done) c.in_err-size_within.ensures.number (not_done c.in_err-size_within.field-0.0))

-- past the first test the size is right
sized : (c : In_ok-size_within) → size_of (length c.args.levels.now) ≡ 0
sized c = sym c.in_ok-size_within.ensures.number

pub returns-then-tied : goal.returns-then-tied
unfolding read_number
returns-then-tied c = rw (sized (goal.at.returns-then-tied c).In_ok-size_within, sym c.tied.ensures ∙ c.if-tied.true)

pub returns : goal.returns
unfolding read_number
returns c = rw (sized (goal.at.returns c).In_ok-size_within, sym c.tied.ensures ∙ c.if-tied.false)
