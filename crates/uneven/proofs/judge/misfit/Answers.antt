-- `uneven::judge::misfit` meets its contract: each test decides the number. Assumes nothing.
use borrow.Author.Rules.{rules}
use Rattle.uneven.proofs.Ranges.{misfit_out, no_fit, all_fit}
use Rattle.uneven.proofs.judge.misfit.Goals as goal

pub returns-then-not-contains : goal.returns-then-not-contains
returns-then-not-contains c = misfit_out _ _ _ (λ few many. absurd (search rules))

pub returns-then-entries-m : goal.returns-then-entries-m
returns-then-entries-m c = no_fit _ _ _ (search rules) (search rules) c.if-entries-m.true

pub returns : goal.returns
returns c = all_fit _ _ _ (search rules) (search rules) c.if-entries-m.false
