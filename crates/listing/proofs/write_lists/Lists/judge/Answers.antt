-- `listing::write_lists::Lists::judge` meets its contract: fit, and then the zeros. Assumes nothing.
use mathlib.Core.Path.{sym, ◌∙◌}
use lib.Seq.{length-take-le}
use Rattle.listing.specs.LentLists.{LentLists, lists}
use Rattle.listing.proofs.Listing.{listed_so, number_short, number_zeros}
use Rattle.listing.proofs.write_lists.Lists.judge.Goals as goal
use Rattle.listing.proofs.write_lists.Lists.judge.Goals.{Start}

-- the lists that are lent
abbrev lent : Start → LentLists
lent c =
    let l = c.args.self.now in
    lists l.sizes.now l.levels.now l.zeros.now l.kinds.now l.groups.now l.numbers.now l.names.now

pub returns-then-not-are_long_enough : goal.returns-then-not-are_long_enough
returns-then-not-are_long_enough c =
    number_short (lent (goal.at.returns-then-not-are_long_enough c).Start) (sym c.are_long_enough.ensures ∙ c.if-not-are_long_enough.true)

pub slice_bounds-judge_zeros-end : goal.slice_bounds-judge_zeros-end
slice_bounds-judge_zeros-end c =
    let enough = listed_so _ _ _ _ _ _ _ (sym c.are_long_enough.ensures ∙ c.if-not-are_long_enough.false) in
    sym (length-take-le _ _ enough.zeros_there)

pub returns : goal.returns
returns c = c.judge_zeros.ensures ∙ number_zeros (lent (goal.at.returns c).Start) (sym c.are_long_enough.ensures ∙ c.if-not-are_long_enough.false)
