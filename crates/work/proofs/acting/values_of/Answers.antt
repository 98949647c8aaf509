-- `work::acting::values_of` meets its contract. The loop's invariant: the row holds the values of the groups passed. Assumes nothing.
use mathlib.Core.Path.{sym, ◌∙◌}
use Prim.Native.Nat.{◌≤◌}
use borrow.Author.Rules.{rules}
use lib.ListN.{length}
use Rattle.theory.proofs.FilledRow.{filled_more, row_none, row_all}
use Rattle.work.specs.Work.{value_of}
use Rattle.work.proofs.Working.{group_at_held}
use Rattle.work.proofs.Zipped.{beside_count, beside_at}
use Rattle.work.proofs.acting.values_of.Goals as goal
use Rattle.work.proofs.acting.values_of.Goals.{Start}

-- each group has a zero beside it
zeros_enough : (c : Start) → c.args.groups.now.count ≤ length c.args.zeros.now
zeros_enough c = let few = c.requires.few in search rules

pub loop-g-init : goal.loop-g-init
loop-g-init c = row_none 64 0 (beside_count value_of c.requires c.args.zeros.now (zeros_enough c)) c.requires.few

pub value_of-requires : goal.value_of-requires
value_of-requires c = group_at_held c.requires _ c.loop-g-test.true _

pub loop-g-preserved : goal.loop-g-preserved
loop-g-preserved c =
    filled_more c.loop-g.invariant c.loop-g-test.true 0
    (c.value_of.ensures ∙ sym (beside_at value_of c.requires c.args.zeros.now (zeros_enough (goal.at.loop-g-preserved c).Start) c.loop-g.g c.loop-g-test.true _ _ 0))

pub returns : goal.returns
returns c = row_all 64 0 c.loop-g.invariant c.loop-g-test.false
