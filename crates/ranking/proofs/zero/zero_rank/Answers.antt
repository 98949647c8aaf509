-- `ranking::zero::zero_rank` meets its contract: the old zero has rank 0, and the new one that of the table, which antt computes by its rule. Assumes nothing.
use mathlib.Core.Path.{refl, sym}
use Rattle.theory.specs.Permutation.{place_of}
use Rattle.theory.specs.Rank.{digit, remaining, rank}
use Rattle.theory.proofs.Zero.{old_rank}
use Rattle.ranking.specs.Zeros.{new_zero_ranks}
use Rattle.ranking.proofs.Table.{new_zero_at}
use Rattle.ranking.proofs.zero.zero_rank.Goals as goal

pub returns-in-Old : goal.returns-in-Old
returns-in-Old c = rw c.in-Old.is (sym (old_rank c.args.n))

pub returns-in-New : goal.returns-in-New
unfolding new_zero_ranks place_of digit remaining rank
returns-in-New c = rw c.in-New.is (new_zero_at refl c.args.n c.requires)
