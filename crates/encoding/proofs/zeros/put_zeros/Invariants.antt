-- `encoding::zeros::put_zeros` meets its contract: the numbers of the groups up to g that are on the new zero were put, behind the place of their count. Assumes
-- nothing.
use Rattle.sheet.proofs.Putting.{Row}
use Rattle.encoding.proofs.SectionPut.{numbers_bytes}
use Rattle.encoding.proofs.zeros.put_zeros.Given as goal

abbrev pub invariant-loop-g : goal.invariant-loop-g
invariant-loop-g l = Row numbers_bytes l.zero-items 1 l.initial.out l.first l.out l.end l.g
