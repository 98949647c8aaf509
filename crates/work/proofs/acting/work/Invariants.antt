-- `work::acting::work` meets its contract. The loop's invariant: the answers, the groups and their zeros are those of the commands passed. Assumes nothing.
use Rattle.work.proofs.Working.{Progress, ZerosSoFar}
use Rattle.work.proofs.acting.work.Given as goal

abbrev pub invariant-loop-i : goal.invariant-loop-i
invariant-loop-i l = Progress l.fn.sheet l.answers l.groups l.i × ZerosSoFar l.fn.sheet l.zeros l.i
