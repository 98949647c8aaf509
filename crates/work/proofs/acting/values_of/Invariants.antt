-- `work::acting::values_of` meets its contract. The loop's invariant: the row holds the values of the groups passed. Assumes nothing.
use mathlib.Core.List.{zip_with}
use lib.ListN.{take, replicate}
use Rattle.theory.proofs.FilledRow.{Filled}
use Rattle.sheet.specs.Held.{groups_in}
use Rattle.work.specs.Work.{value_of}
use Rattle.work.proofs.acting.values_of.Given as goal

abbrev pub invariant-loop-g : goal.invariant-loop-g
invariant-loop-g l =
    Filled (replicate 64 0) (zip_with value_of (take l.groups.count l.zeros) (groups_in l.groups)) l.groups.count l.values l.g
