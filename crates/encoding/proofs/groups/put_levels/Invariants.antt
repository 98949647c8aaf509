-- `encoding::groups::put_levels` meets its contract: the levels up to i were put. Assumes nothing.
use mathlib.Core.List.{flat_map}
use Rattle.sheet.specs.Bytes.{bytes_of}
use Rattle.sheet.proofs.Putting.{Row}
use Rattle.encoding.proofs.groups.put_levels.Given as goal

abbrev pub invariant-loop-level : goal.invariant-loop-level
invariant-loop-level l = Row (flat_map (bytes_of 2)) l.levels 2 l.initial.out l.at l.out l.end l.level-index
