-- `writer::page::put_groups` meets its contract: the groups up to i had no fault, and were put. Assumes nothing.
use lib.ListN.{take}
use Rattle.encoding.specs.SheetBytes.{group_bytes}
use Rattle.encoding.specs.Faults.{group_number}
use Rattle.encoding.proofs.PartsPut.{PartsPut}
use Rattle.writer.proofs.page.put_groups.Given as goal

abbrev pub invariant-loop-group : goal.invariant-loop-group
invariant-loop-group l = PartsPut group_number group_bytes (take l.fn.groups.count l.fn.groups.list) 41 l.initial.out l.initial.at l.out l.at l.group-index
