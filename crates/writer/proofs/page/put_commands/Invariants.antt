-- `writer::page::put_commands` meets its contract: the commands up to i had no fault, and were put. Assumes nothing.
use lib.ListN.{take}
use Rattle.encoding.specs.SheetBytes.{entry_bytes}
use Rattle.encoding.specs.Faults.{entry_number}
use Rattle.encoding.proofs.PartsPut.{PartsPut}
use Rattle.writer.proofs.page.put_commands.Given as goal

abbrev pub invariant-loop-entry : goal.invariant-loop-entry
invariant-loop-entry l =
    PartsPut (entry_number l.fn.sheet.groups) entry_bytes (take l.fn.sheet.count l.fn.sheet.entries) 22 l.initial.out l.initial.at l.out l.at l.entry-index
