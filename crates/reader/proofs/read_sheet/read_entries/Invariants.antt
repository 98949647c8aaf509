-- `reader::read_sheet::read_entries` meets its contract: the first i commands are in the row, and the rest is read from `at` on. Assumes nothing.
use Rattle.sheet.specs.Sheet.{command}
use Rattle.sheet.specs.Held.{no_entry}
use Rattle.sheet.specs.declared.held.Entry.{Entry}
use Rattle.reader.proofs.Loops.{Turns}
use Rattle.reader.proofs.read_sheet.read_entries.Given as goal

abbrev pub same : Entry → Entry
same e = e

abbrev pub invariant-loop-entry : goal.invariant-loop-entry
invariant-loop-entry l = Turns same l.count no_entry (command l.sizes l.s) l.count l.from l.entry-items l.at l.entry-index
