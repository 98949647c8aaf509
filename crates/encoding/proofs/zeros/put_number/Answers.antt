-- `encoding::zeros::put_number` meets its contract: each zero by its own. Assumes nothing.
use mathlib.Core.List.{flat_map, append-nil}
use Rattle.sheet.proofs.Putting.{puts_nothing}
use Rattle.encoding.specs.SheetBytes.{number_on_new}
use Rattle.encoding.proofs.zeros.put_number.Goals as goal

pub returns-in-Old : goal.returns-in-Old
unfolding number_on_new flat_map
returns-in-Old c = rw c.in-Old.is (puts_nothing _ _)

pub returns-in-New : goal.returns-in-New
unfolding number_on_new flat_map
returns-in-New c = rw (c.in-New.is, append-nil) c.put_little.ensures
