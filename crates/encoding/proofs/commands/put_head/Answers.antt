-- `encoding::commands::put_head` meets its contract: two numbers of a byte. Assumes nothing.
use native.Mathlib.Omega.{arith}
use Rattle.encoding.specs.SheetBytes.{head_bytes}
use Rattle.encoding.proofs.Pieces.{number_end}
use Rattle.sheet.proofs.Putting.{puts_then}
use Rattle.encoding.proofs.commands.put_head.Goals as goal

pub put_little-requires : goal.put_little-requires
put_little-requires c = let one = c.put_little-next.ensures in omega (arith, one.long, number_end 1 _ one)

pub returns : goal.returns
unfolding head_bytes
returns c = puts_then (rw c.from.ensures at c.put_little-next.ensures) (rw c.from-2.ensures at c.put_little.ensures)
