-- `encoding::commands::put_count` meets its contract: the head, and k. Assumes nothing.
use Rattle.encoding.specs.CommandKinds.{kind_of, body_bytes}
use native.Mathlib.Omega.{arith}
use Rattle.sheet.proofs.Putting.{puts_then}
use Rattle.encoding.proofs.Pieces.{head_end}
use Rattle.encoding.proofs.commands.put_count.Goals as goal

pub put_little-requires : goal.put_little-requires
put_little-requires c = let head = c.put_head-body.ensures in omega (arith, head.long, head_end _ _ head)

pub returns : goal.returns
unfolding kind_of body_bytes
returns c = puts_then c.put_head-body.ensures (rw c.from.ensures at c.put_little.ensures)
