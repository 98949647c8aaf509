-- `encoding::commands::put_store` meets its contract. Assumes nothing.
use native.Mathlib.Omega.{arith}
use Rattle.encoding.specs.CommandKinds.{kind_of, body_bytes}
use Rattle.sheet.proofs.Putting.{puts_then}
use Rattle.encoding.proofs.Pieces.{number_end, head_end}
use Rattle.encoding.proofs.commands.put_store.Goals as goal

pub put_little-next-requires : goal.put_little-next-requires
put_little-next-requires c = let head = c.put_head-body.ensures in omega (arith, head.long, head_end _ _ head)

pub put_little-requires : goal.put_little-requires
put_little-requires c =
    let m = c.put_little-next.ensures in
    let head = c.put_head-body.ensures in
    omega (arith, m.long, head.long, head_end _ _ head, number_end 8 _ m)

pub returns : goal.returns
unfolding kind_of body_bytes
returns c = puts_then c.put_head-body.ensures (puts_then c.put_little-next.ensures c.put_little.ensures)
