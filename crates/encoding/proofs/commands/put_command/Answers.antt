-- `encoding::commands::put_command` meets its contract: each kind by its own. Assumes nothing.
use mathlib.Core.Path.{refl}
use mathlib.Core.List.{append-nil}
use native.Mathlib.Omega.{arith}
use Rattle.encoding.specs.CommandKinds.{kind_of, targeted, body_bytes}
use Rattle.encoding.proofs.Pieces.{head_end, count_end, store_end}
use Rattle.encoding.proofs.Lays.{lays_put}
use Rattle.encoding.proofs.commands.put_command.Goals as goal

pub returns-in-Count : goal.returns-in-Count
unfolding kind_of targeted body_bytes
returns-in-Count c =
    let put = c.put_count.ensures in
    rw c.in-Count.is (lays_put refl refl put (count_end _ _ put))

pub returns-in-Rewrite : goal.returns-in-Rewrite
unfolding kind_of targeted body_bytes
returns-in-Rewrite c = rw c.in-Rewrite.is c.put_rewrite.ensures

pub returns-in-Store : goal.returns-in-Store
unfolding kind_of targeted body_bytes
returns-in-Store c =
    let put = c.put_store.ensures in
    rw c.in-Store.is (lays_put refl refl put (store_end _ _ _ put))

pub returns-in-ChangeZero : goal.returns-in-ChangeZero
unfolding kind_of targeted body_bytes
returns-in-ChangeZero c =
    let put = c.put_head.ensures in
    rw (c.in-ChangeZero.is, append-nil) (lays_put refl refl put (omega (arith, head_end _ _ put)))
