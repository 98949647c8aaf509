-- `permutation::push::push_row` meets its contract: the cell at the place, put in before those above it. Assumes nothing.
use mathlib.Core.Path.{◌≡◌, ◌∙◌}
use Prim.Native.Nat.{◌+◌, ◌-◌}
use native.Mathlib.Omega.{arith}
use Rattle.theory.specs.Push.{push}
use Rattle.permutation.proofs.push.push_row.Goals as goal

pub returns : goal.returns
unfolding push
returns c =
    let place = c.args.place in
    let e : place - 1 + 1 ≡ place = omega arith in
    c.put_in.ensures ∙ rw e
