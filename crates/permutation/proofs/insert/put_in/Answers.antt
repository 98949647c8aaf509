-- `permutation::insert::put_in` meets its contract: c put in among the first i cells gives the row that was asked for. Assumes nothing.
use mathlib.Core.Path.{◌≡◌, ap, ◌∙◌}
use Prim.Native.Nat.{ℕ, ◌+◌, ◌-◌, ◌<◌}
use native.Mathlib.Omega.{arith}
use lib.ListN.{length, get_or, set, length-set}
use Rattle.permutation.specs.Insert.{put_in}
use Rattle.permutation.proofs.Inserting.{put_shift, put_end}
use Rattle.permutation.proofs.insert.put_in.Goals as goal

pub loop-i-preserved : goal.loop-i-preserved
loop-i-preserved c =
    let a = c.args in
    let l = c.loop-i in
    let lt : a.at < l.i = c.loop-i-test.true in
    let back : l.i - 1 + 1 ≡ l.i = omega arith in
    let in-it : l.i < length l.cells = omega (arith, l.invariant.2) in
    let x : ℕ = get_or l.cells (l.i - 1) 0 in (
      omega arith,
      omega arith,
      length-set l.cells (l.i - 1 + 1) x ∙ l.invariant.2,
      ap (λ (k : ℕ). put_in (l.i - 1) a.at a.c (set l.cells k x)) back ∙ put_shift l.cells l.i a.at a.c lt in-it ∙ l.invariant.3,
    )

pub returns : goal.returns
returns c =
    let a = c.args in
    let l = c.loop-i in
    let done : l.i ≡ a.at = omega arith in
    let in-it : l.i < length l.cells = omega (arith, l.invariant.2) in
    rw done at (put_end l.cells l.i a.at a.c done in-it ∙ l.invariant.3)
