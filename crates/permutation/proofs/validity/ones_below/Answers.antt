-- `permutation::validity::ones_below` meets its contract: of c bits at most c are set. Assumes nothing.
use mathlib.Core.Path.{ap}
use Prim.Native.Nat.{ℕ, ◌%◌, ◌^◌, ◌≤◌}
use native.Mathlib.Nat.{mod-lt}
use native.Mathlib.Omega.{arith}
use lib.Count.{ones, ones-le}
use lib.Pow.{pow_pos}
use Rattle.permutation.proofs.validity.ones_below.Goals as goal

pub nonzero_rem-result : goal.nonzero_rem-result
nonzero_rem-result c = rw c.bit.ensures (pow_pos c.args.c)

pub overflow_cast-result : goal.overflow_cast-result
overflow_cast-result c =
    let k : ℕ = c.args.c in
    let seen : ℕ = c.args.seen in
    let few : ones (seen % c.bit.result) ≤ k = rw c.bit.ensures (ones-le k (seen % 2 ^ k) (mod-lt seen (pow_pos k))) in
    omega arith

pub returns : goal.returns
returns c = ap (λ (k : ℕ). ones (c.args.seen % k)) c.bit.ensures
