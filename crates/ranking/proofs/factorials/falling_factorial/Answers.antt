-- `ranking::factorials::falling_factorial` meets its contract: the quotient of two factorials, the lower of which is not 0. Assumes nothing.
use mathlib.Core.Path.{sym}
use Prim.Native.Nat.{◌-◌}
use Rattle.theory.proofs.Factorials.{factorial_pos, falling_quotient}
use Rattle.ranking.proofs.factorials.falling_factorial.Goals as goal

pub nonzero_div-result : goal.nonzero_div-result
nonzero_div-result c = rw c.small_factorial-2.ensures (factorial_pos (c.args.n - c.args.p))

pub returns : goal.returns
returns c =
    rw (c.small_factorial.ensures, c.small_factorial-2.ensures) (sym (falling_quotient c.args.n c.args.p c.requires.1))
