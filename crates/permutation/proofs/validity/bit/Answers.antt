-- `permutation::validity::bit` meets its contract: the shifted 1 fits 32 bits. Assumes nothing.
use mathlib.Core.Path.{◌∙◌}
use Prim.Native.Nat.{◌^◌}
use native.Mathlib.Nat.{one-mul}
use native.Mathlib.Omega.{arith}
use lib.Pow.{shl_exact}
use Rattle.permutation.proofs.validity.bit.Goals as goal

pub returns : goal.returns
returns c = shl_exact {a = 1} 1 c.args.c 32 (omega arith) (omega arith) ∙ one-mul (2 ^ c.args.c)
