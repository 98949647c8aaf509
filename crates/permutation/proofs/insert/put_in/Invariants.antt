-- `permutation::insert::put_in` meets its contract: c put in among the first i cells gives the row that was asked for. Assumes nothing.
use mathlib.Core.Path.{◌≡◌}
use Prim.Native.Nat.{◌≤◌}
use lib.ListN.{length}
use Rattle.permutation.specs.Insert.{put_in}
use Rattle.permutation.proofs.insert.put_in.Given as goal

abbrev pub invariant-loop-i : goal.invariant-loop-i
invariant-loop-i l = (l.at ≤ l.i) × (l.i ≤ l.m) × (length l.cells ≡ 20) × (put_in l.i l.at l.c l.cells ≡ put_in l.m l.at l.c l.initial.cells)
