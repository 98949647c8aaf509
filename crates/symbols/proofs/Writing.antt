-- A row of twenty that keeps its first cells, with zeros past them. Assumes nothing.
use mathlib.Core.List.{List, ◌++◌}
use Prim.Native.Nat.{ℕ, ◌-◌}
use lib.ListN.{take, replicate}

-- the row that keeps its first i cells
abbrev pub cleared : ℕ → List ℕ → List ℕ
cleared i cells = take i cells ++ replicate (20 - i) 0
