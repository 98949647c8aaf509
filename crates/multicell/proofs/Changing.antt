-- Changing one arrangement into another: the cost is not negative, the raised levels are a raise that costs it, and none costs less. Assumes nothing.
use mathlib.Core.Path.{◌≡◌, sym, ◌∙◌}
use mathlib.Core.List.{List}
use Prim.Native.Nat.{ℕ, zero, suc, ◌+◌, ◌-◌, ◌≤◌, ◌<◌}
use native.Mathlib.Omega.{arith}
use lib.IntN.{pos}
use lib.ListN.{length, get_or, length-map, get_or-map}
use Rattle.theory.specs.Levels.{highest}
use Rattle.theory.proofs.Extremes.{entry≤highest, highest≤}
use Rattle.theory.proofs.Padding.{get_or_any}
use Rattle.multicell.specs.Arrangement.{IsArrangement, IsRaise}
use Rattle.multicell.specs.Cost.{differences, largest, cost_of, raised_levels}
use Rattle.multicell.specs.Claims.{IsLargest, LeastRaise}
use Rattle.multicell.proofs.Arranging.{CellOn, count_at_lem}
use Rattle.multicell.proofs.Differences.{differences_length, cost_natural, cost_largest, largest_each, largest_here}

pub raised_at : (c : ℕ) (new : List ℕ) (i : ℕ) → i < length new → get_or (raised_levels c new) i 0 ≡ get_or new i 0 + c
raised_at c new i l =
    get_or_any (raised_levels c new) i 0 (0 + c) (omega (arith, length-map new (λ v. v + c))) ∙ get_or-map (λ v. v + c) new i 0

module _ {q z : ℕ} {old new : List ℕ} (levels : 1 ≤ q) (cells : 1 ≤ z) (o : IsArrangement q z old) (w : IsArrangement q z new) where
  pub same : length old ≡ length new
  same = o.long ∙ sym w.long

  -- every new level has a cell
  cell_of : (v : ℕ) → 1 ≤ v → v ≤ q → CellOn v new
  cell_of v low high = count_at_lem v new (omega (arith, w.used v low high))

  cell_within : {v : ℕ} (c : CellOn v new) → c.index < length old
  cell_within c = omega (arith, c.within, same)

  -- one of new level 1 is not below it yet
  lowest_cell : CellOn 1 new
  lowest_cell = cell_of 1 (omega arith) levels

  lowest_kept : get_or new lowest_cell.index 0 ≤ get_or old lowest_cell.index 0
  lowest_kept = omega (arith, lowest_cell.here, (o.level lowest_cell.index (cell_within lowest_cell)).0)

  pub some_cell : 0 < length old
  some_cell = omega (arith, cell_within lowest_cell)

  pub natural : largest (differences old new) ≡ pos (cost_of old new)
  natural = cost_natural old new same (cell_within lowest_cell) lowest_kept

  -- where the cost falls
  top : IsLargest (differences old new) (pos (cost_of old new))
  top = cost_largest old new same (cell_within lowest_cell) lowest_kept

  top_within : top.index < length old
  top_within = omega (arith, top.within, differences_length old new same)

  -- a cell of every level above a cell's new one is higher, so that the highest is as far above it as q above its new level
  above : (f : List ℕ) → IsRaise old new f → (k i : ℕ) → i < length old → get_or new i 0 + k ≡ q → get_or f i 0 + k ≤ highest f
  above f r zero i l e = omega (arith, entry≤highest f i)
  above f r (suc k) i l e =
      let next : CellOn (get_or new i 0 + 1) new = cell_of (get_or new i 0 + 1) (omega arith) (omega arith) in
      let j : ℕ = next.index in
      let more : get_or f i 0 < get_or f j 0 = r.apart i j l (cell_within next) (omega (arith, next.here)) in
      omega (arith, above f r k j (cell_within next) (omega (arith, next.here)))

  pub least_raise : LeastRaise q old new (cost_of old new) (raised_levels (cost_of old new) new)
  least_raise =
      let c : ℕ = cost_of old new in
      let raised : List ℕ = raised_levels c new in
      let many : length raised ≡ length new = length-map new (λ v. v + c) in
      let at : (i : ℕ) → i < length old → get_or raised i 0 ≡ get_or new i 0 + c = λ i l. raised_at c new i (omega (arith, same)) in
      let here : get_or old top.index 0 ≡ get_or new top.index 0 + c = largest_here old new same c top in
      let from = o.level top.index top_within in
      let to = w.level top.index (omega (arith, top_within, same)) in
      record {
        difference = top;
        raise = record {
          long = many ∙ sym same;
          rise = λ i l. omega (arith, at i l, largest_each old new same c top i l);
          apart = λ i j k l less. omega (arith, at i k, at j l);
        };
        risen =
            let highest_cell : CellOn q new = cell_of q levels (omega arith) in
            let upper : highest raised ≤ q + c =
            highest≤ raised (q + c) (λ i l. omega (arith, raised_at c new i (omega (arith, many)), (w.level i (omega (arith, many))).1)) in
            omega (arith, entry≤highest raised highest_cell.index, raised_at c new highest_cell.index highest_cell.within, highest_cell.here);
        least = λ f r.
            omega (arith, above f r (q - get_or new top.index 0) top.index top_within (omega (arith, to.1)), r.rise top.index top_within, to.1);
        together = λ i j k l e. omega (arith, e, raised_at c new i k, raised_at c new j l);
        below = omega (arith, from.1, to.0);
      }
