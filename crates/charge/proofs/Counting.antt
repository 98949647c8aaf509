-- Count up by steps: one step and its jump; what is left of the count, on the present levels, is the whole count on the first; what it spends. Assumes nothing.
use mathlib.Core.Path.{◌≡◌, refl, sym, ap, ◌∙◌}
use mathlib.Core.List.{List}
use Prim.Native.Nat.{ℕ, suc, ◌+◌, ◌-◌, ◌≤◌, ◌<◌}
use native.Mathlib.Omega.{arith}
use lib.ListN.{length, get_or, take, set}
use lib.Seq.{length-take-le}
use Rattle.theory.specs.Permutation.{row, cell_at}
use Rattle.theory.specs.Push.{push}
use Rattle.theory.specs.Successor.{successor}
use Rattle.theory.specs.Levels.{permutation_of, push_level, jump}
use Rattle.theory.specs.CountUp.{next_cell, count_up}
use Rattle.theory.specs.Spent.{level_sum, charge_of, count_up_pushes}
use Rattle.theory.specs.Claims.{Reading}
use Rattle.theory.proofs.Splits.{successor_bounds}
use Rattle.theory.proofs.Reading.{reading}
use Rattle.theory.proofs.Spent.{sum_fits, next_inside, step_sum, counted_sum}
use Rattle.permutation.proofs.PushedRows.{push_row}
use Rattle.charge.specs.Counting.{Ready, Counted}
use Rattle.charge.proofs.Sorting.{row_long, row_first}
use Rattle.charge.proofs.Pushing.{PlacedCell, placed_cell, placed_push, placed_jump}

-- ---- one step

module _ {L cells : List ℕ} {top k : ℕ} (v : Ready L cells top k) where
  pub long : length cells ≡ 20
  long = row_long L v.many v.cells_are

  -- the names in the row are as many as the levels
  pub names_long : length (take (length L) cells) ≡ length L
  names_long = length-take-le (length L) cells (omega (arith, v.many, long))

  -- it pushes at the place that is the successor of these names
  module _ {place : ℕ} (e : place ≡ successor (length (take (length L) cells)) (take (length L) cells)) where
    place_is : place ≡ successor (length L) (permutation_of L)
    place_is = e ∙ rw (names_long, row_first L v.many v.cells_are)

    pub place_bounds : (2 ≤ place) × (place ≤ length L)
    place_bounds = rw place_is (successor_bounds (length L) (permutation_of L) v.few)

    module _ {next : List ℕ} {c : ℕ} (pushed : next ≡ push place cells) (cell : c ≡ get_or next 0 0) where
      pub next_cell_lem : PlacedCell L place c
      unfolding push
      next_cell_lem = placed_cell L place (omega (arith, place_bounds.0)) place_bounds.1 v.cells_are (cell ∙ rw pushed)

      next_is : cell_at place (permutation_of L) ≡ next_cell L
      unfolding next_cell
      next_is = ap (λ (i : ℕ). cell_at i (permutation_of L)) place_is

      pub step_levels_lem : set L (c - 1) (top + 1) ≡ push_level (next_cell L) L
      step_levels_lem = placed_push next_cell_lem v.top_is ∙ ap (λ (d : ℕ). push_level d L) next_is

      pub step_cells : next ≡ row (permutation_of (push_level (next_cell L) L))
      step_cells =
          let r : Reading L = reading L v.untied in
          let low : 1 ≤ place = omega (arith, place_bounds.0) in
          pushed
          ∙ ap (push place) v.cells_are
          ∙ push_row (length L) place (permutation_of L) low place_bounds.1 r.reads.permutation
          ∙ ap row (sym (r.push_read place low place_bounds.1) ∙ ap (λ (d : ℕ). permutation_of (push_level d L)) next_is)

      pub step_jump : (get_or L (c - 1) 0 ≤ top + 1) × (top + 1 - get_or L (c - 1) 0 ≡ jump (next_cell L) L)
      step_jump = let j = placed_jump next_cell_lem v.top_is in (j.0, j.1 ∙ ap (λ (d : ℕ). jump d L) next_is)

-- ---- k steps

-- a count by k that began at the levels `first` and ends at the level `last`
pub record Counting (first : List ℕ) (k last : ℕ) (L cells : List ℕ) (top : ℕ) : Type 0 where
  pub ready : Ready L cells top (last - top)
  pub below : top ≤ last
  pub size : length L ≡ length first
  pub left : count_up (last - top) L ≡ count_up k first

pub start : {L cells : List ℕ} {top k : ℕ} → Ready L cells top k → Counting L k (top + k) L cells top
start {L} {cells} {top} {k} r =
    let e : top + k - top ≡ k = omega arith in
    record { ready = rw e r; below = omega arith; size = refl; left = rw e }

module _ {first : List ℕ} {k last : ℕ} {L cells : List ℕ} {top : ℕ} (v : Counting first k last L cells top) where
  -- a step more
  module _ (h : top < last) where
    pub room : Ready L cells top 1
    room = record {
      few = v.ready.few;
      many = v.ready.many;
      untied = v.ready.untied;
      cells_are = v.ready.cells_are;
      top_is = v.ready.top_is;
      room = omega (arith, v.ready.room);
    }

    module _ {L' cells' : List ℕ} (pushed : L' ≡ push_level (next_cell L) L) (cells_are : cells' ≡ row (permutation_of L')) where
      pub step : Counting first k last L' cells' (top + 1)
      unfolding count_up
      step =
          let r : Reading L = reading L v.ready.untied in
          let d : ℕ = next_cell L in
          let b = next_inside L v.ready.few in
          let more : last - top ≡ suc (last - (top + 1)) = omega arith in
          record {
            ready = record {
              few = rw pushed (omega (arith, v.ready.few, r.push_length d));
              many = rw pushed (omega (arith, v.ready.many, r.push_length d));
              untied = rw pushed (r.push_untied d b.0 b.1);
              cells_are = cells_are;
              top_is = rw pushed (ap (λ (t : ℕ). t + 1) v.ready.top_is ∙ sym (r.push_highest d b.0 b.1));
              room = omega (arith, v.ready.room);
            };
            below = omega arith;
            size = ap length pushed ∙ r.push_length d ∙ v.size;
            left = rw pushed (rw more at v.left);
          }

      -- the sum has grown by the step's jump
      pub step_spent : (charge by : ℕ) → level_sum L ≡ level_sum first + charge → by ≡ jump (next_cell L) L → level_sum L' ≡ level_sum first + (charge + by)
      step_spent charge by e j = rw pushed (omega (arith, step_sum L v.ready.few, e, j))

  pub sum_fits_now : level_sum L ≤ 1310700
  sum_fits_now = sum_fits L v.ready.many (omega (arith, v.ready.top_is, v.ready.room))

  -- the last step is done
  module _ (h : last ≤ top) where
    left_now : L ≡ count_up k first
    unfolding count_up
    left_now =
        let e : last - top ≡ 0 = omega arith in
        rw e at v.left

    grown : level_sum L ≡ level_sum first + charge_of (count_up_pushes k first) first
    grown = ap level_sum left_now ∙ counted_sum k first (omega (arith, v.ready.few, v.size))

    pub end : (charge : ℕ) → level_sum L ≡ level_sum first + charge → Counted k first L charge
    end charge e = record { levels = left_now; charge_is = omega (arith, e, grown) }

    -- the charge as a difference
    pub end_sums : {before after : ℕ} → before ≡ level_sum first → after ≡ level_sum L → (before ≤ after) × Counted k first L (after - before)
    end_sums {before} {after} b a = let e = grown in (omega arith, end (after - before) (omega arith))
