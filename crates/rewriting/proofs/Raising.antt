-- The first cells of a row pushed, the last of them first: what is left to push, on the present levels, gives what the whole gives on the first; what the cells
-- get, in closed form, less what they had is the charge. Assumes nothing.
use mathlib.Core.Path.{◌≡◌, refl, ap, ◌∙◌}
use mathlib.Core.List.{List, [], ◌∷◌, reverse}
use Prim.Native.Nat.{ℕ, zero, suc, ◌+◌, ◌-◌, ◌*◌, ◌/◌, ◌≤◌, ◌<◌}
use native.Mathlib.Omega.{arith}
use lib.ListN.{length, get_or, take, set}
use lib.Seq.{take-suc}
use Rattle.theory.specs.Reasons.{max_level}
use Rattle.theory.specs.Levels.{highest, push_level, push_levels}
use Rattle.theory.specs.Spent.{charge_of}
use Rattle.theory.proofs.Moves.{reverse_split}
use Rattle.theory.proofs.Reading.{pushed_length, pushed_highest, pushed_jump}
use Rattle.rewriting.specs.Raising.{Raisable, sum_above}

-- the first i cells, the last of them first
pub reverse_take : (cells : List ℕ) (i : ℕ) → 0 < i → i ≤ length cells → reverse (take i cells) ≡ get_or cells (i - 1) 0 ∷ reverse (take (i - 1) cells)
reverse_take cells i pos h =
    let more : i ≡ suc (i - 1) = omega arith in
    ap (λ (k : ℕ). reverse (take k cells)) more
    ∙ ap reverse (take-suc cells (i - 1) 0 (omega arith))
    ∙ reverse_split (take (i - 1) cells) (get_or cells (i - 1) 0) []

-- the levels above top, by their number
above_two : (top r : ℕ) → 2 * sum_above top r ≡ 2 * (r * top) + r * (r + 1)
unfolding sum_above
above_two top zero = omega arith
above_two top (suc r) = omega (arith, above_two top r)

pub above_is : (top r : ℕ) → r * top + r * (r + 1) / 2 ≡ sum_above top r
above_is top r = omega (arith, above_two top r)

pub above_bound : (top r : ℕ) → top + r ≤ max_level → sum_above top r ≤ r * max_level
unfolding sum_above
above_bound top zero h = omega arith
above_bound top (suc r) h = omega (arith, above_bound top r (omega arith))

-- r cells to push on the levels `first`, and i of them left; those pushed had levels of this sum
pub record Raising (first cells : List ℕ) (r top : ℕ) (L : List ℕ) (had i : ℕ) : Type 0 where
  pub ready : Raisable first cells r top
  pub within : i ≤ r
  pub size : length L ≡ length first
  pub top_is : top + r - i ≡ highest L
  pub left : push_levels (reverse (take i cells)) L ≡ push_levels (reverse (take r cells)) first
  pub spent : charge_of (reverse (take r cells)) first + had ≡ charge_of (reverse (take i cells)) L + sum_above top (r - i)
  pub bound : had ≤ sum_above top (r - i)

pub start : {L cells : List ℕ} {r top : ℕ} → Raisable L cells r top → Raising L cells r top L 0 r
unfolding sum_above
start {L} {cells} {r} {top} p =
    let none : r - r ≡ 0 = omega arith in
    record {
      ready = p;
      within = omega arith;
      size = refl;
      top_is = omega (arith, p.top_is);
      left = refl;
      spent = rw none;
      bound = omega arith;
    }

module _ {first cells : List ℕ} {r top : ℕ} {L : List ℕ} {had i : ℕ} (v : Raising first cells r top L had i) where
  pub had_fits : had ≤ 1310700
  had_fits =
      let room = v.ready.room in
      omega (arith, v.bound, above_bound top (r - i) (omega (arith, v.within)), v.ready.pushable.few)

  pub end : i ≤ 0
      → (had ≤ sum_above top r)
      × (sum_above top r - had ≡ charge_of (reverse (take r cells)) first) × (L ≡ push_levels (reverse (take r cells)) first)
  end h =
      let e : i ≡ 0 = omega arith in
      let all : r - i ≡ r = omega arith in
      let b : had ≤ sum_above top r = rw all at v.bound in
      (b, omega (arith, b, rw (all, e) at v.spent), rw e at v.left)

  module _ (pos : 0 < i) {c : ℕ} (is : c ≡ get_or cells (i - 1) 0) where
    pub cell_bounds : (1 ≤ c) × (c ≤ length L)
    cell_bounds = rw (v.size, is) (v.ready.pushable.named (i - 1) (omega (arith, v.within)))

    pub step : Raising first cells r top (set L (c - 1) (top + r - (i - 1))) (had + get_or L (c - 1) 0) (i - 1)
    unfolding push_level sum_above
    step =
        let b = cell_bounds in
        let level : top + r - (i - 1) ≡ highest L + 1 = omega (arith, v.top_is, v.within) in
        let pushed : push_level c L ≡ set L (c - 1) (top + r - (i - 1)) = rw level in
        let more : r - (i - 1) ≡ suc (r - i) = omega (arith, v.within) in
        let jump_is = pushed_jump L c b.0 b.1 in
        let next : reverse (take i cells) ≡ c ∷ reverse (take (i - 1) cells) =
        rw is (reverse_take cells i pos (omega (arith, v.within, v.ready.pushable.few, v.ready.pushable.long))) in
        rw (← pushed) (record {
          ready = v.ready;
          within = omega (arith, v.within);
          size = pushed_length c L ∙ v.size;
          top_is = level ∙ omega (arith, pushed_highest L c b.0 b.1);
          left = rw next at v.left;
          spent = rw more (omega (arith, rw next at v.spent, jump_is, v.top_is, v.within));
          bound = rw more (omega (arith, v.bound, jump_is, v.top_is, v.within));
        })
