-- Going up the permutation and crossing off the target's cells from its last one on: those left are the ones to push. Assumes nothing.
use mathlib.Core.Path.{◌≡◌, sym, ◌∙◌}
use mathlib.Core.List.{List, ◌∷◌}
use Prim.Native.Nat.{ℕ, suc, ◌-◌, ◌≤◌, ◌<◌}
use native.Mathlib.Omega.{arith}
use lib.ListN.{length, get_or, take}
use lib.Seq.{length-take-le, get_or-take, slice, slice_empty, slice-cons}
use Rattle.theory.specs.Rewrite.{rewrite_count}
use Rattle.theory.proofs.Rewriting.{rewrite_none, rewrite_crossed, rewrite_passed}

-- the cells from index i on leave r of the target's n
pub record Crossing (cells target : List ℕ) (n r i : ℕ) : Type 0 where
  pub enough : n ≤ length cells
  pub below : i ≤ r
  pub within : r ≤ n
  pub is : r ≡ rewrite_count (slice i n cells) (take n target)

pub start : {cells target : List ℕ} {n : ℕ} → n ≤ length cells → n ≤ length target → Crossing cells target n n n
start {cells} {target} {n} h k = record {
  enough = h;
  below = omega arith;
  within = omega arith;
  is = rw (slice_empty n cells, rewrite_none (take n target)) (sym (length-take-le n target k));
}

module _ {cells target : List ℕ} {n r i : ℕ} (v : Crossing cells target n r i) where
  pub end : i ≤ 0 → r ≡ rewrite_count (take n cells) (take n target)
  end h =
      let e : i ≡ 0 = omega arith in
      rw e at v.is

  module _ (pos : 0 < i) where
    next : slice (i - 1) n cells ≡ get_or cells (i - 1) 0 ∷ slice i n cells
    next =
        let q : suc (i - 1) ≡ i = omega arith in
        rw q at (slice-cons (i - 1) n cells 0 (omega (arith, v.below, v.within)) v.enough)

    left : get_or (take n target) (r - 1) 0 ≡ get_or target (r - 1) 0
    left = get_or-take n target (r - 1) 0 (omega (arith, v.below, v.within))

    pub step_crossed : get_or cells (i - 1) 0 ≡ get_or target (r - 1) 0 → Crossing cells target n (r - 1) (i - 1)
    step_crossed e = record {
      enough = v.enough;
      below = omega (arith, v.below);
      within = omega (arith, v.within);
      is = rw next (sym (rewrite_crossed _ (slice i n cells) (take n target) r v.is (omega (arith, v.below)) (e ∙ sym left)));
    }

    pub step_passed : (get_or cells (i - 1) 0 ≡ get_or target (r - 1) 0 → ⊥) → Crossing cells target n r (i - 1)
    step_passed ne = record {
      enough = v.enough;
      below = omega (arith, v.below);
      within = v.within;
      is = rw next (sym (rewrite_passed _ (slice i n cells) (take n target) r v.is (omega (arith, v.below)) (λ e. ne (e ∙ left))));
    }
