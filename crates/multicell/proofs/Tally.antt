-- One pass over cells: how often each level was met, how a level rules an arrangement out, and what holds when all cells were met. Assumes nothing.
use mathlib.Core.Path.{◌≡◌, refl, ap, sym, ◌∙◌}
use mathlib.Core.Bool.{true, false}
use mathlib.Core.List.{List, [], ◌∷◌, ◌++◌}
use Prim.Native.Nat.{ℕ, suc, ◌+◌, ◌*◌, ◌≤◌, ◌<◌}
use native.Mathlib.Numerals.{add-one}
use native.Mathlib.Omega.{arith}
use lib.ListN.{length, get_or, take, drop, set, replicate, length-set, get_or-replicate}
use lib.Seq.{take-suc, take_all, get_or-set_same, get_or-set_other, split_at}
use Rattle.theory.specs.Lists.{delta, count}
use Rattle.theory.proofs.Cases.{by_test, by_name}
use Rattle.theory.proofs.Counts.{delta_self, delta_ne, count_append}
use Rattle.multicell.specs.Arrangement.{used_each}
use Rattle.multicell.proofs.Arranging.{used_count, arrangement, none_more}

-- the first i cells were met: each has a level from 1 to q, `met` says how many have which, and no level has more than z
pub record Tally (q z : ℕ) (cells met : List ℕ) (i : ℕ) : Type 0 where
  pub slots : length met ≡ 17
  pub within : i ≤ length cells
  pub levels : (j : ℕ) → j < i → (1 ≤ get_or cells j 0) × (get_or cells j 0 ≤ q)
  pub each : (v : ℕ) → v ≤ 16 → get_or met v 0 ≡ count v (take i cells)
  pub few : (v : ℕ) → v ≤ 16 → get_or met v 0 ≤ z

pub tally_none : (q z : ℕ) (cells : List ℕ) → Tally q z cells (replicate 17 0) 0
tally_none q z cells = record {
  slots = refl;
  within = omega arith;
  levels = λ j l. absurd (omega arith);
  each = λ v h. get_or-replicate 17 v 0 0 (omega arith);
  few = λ v h. omega (arith, get_or-replicate {A = ℕ} 17 v 0 0 (omega arith));
}

module _ (q z : ℕ) (cells : List ℕ) (long : length cells ≡ q * z) where
  -- what rules an arrangement out
  ruled_out : (used_each q z cells ≡ true → ⊥) → false ≡ used_each q z cells
  ruled_out h = by_test (used_each q z cells) (λ e. absurd (h e)) sym

  module _ {i : ℕ} (l : i < length cells) where
    pub tally_outside : ((1 ≤ get_or cells i 0) × (get_or cells i 0 ≤ q) → ⊥) → false ≡ used_each q z cells
    tally_outside out = ruled_out (λ e. out ((arrangement q z cells long e).level i l))

    module _ {met : List ℕ} (t : Tally q z cells met i) (high : q ≤ 16) {x : ℕ} (is : x ≡ get_or cells i 0) (b : (1 ≤ x) × (x ≤ q)) where
      pub tally_often : get_or met x 0 ≡ z → false ≡ used_each q z cells
      tally_often full =
          ruled_out (λ e.
          let rest : List ℕ = drop (suc i) cells in
          let parts : cells ≡ take i cells ++ x ∷ rest = rw is (split_at cells i 0 l) in
          let all : count x cells ≡ count x (take i cells) + count x (x ∷ rest) = ap (count x) parts ∙ count_append x (take i cells) (x ∷ rest) in
          omega (arith, all, delta_self x, t.each x (omega (arith, b.1)), used_count q z cells e x b.0 b.1))

      pub tally_more : (get_or met x 0 ≡ z → ⊥) → Tally q z cells (set met x (get_or met x 0 + 1)) (i + 1)
      tally_more room =
          let in_slots : x < length met = omega (arith, t.slots, b.1) in
          let next : take (i + 1) cells ≡ take i cells ++ x ∷ [] = rw (add-one i, is) (take-suc cells i 0 l) in
          let counted : (v : ℕ) → count v (take (i + 1) cells) ≡ count v (take i cells) + delta x v =
          λ v. ap (count v) next ∙ count_append v (take i cells) (x ∷ []) ∙ omega arith in
          record {
            slots = length-set met x (get_or met x 0 + 1) ∙ t.slots;
            within = omega arith;
            levels = λ j k. by_name j i (λ e _. rw (e, ← is) b) (λ ne _. t.levels j (omega arith));
            each = λ v h. by_name v x
                (λ e _. rw (e, get_or-set_same met x (get_or met x 0 + 1) 0 in_slots) (omega (arith, counted x, delta_self x, t.each x (omega (arith, b.1)))))
                (λ ne _. rw (get_or-set_other met x v (get_or met x 0 + 1) 0 ne) (omega (arith, counted v, delta_ne x v (λ e. ne (sym e)), t.each v h)));
            few = λ v h. by_name v x
                (λ e _. rw (e, get_or-set_same met x (get_or met x 0 + 1) 0 in_slots) (omega (arith, t.few x (omega (arith, b.1)), room)))
                (λ ne _. rw (get_or-set_other met x v (get_or met x 0 + 1) 0 ne) (t.few v h));
          }

  pub tally_all : {met : List ℕ} {i : ℕ} → Tally q z cells met i → q ≤ 16 → length cells ≤ i → true ≡ used_each q z cells
  tally_all {met} {i} t high all =
      let whole : take i cells ≡ cells = take_all i cells all in
      sym (none_more q z cells long (λ j l. t.levels j (omega arith)) (λ v low h.
      omega (arith, rw whole at (t.each v (omega arith)), t.few v (omega arith))))
