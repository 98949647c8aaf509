-- The pass over the names: what holds when some were met, how a name rules a permutation out, and what is found out when all were met.
-- Assumes nothing.
use mathlib.Core.Path.{◌≡◌, refl, ap, sym, ◌∙◌}
use mathlib.Core.Bool.{true, cond}
use mathlib.Core.List.{List, [], ◌∷◌, ◌++◌}
use mathlib.Core.Logic.{◌⊎◌, inl, inr, ⊎_elim}
use Prim.Native.Nat.{ℕ, zero, suc, ◌+◌, ◌%◌, ◌^◌, ◌≤◌, ◌<◌}
use native.Mathlib.Numerals.{add-one}
use native.Mathlib.Omega.{arith}
use borrow.Author.Tests.{lt-ltb, le-ltb}
use lib.Count.{ones}
use lib.ListN.{length, get_or, take, drop, set, replicate, length-set, length-append, get_or-replicate}
use lib.Seq.{take-suc, get_or-set_same, get_or-set_other, length-take-le, split_at, ext_get_or}
use Rattle.theory.specs.Reasons.{done, muddle}
use Rattle.theory.specs.Lists.{delta, count, member}
use Rattle.theory.proofs.Cases.{by_test, by_name}
use Rattle.theory.proofs.Counts.{delta_self, delta_ne, count_append}
use Rattle.theory.proofs.Members.{member_count, count_none}
use Rattle.theory.proofs.Permutations.{inside}
use Rattle.permutation.specs.Records.{once_each}
use Rattle.permutation.specs.Spots.{spot, spot_row, leaving, spotted}
use Rattle.permutation.specs.Spots.{Checked}
use Rattle.permutation.proofs.Records.{once_count, count_once, once_permutation}
use Rattle.permutation.proofs.Spots.{spot_row_at, spot_row_length, under, under_le, under_snoc, under_suc, spot_first}
use Rattle.permutation.proofs.Marks.{Marks, bit_small, marks_start, marks_turn}

-- v is 20 and c was not met, or v is the spot of c, which was met once
abbrev Seen : ℕ → ℕ → List ℕ → Type 0
Seen v c T = ((count c T ≡ 0) × (v ≡ 20)) ⊎ ((count c T ≡ 1) × (v ≡ spot c T) × (v < 20))

-- the names of T were met: they are different ones of 1 to n, have their spots, and are marked in the mask
pub record Met (n : ℕ) (T spots : List ℕ) (seen : ℕ) : Type 0 where
  pub slots : length spots ≡ 21
  pub positive : under 1 T ≡ 0
  pub within : under (suc n) T ≡ length T
  pub each : (c : ℕ) → c ≤ 20 → Seen (get_or spots c 0) c T
  pub mask : Marks seen T

pub met_start : (n : ℕ) → Met n [] (replicate 21 20) 0
unfolding under
met_start n = record {
  slots = refl;
  positive = refl;
  within = refl;
  each = λ c h. inl (refl, get_or-replicate 21 c 20 0 (omega arith));
  mask = marks_start;
}

-- ---- one name more
spot_known : (c x : ℕ) (T : List ℕ) → 1 ≤ count c T → spot c (T ++ x ∷ []) ≡ spot c T
unfolding spot
spot_known c x [] h = absurd (omega arith)
spot_known c x (y ∷ T) h =
    by_name y c
    (λ q e. rw e)
    (λ ne e. rw (e, spot_known c x T (omega (arith, delta_ne y c ne))))

seen_other : (v c x : ℕ) (T : List ℕ) → (c ≡ x → ⊥) → Seen v c T → Seen v c (T ++ x ∷ [])
seen_other v c x T ne s =
    let same : count c (T ++ x ∷ []) ≡ count c T = omega (arith, count_append c T (x ∷ []), delta_ne x c (λ e. ne (sym e))) in
    ⊎_elim
    (λ n. inl (same ∙ n.0, n.1))
    (λ y. inr (same ∙ y.0, y.1 ∙ sym (spot_known c x T (omega arith)), y.2))
    s

seen_first : (v x : ℕ) (T : List ℕ) → count x T ≡ 0 → v ≡ under x T → v < 20 → Seen v x (T ++ x ∷ [])
seen_first v x T none e h =
    inr (omega (arith, count_append x T (x ∷ []), delta_self x), e ∙ sym (spot_first x T [] none), h)

module _ {n : ℕ} {T spots : List ℕ} {seen : ℕ} (m : Met n T spots seen) (few : n ≤ 20) (x : ℕ) (pos : 1 ≤ x) (high : x ≤ n) where
  new_name : get_or spots x 0 ≡ 20 → count x T ≡ 0
  new_name e = ⊎_elim (λ s. s.0) (λ s. absurd (omega arith)) (m.each x (omega arith))

  old_name : (get_or spots x 0 ≡ 20 → ⊥) → count x T ≡ 1
  old_name ne = ⊎_elim (λ s. absurd (ne s.1)) (λ s. s.0) (m.each x (omega arith))

  met_more :
      (v : ℕ) → length T < n → get_or spots x 0 ≡ 20 → v ≡ ones (seen % 2 ^ x) → Met n (T ++ x ∷ []) (set spots x v) (seen + 2 ^ x)
  met_more v room e is =
      let none : count x T ≡ 0 = new_name e in
      let v_under : v ≡ under x T = is ∙ m.mask.bits x in
      let small : v < 20 = omega (arith, under_le x T) in
      let in_spots : x < length spots = omega arith in
      record {
        slots = length-set spots x v ∙ m.slots;
        positive = rw (under_snoc 1 x T, le-ltb x 1 pos) (omega arith);
        within = rw (under_snoc (suc n) x T, lt-ltb x (suc n) (omega arith)) (omega (arith, length-append T (x ∷ [])));
        each = λ c l. by_name c x
            (λ q f. rw (q, get_or-set_same spots x v 0 in_spots) (seen_first v x T none v_under small))
            (λ ne f. rw (get_or-set_other spots x c v 0 ne) (seen_other (get_or spots c 0) c x T ne (m.each c l)));
        mask = marks_turn x m.mask (omega arith) none;
      }

-- ---- a turn of the pass: it is at index i of the names, where x stands
pub record Turn (i x : ℕ) (names : List ℕ) : Type 0 where
  pub few : length names ≤ 20
  pub more : i < length names
  pub is : x ≡ get_or names i 0

module _ {i x : ℕ} {names : List ℕ} (t : Turn i x names) where
  -- the names met, then x, and then others
  parts : names ≡ take i names ++ x ∷ drop (suc i) names
  parts = let is = t.is in cc (split_at names i 0 t.more)

  has_name : (c : ℕ) → count c names ≡ count c (take i names) + (delta x c + count c (drop (suc i) names))
  has_name c = ap (count c) parts ∙ count_append c (take i names) (x ∷ drop (suc i) names)

  -- x rules a permutation out
  ruled_out : (once_each (length names) names ≡ true → ⊥) → leaving muddle [] ≡ spotted (length names) names
  unfolding spotted
  ruled_out h = by_test (once_each (length names) names) (λ e. absurd (h e)) (λ e. rw e)

  pub met_outside : ((1 ≤ x) × (x ≤ length names) → ⊥) → leaving muddle [] ≡ spotted (length names) names
  met_outside h =
      ruled_out (λ e.
      let o = once_permutation (length names) names refl e in
      h (inside (length names) names o x (omega (arith, has_name x, delta_self x))))

  module _ {spots : List ℕ} {seen : ℕ} (m : Met (length names) (take i names) spots seen) (pos : 1 ≤ x) (high : x ≤ length names) where
    pub met_twice : (get_or spots x 0 ≡ 20 → ⊥) → leaving muddle [] ≡ spotted (length names) names
    met_twice ne =
        ruled_out (λ e.
        omega (arith, once_count (length names) names e x pos high, has_name x, delta_self x, old_name m t.few x pos high ne))

    met_long : length (take i names) ≡ i
    met_long = length-take-le i names (omega arith)

    pub met_fits : seen + 2 ^ x < 2 ^ 32
    met_fits = omega (arith, bit_small x (omega arith), met_long)

    pub met_turn :
        (v : ℕ) → get_or spots x 0 ≡ 20 → v ≡ ones (seen % 2 ^ x) → Met (length names) (take (i + 1) names) (set spots x v) (seen + 2 ^ x)
    met_turn v e is =
        let next : take (i + 1) names ≡ take i names ++ x ∷ [] = rw (add-one, t.is) (take-suc names i 0 t.more) in
        rw next (met_more m t.few x pos high v (omega (arith, met_long)) e is)

-- ---- all were met
few_under : (m : ℕ) (T : List ℕ) → under 1 T ≡ 0 → ((c : ℕ) → c ≤ m → count c T ≤ 1) → under (suc m) T ≤ m
few_under zero T none one = omega arith
few_under (suc m) T none one =
    omega (arith, under_suc (suc m) T, few_under m T none (λ c h. one c (omega arith)), one (suc m) (omega arith))

-- as many different names of 1 to m as there are
all_once :
    (m : ℕ) (T : List ℕ) → under 1 T ≡ 0 → ((c : ℕ) → c ≤ m → count c T ≤ 1) → under (suc m) T ≡ m
    → (c : ℕ) → 1 ≤ c → c ≤ m → count c T ≡ 1
all_once zero T none one all c low high = absurd (omega arith)
all_once (suc m) T none one all c low high =
    let less : (d : ℕ) → d ≤ m → count d T ≤ 1 = λ d h. one d (omega arith) in
    let first : count (suc m) T ≡ 1 = omega (arith, under_suc (suc m) T, few_under m T none less, one (suc m) (omega arith)) in
    by_name c (suc m)
    (λ q e. ap (λ (k : ℕ). count k T) q ∙ first)
    (λ ne e. all_once m T none less (omega (arith, under_suc (suc m) T)) c low (omega (arith, ne)))

-- what was noted of c is its entry in the row of spots
seen_entry : (v c : ℕ) (T : List ℕ) → Seen v c T → v ≡ cond (member c T) (spot c T) 20
seen_entry v c T s =
    by_test (member c T)
    (λ e. rw e (⊎_elim (λ n. absurd (omega (arith, member_count c T e))) (λ y. y.1) s))
    (λ e. rw e (⊎_elim (λ n. n.1) (λ y. absurd (omega (arith, count_none c T e))) s))

pub met_all : {n : ℕ} {T spots : List ℕ} {seen : ℕ} → Met n T spots seen → n ≤ 20 → length T ≡ n
    → ◌≡◌ {A = Checked} (record { number = done; spots = spots }) (spotted n T)
unfolding spotted
met_all {n} {T} {spots} m few all =
    let one : (c : ℕ) → c ≤ n → count c T ≤ 1 =
    λ c h. ⊎_elim (λ s. omega arith) (λ s. omega arith) (m.each c (omega arith)) in
    let row : spots ≡ spot_row T =
    ext_get_or 0 spots (spot_row T) (m.slots ∙ sym (spot_row_length T)) (λ c h.
    let name : c ≤ 20 = omega arith in
    seen_entry (get_or spots c 0) c T (m.each c name) ∙ sym (spot_row_at T c name)) in
    rw (count_once n T (all_once n T m.positive one (m.within ∙ all)), row)
