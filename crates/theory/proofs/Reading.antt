-- Pushes on levels: the permutation read from them is pushed, the highest level rises by one, and no tie comes up. Assumes nothing.
use mathlib.Core.Path.{◌≡◌, refl, sym, ap, ◌∙◌, subst}
use mathlib.Core.Bool.{false}
use mathlib.Core.List.{List, [], ◌∷◌, ◌++◌}
use Prim.Native.Nat.{ℕ, zero, suc, ◌+◌, ◌-◌, ◌≤◌}
use native.Mathlib.Omega.{arith}
use lib.ListN.{length, get_or, length-set}
use lib.Seq.{get_or-set_same, get_or-set_other}
use Rattle.theory.specs.Lists.{count, Cells}
use Rattle.theory.specs.Permutation.{IsPermutation, cell_at, top}
use Rattle.theory.specs.Push.{push, push_cell, push_cells}
use Rattle.theory.specs.Levels.{level, highest, lowest, tied, permutation_of, Falls, ReadsAs, push_level, push_levels, jump}
use Rattle.theory.specs.Claims.{Reading}
use Rattle.theory.proofs.Cases.{by_name}
use Rattle.theory.proofs.Counts.{delta_self, delta_ne, count_append, Split, split, adds_top, adds_between}
use Rattle.theory.proofs.Permutations.{moved, inside, absent_zero}
use Rattle.theory.proofs.Members.{member_first, member_later, entry_inside}
use Rattle.theory.proofs.Splits.{at, push_is, place_is}
use Rattle.theory.proofs.Extremes.{highest≤, ≤lowest, level_suc, level≤highest, lowest≤level}
use Rattle.theory.proofs.Sorting.{reads_permutation_of, reads_untied, reads_is}

-- levels lv' that are lv but for cell c
abbrev pub Kept : (ℕ → ℕ) → (ℕ → ℕ) → ℕ → Type 0
Kept lv lv' c = (d : ℕ) → 1 ≤ d → (d ≡ c → ⊥) → lv' d ≡ lv d

-- ---- a push on levels

pub pushed_length : (c : ℕ) (L : List ℕ) → length (push_level c L) ≡ length L
unfolding push_level
pushed_length c L = length-set L (c - 1) _

pub pushed_kept : (L : List ℕ) (c : ℕ) → 1 ≤ c → Kept (level L) (level (push_level c L)) c
unfolding push_level
pushed_kept L c low d h ne = get_or-set_other L (c - 1) (d - 1) _ 0 (λ e. ne (omega arith))

module _ (L : List ℕ) (c : ℕ) (low : 1 ≤ c) (high : c ≤ length L) where
  pub pushed_level : level (push_level c L) c ≡ suc (highest L)
  unfolding push_level
  pushed_level = get_or-set_same L (c - 1) _ 0 (omega arith) ∙ omega arith

  pub pushed_highest : highest (push_level c L) ≡ suc (highest L)
  pushed_highest =
      let up : highest (push_level c L) ≤ suc (highest L) =
      highest≤ (push_level c L) (suc (highest L))
      (λ i h. by_name (suc i) c
      (λ q e. omega (arith, level_suc (push_level c L) i, ap (level (push_level c L)) q, pushed_level))
      (λ ne e. omega (arith, level_suc (push_level c L) i, pushed_kept L c low (suc i) (omega arith) ne, level≤highest L (suc i)))) in
      omega (arith, level≤highest (push_level c L) c, pushed_level)

  pub pushed_jump : level L c + jump c L ≡ suc (highest L)
  unfolding jump
  pushed_jump = omega (arith, pushed_level, level≤highest L c)

-- ---- the permutation read from the levels

falls_out : (L u : List ℕ) (c : ℕ) (v : List ℕ) → Falls L (u ++ c ∷ v) → Falls L (u ++ v)
falls_out L [] c v f = f.1
falls_out L (a ∷ u) c v f =
    (λ d h. f.0 d (omega (arith, count_append d u v, count_append d u (c ∷ v))), falls_out L u c v f.1)

-- a list in which neither c nor 0 stands
module _ (L M : List ℕ) {c : ℕ} (kept : Kept (level L) (level M) c) where
  member_kept : (l : List ℕ) → count c l ≡ 0 → count 0 l ≡ 0 → (d : ℕ) → 1 ≤ count d l → level M d ≡ level L d
  member_kept l h z zero k = absurd (omega arith)
  member_kept l h z (suc d) k = kept (suc d) (omega arith) (λ e. omega (arith, ap (λ (t : ℕ). count t l) e))

  falls_kept : (l : List ℕ) → count c l ≡ 0 → count 0 l ≡ 0 → Falls L l → Falls M l
  falls_kept [] h z f = tt
  falls_kept (a ∷ l) h z f = (
    λ d k. omega (
      arith,
      f.0 d k,
      member_kept (a ∷ l) h z d (omega arith),
      member_kept (a ∷ l) h z a (omega (arith, delta_self a)),
    ),
    falls_kept l (omega arith) (omega arith) f.1,
  )

reads_lifted : {L xs : List ℕ} (u : List ℕ) (c : ℕ) (v : List ℕ) → xs ≡ u ++ c ∷ v → ReadsAs L xs → ReadsAs (push_level c L) (c ∷ (u ++ v))
reads_lifted {L} {xs} u c v e r =
    let n : ℕ = length L in
    let o : IsPermutation n (c ∷ (u ++ v)) = moved (adds_between u v e) (adds_top c (u ++ v)) r.permutation in
    let b : (1 ≤ c) × (c ≤ n) = inside n (c ∷ (u ++ v)) o c (omega (arith, delta_self c)) in
    let kept : Kept (level L) (level (push_level c L)) c = pushed_kept L c b.0 in
    let none : count c (u ++ v) ≡ 0 = omega (arith, o.once c b.0 b.1, delta_self c) in
    let zero_none : count 0 (u ++ v) ≡ 0 = omega (arith, absent_zero o) in
    record {
      permutation = subst (λ (k : ℕ). IsPermutation k (c ∷ (u ++ v))) (sym (pushed_length c L)) o;
      falls = (
        λ d h. omega (
          arith,
          level≤highest L d,
          pushed_level L c b.0 b.1,
          member_kept L (push_level c L) kept (u ++ v) none zero_none d h,
        ),
        falls_kept L (push_level c L) kept (u ++ v) none zero_none (falls_out L u c v (subst (Falls L) e r.falls)),
      );
    }

-- the push at a place
pub reads_push : {L xs : List ℕ} (i : ℕ) → 1 ≤ i → i ≤ length L → ReadsAs L xs → ReadsAs (push_level (cell_at i xs) L) (push i xs)
reads_push {L} {xs} i low high r =
    let s = at i xs low (omega (arith, r.permutation.long)) in
    subst (λ (ys : List ℕ). ReadsAs (push_level (cell_at i xs) L) ys) (sym (push_is s.cell s.above s.below s.parts s.place))
    (subst (λ (c : ℕ). ReadsAs (push_level c L) (s.cell ∷ (s.above ++ s.below))) s.is
    (reads_lifted s.above s.cell s.below s.parts r))

-- the push of a cell
pub reads_cell : {L xs : List ℕ} (c : ℕ) → 1 ≤ c → c ≤ length L → ReadsAs L xs → ReadsAs (push_level c L) (push_cell c xs)
unfolding push_cell
reads_cell {L} {xs} c low high r =
    let s : Split c xs = split c xs (omega (arith, r.permutation.once c low high)) in
    subst (ReadsAs (push_level c L)) (sym (push_is c s.above s.below s.parts (place_is c s.above s.below s.parts s.first)))
    (reads_lifted s.above c s.below s.parts r)

-- a row of pushes of cells
pub row_length : (cs L : List ℕ) → length (push_levels cs L) ≡ length L
row_length [] L = refl
row_length (c ∷ cs) L = row_length cs (push_level c L) ∙ pushed_length c L

pub cells_later : (c : ℕ) (cs L : List ℕ) → Cells (length L) (c ∷ cs) → Cells (length (push_level c L)) cs
cells_later c cs L h d m = let k = h d (member_later d c cs m) in (k.0, omega (arith, k.1, pushed_length c L))

pub row_highest : (cs L : List ℕ) → Cells (length L) cs → highest (push_levels cs L) ≡ highest L + length cs
row_highest [] L h = omega arith
row_highest (c ∷ cs) L h =
    let b = h c (member_first c cs) in
    omega (arith, row_highest cs (push_level c L) (cells_later c cs L h), pushed_highest L c b.0 b.1)

pub reads_row : (cs : List ℕ) {L xs : List ℕ} → Cells (length L) cs → ReadsAs L xs → ReadsAs (push_levels cs L) (push_cells cs xs)
reads_row [] h r = r
reads_row (c ∷ cs) {L} {xs} h r =
    let b = h c (member_first c cs) in
    reads_row cs {L = push_level c L} {xs = push_cell c xs} (cells_later c cs L h) (reads_cell c b.0 b.1 r)

-- the top cell has the highest level
pub reads_highest : {L : List ℕ} (xs : List ℕ) → 1 ≤ length L → ReadsAs L xs → level L (top xs) ≡ highest L
reads_highest [] h r = absurd (omega (arith, r.permutation.long))
reads_highest {L} (x ∷ xs) h r =
    let up : highest L ≤ level L x =
    highest≤ L (level L x)
    (λ i l. by_name x (suc i)
    (λ q e. omega (arith, level_suc L i, ap (level L) q))
    (λ ne e. omega (
      arith,
      level_suc L i,
      r.falls.0 (suc i) (omega (arith, r.permutation.once (suc i) (omega arith) (omega arith), delta_ne x (suc i) ne)),
    ))) in
    omega (arith, level≤highest L x)

-- the bottom cell has the lowest level
falls_bottom : (L : List ℕ) (x : ℕ) (xs : List ℕ) → Falls L (x ∷ xs) → (c : ℕ) → 1 ≤ count c (x ∷ xs) → level L (get_or (x ∷ xs) (length xs) 0) ≤ level L c
falls_bottom L x [] f c h = by_name x c (λ q e. omega (arith, ap (level L) q)) (λ ne e. absurd (omega (arith, delta_ne x c ne)))
falls_bottom L x (y ∷ xs) f c h =
    by_name x c
    (λ q e.
    omega (arith, falls_bottom L y xs f.1 y (omega (arith, delta_self y)), f.0 y (omega (arith, delta_self y)), ap (level L) q))
    (λ ne e. falls_bottom L y xs f.1 c (omega (arith, delta_ne x c ne)))

reads_lowest : {L : List ℕ} (xs : List ℕ) → 1 ≤ length L → ReadsAs L xs → level L (cell_at (length L) xs) ≡ lowest L
reads_lowest [] h r = absurd (omega (arith, r.permutation.long))
reads_lowest {L} (x ∷ xs) h r =
    let o = r.permutation in
    let last : length L - 1 ≡ length xs = omega (arith, o.long) in
    let c : ℕ = get_or (x ∷ xs) (length xs) 0 in
    let b = entry_inside o (length xs) (omega arith) in
    let low : level L c ≤ lowest L =
    ≤lowest L (level L c) h
    (λ i l. omega (arith, level_suc L i, falls_bottom L x xs r.falls (suc i) (omega (arith, o.once (suc i) (omega arith) (omega arith))))) in
    ap (λ (i : ℕ). level L (get_or (x ∷ xs) i 0)) last ∙ omega (arith, lowest≤level L c b.0 b.1)

pub reading : (L : List ℕ) → tied L ≡ false → Reading L
reading L h =
    let r : ReadsAs L (permutation_of L) = reads_permutation_of L h in
    record {
      reads = r;
      only = λ xs. reads_is;
      top_highest = λ h. reads_highest (permutation_of L) h r;
      bottom_lowest = λ h. reads_lowest (permutation_of L) h r;
      push_level_lem = λ c low high. pushed_level L c low high ∙ omega arith;
      push_others = λ c d low. pushed_kept L c low d;
      push_length = λ c. pushed_length c L;
      push_jump = λ c low high. pushed_jump L c low high ∙ sym (pushed_level L c low high);
      push_read = λ i low high. reads_is (reads_push i low high r);
      push_highest = λ c low high. pushed_highest L c low high ∙ omega arith;
      push_untied = λ c low high. reads_untied (reads_cell c low high r);
      row_read = λ cs k. reads_is (reads_row cs k r);
      row_highest = λ cs. row_highest cs L;
    }
