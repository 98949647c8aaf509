-- Levels along a permutation that fall by one from place to place, but for one gap at most, and that steps keep them so. Assumes nothing.
use mathlib.Core.Path.{◌≡◌, refl, sym, ap, ◌∙◌, subst}
use mathlib.Core.List.{List, [], ◌∷◌, ◌++◌, append_assoc}
use Prim.Native.Nat.{ℕ, zero, suc, ◌+◌, ◌≤◌}
use native.Mathlib.Omega.{arith}
use lib.ListN.{length}
use Rattle.theory.specs.Lists.{delta, count}
use Rattle.theory.specs.Permutation.{IsPermutation, top, place_of}
use Rattle.theory.specs.Successor.{step}
use Rattle.theory.proofs.Cases.{by_name}
use Rattle.theory.proofs.Counts.{delta_eq, delta_self, delta_ne}
use Rattle.theory.proofs.Permutations.{inside, absent_zero}
use Rattle.theory.proofs.Splits.{place_is}
use Rattle.theory.proofs.Moves.{Move, shift, lift, turn, moves}
use Rattle.theory.proofs.Stepping.{step_permutation}
use Rattle.theory.proofs.Reading.{Kept}

-- ---- one gap at most

-- from index i on, the level and the index add up to s
abbrev pub Line : (ℕ → ℕ) → ℕ → ℕ → List ℕ → Type 0
Line lv s i [] = Unit {0}
Line lv s i (a ∷ l) = (lv a + i ≡ s) × Line lv s (suc i) l

-- the same for h cells, and behind these one less
abbrev pub Gap : (ℕ → ℕ) → ℕ → ℕ → ℕ → List ℕ → Type 0
Gap lv zero s i l = Line lv s (suc i) l
Gap lv (suc h) s i [] = Unit {0}
Gap lv (suc h) s i (a ∷ l) = (lv a + i ≡ s) × Gap lv h s (suc i) l

module _ (lv : ℕ → ℕ) (s : ℕ) where
  line_front : (i : ℕ) (l r : List ℕ) → Line lv s i (l ++ r) → Line lv s i l
  line_front i [] r g = tt
  line_front i (a ∷ l) r g = (g.0, line_front (suc i) l r g.1)

  gap_front : (h i : ℕ) (l r : List ℕ) → Gap lv h s i (l ++ r) → Gap lv h s i l
  gap_front zero i l r g = line_front (suc i) l r g
  gap_front (suc h) i [] r g = tt
  gap_front (suc h) i (a ∷ l) r g = (g.0, gap_front h (suc i) l r g.1)

  -- no gap within the list
  gap_line : (h i : ℕ) (l : List ℕ) → length l ≤ h → Gap lv h s i l → Line lv s i l
  gap_line zero i [] e g = tt
  gap_line zero i (a ∷ l) e g = absurd (omega arith)
  gap_line (suc h) i [] e g = tt
  gap_line (suc h) i (a ∷ l) e g = (g.0, gap_line h (suc i) l (omega arith) g.1)

  pub line_gap : (h i : ℕ) (l : List ℕ) → length l ≤ h → Line lv s i l → Gap lv h s i l
  line_gap zero i [] e g = tt
  line_gap zero i (a ∷ l) e g = absurd (omega arith)
  line_gap (suc h) i [] e g = tt
  line_gap (suc h) i (a ∷ l) e g = (g.0, line_gap h (suc i) l (omega arith) g.1)

  -- a cell taken out leaves the gap
  line_out : (i : ℕ) (u : List ℕ) (x : ℕ) (v : List ℕ) → Line lv s i (u ++ x ∷ v) → Gap lv (length u) s i (u ++ v)
  line_out i [] x v g = g.1
  line_out i (a ∷ u) x v g = (g.0, line_out (suc i) u x v g.1)

  line_bound : (i : ℕ) (l : List ℕ) (c : ℕ) → 1 ≤ count c l → Line lv s i l → suc s ≤ lv c + i + length l
  line_bound i [] c h g = absurd (omega arith)
  line_bound i (a ∷ l) c h g =
      by_name a c
      (λ q e. omega (arith, g.0, ap lv q))
      (λ ne e. omega (arith, line_bound (suc i) l c (omega (arith, delta_ne a c ne)) g.1))

  -- no level of the list is lower than the gap lets it be
  pub gap_bound : (h i : ℕ) (l : List ℕ) (c : ℕ) → 1 ≤ count c l → Gap lv h s i l → s ≤ lv c + i + length l
  gap_bound zero i l c h g = omega (arith, line_bound (suc i) l c h g)
  gap_bound (suc k) i [] c h g = absurd (omega arith)
  gap_bound (suc k) i (a ∷ l) c h g =
      by_name a c
      (λ q e. omega (arith, g.0, ap lv q))
      (λ ne e. omega (arith, gap_bound k (suc i) l c (omega (arith, delta_ne a c ne)) g.1))

module _ {lv lv' : ℕ → ℕ} {c : ℕ} (kept : Kept lv lv' c) where
  kept_level : (a : ℕ) → delta a c ≡ 0 → delta a 0 ≡ 0 → lv' a ≡ lv a
  kept_level zero h z = absurd (omega (arith, delta_self 0))
  kept_level (suc a) h z = kept (suc a) (omega arith) (λ e. omega (arith, delta_eq (suc a) c e))

  line_up : (s i : ℕ) (l : List ℕ) → count c l ≡ 0 → count 0 l ≡ 0 → Line lv s i l → Line lv' (suc s) (suc i) l
  line_up s i [] h z g = tt
  line_up s i (a ∷ l) h z g =
      (omega (arith, g.0, kept_level a (omega arith) (omega arith)), line_up s (suc i) l (omega arith) (omega arith) g.1)

  gap_up : (h s i : ℕ) (l : List ℕ) → count c l ≡ 0 → count 0 l ≡ 0 → Gap lv h s i l → Gap lv' h (suc s) (suc i) l
  gap_up zero s i l e z g = line_up s (suc i) l e z g
  gap_up (suc h) s i [] e z g = tt
  gap_up (suc h) s i (a ∷ l) e z g =
      (omega (arith, g.0, kept_level a (omega arith) (omega arith)), gap_up h s (suc i) l (omega arith) (omega arith) g.1)

-- ---- what steps keep

-- the levels of a permutation with the highest level t: at most one gap, below the largest cell, and none where that is on top
pub record Tight (n : ℕ) (lv : ℕ → ℕ) (t : ℕ) (xs : List ℕ) : Type 0 where
  pub hole : ℕ
  pub shape : Gap lv hole t 0 xs
  pub lower : place_of n xs ≤ hole
  pub whole : place_of n xs ≡ 1 → n ≤ hole

-- the pushed cell goes before the others
pushed : {n t x : ℕ} {lv lv' : ℕ → ℕ} {ys : List ℕ} (l : List ℕ) (h : ℕ) → IsPermutation n ys → ys ≡ x ∷ l
    → Kept lv lv' (top ys) → lv' (top ys) ≡ suc t → Gap lv h t 0 l → Gap lv' (suc h) (suc t) 0 ys
pushed {n} {t} {x} {lv} {lv'} {ys} l h o e kept up g =
    let c : top ys ≡ x = ap top e in
    let has : count x ys ≡ suc (count x l) = ap (count x) e ∙ omega (arith, delta_self x) in
    let b = inside n ys o x (omega (arith, has)) in
    let one : count x ys ≡ 1 = o.once x b.0 b.1 in
    let none : count 0 l ≡ 0 = omega (arith, absent_zero o, ap (count 0) e) in
    subst (Gap lv' (suc h) (suc t) 0) (sym e)
    (omega (arith, up, ap lv' c), gap_up (subst (Kept lv lv') c kept) h t 0 l (omega (arith, one, has)) none g)

tight_move : (m t : ℕ) (lv lv' : ℕ → ℕ) (xs : List ℕ) → 1 ≤ m → IsPermutation (suc m) xs → Kept lv lv' (top (step (suc m) xs))
    → lv' (top (step (suc m) xs)) ≡ suc t → Tight (suc m) lv t xs → Tight (suc m) lv' (suc t) (step (suc m) xs)
tight_move m t lv lv' xs pos o kept up r = go (moves pos o)
  where
    ys : List ℕ
    ys = step (suc m) xs

    o' : IsPermutation (suc m) ys
    o' = step_permutation (omega arith) o

    g : Gap lv r.hole t 0 xs
    g = r.shape

    go : Move m xs ys → Tight (suc m) lv' (suc t) ys
    go (shift u v x ex ey _ small none ne) =
        let p = place_is (suc m) (x ∷ u) v ey (omega (arith, delta_ne x (suc m) ne)) in
        record {
          hole = suc r.hole;
          shape = pushed (u ++ suc m ∷ v) r.hole o' ey kept up
              (gap_front lv t r.hole 0 (u ++ suc m ∷ v) (x ∷ [])
              (subst (Gap lv r.hole t 0) (ex ∙ sym (append_assoc u (suc m ∷ v) (x ∷ []))) g));
          lower = omega (arith, p, place_is (suc m) u (v ++ x ∷ []) ex none, r.lower);
          whole = λ q. absurd (omega (arith, p));
        }
    go (lift u ex ey len none) =
        let p = place_is (suc m) [] u ey refl in
        record {
          hole = suc r.hole;
          shape = pushed u r.hole o' ey kept up (gap_front lv t r.hole 0 u (suc m ∷ []) (subst (Gap lv r.hole t 0) ex g));
          lower = omega (arith, p);
          whole = λ q. omega (arith, place_is (suc m) u [] ex none, r.lower);
        }
    go (turn u v x ex ey ne next) =
        let p = place_is (suc m) (x ∷ []) (u ++ v) ey (omega (arith, delta_ne x (suc m) ne)) in
        let long : length xs ≤ r.hole = omega (arith, o.long, r.whole (place_is (suc m) [] (u ++ x ∷ v) ex refl)) in
        let f : Line lv t 0 (suc m ∷ (u ++ x ∷ v)) = subst (Line lv t 0) ex (gap_line lv t r.hole 0 xs long g) in
        record {
          hole = suc (suc (length u));
          shape = pushed (suc m ∷ (u ++ v)) (suc (length u)) o' ey kept up (f.0, line_out lv t 1 u x v f.1);
          lower = omega (arith, p);
          whole = λ q. absurd (omega (arith, p));
        }

pub tight_step : (n t : ℕ) (lv lv' : ℕ → ℕ) (xs : List ℕ) → 2 ≤ n → IsPermutation n xs → Kept lv lv' (top (step n xs))
    → lv' (top (step n xs)) ≡ suc t → Tight n lv t xs → Tight n lv' (suc t) (step n xs)
tight_step zero t lv lv' xs big = absurd (omega arith)
tight_step (suc m) t lv lv' xs big = tight_move m t lv lv' xs (omega arith)
