-- Levels without a tie: no two cells have one level. Assumes nothing.
use mathlib.Core.Path.{◌≡◌, refl, sym, ap, ◌∙◌}
use mathlib.Core.Bool.{false}
use mathlib.Core.List.{List, [], ◌∷◌}
use Prim.Native.Nat.{ℕ, suc, ◌-◌, ◌≤◌, ◌<◌}
use native.Mathlib.Omega.{arith}
use lib.ListN.{length, get_or}
use Rattle.theory.specs.Lists.{member, repeats}
use Rattle.theory.specs.Permutation.{place_of}
use Rattle.theory.specs.Levels.{level, tied}
use Rattle.theory.proofs.Cases.{by_test}
use Rattle.theory.proofs.Members.{distinct_cons}
use Rattle.theory.proofs.Places.{place_of_low, place_of_high, cell_at_place_of, place_of_get_or}
use Rattle.theory.proofs.Extremes.{level_suc}

-- no two cells have one level
abbrev pub Apart : List ℕ → Type 0
Apart L = (c d : ℕ) → 1 ≤ c → c < d → d ≤ length L → level L c ≡ level L d → ⊥

entries_apart : (L : List ℕ) → repeats L ≡ false → (i j : ℕ) → i < j → j < length L → get_or L i 0 ≡ get_or L j 0 → ⊥
entries_apart L h i j l k e =
    omega (arith, place_of_get_or L i h (omega arith), place_of_get_or L j h k, ap (λ (x : ℕ). place_of x L) e)

pub untied_apart : (L : List ℕ) → tied L ≡ false → Apart L
untied_apart L h c d low less high e = entries_apart L h (c - 1) (d - 1) (omega arith) (omega arith) e

apart_entries : (L : List ℕ) → ((i j : ℕ) → i < j → j < length L → get_or L i 0 ≡ get_or L j 0 → ⊥) → repeats L ≡ false
apart_entries [] h = refl
apart_entries (a ∷ L) h =
    distinct_cons a L
    (by_test (member a L)
    (λ e.
    let low : 1 ≤ place_of a L = place_of_low a L in
    absurd (h 0 (suc (place_of a L - 1)) (omega arith) (omega (arith, place_of_high a L e)) (sym (cell_at_place_of a L e))))
    (λ e. e))
    (apart_entries L (λ i j l k. h (suc i) (suc j) (omega arith) (omega arith)))

pub apart_untied : (L : List ℕ) → Apart L → tied L ≡ false
apart_untied L h =
    apart_entries L
    (λ i j l k e. h (suc i) (suc j) (omega arith) (omega arith) (omega arith) (level_suc L i ∙ e ∙ sym (level_suc L j)))
