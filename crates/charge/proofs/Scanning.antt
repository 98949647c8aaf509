-- What the library's methods find along levels, in the meanings' words: an equal level, a tie, the highest, the lowest, the sum. Assumes nothing.
use mathlib.Core.Path.{◌≡◌, refl, ap, ◌∙◌}
use mathlib.Core.Bool.{Bool, true, false, ◌||◌}
use mathlib.Core.List.{List, [], ◌∷◌}
use Prim.Native.Nat.{ℕ, suc, ◌+◌, ◌-◌, ◌≤◌, ◌<◌}
use native.Mathlib.Numerals.{add-one}
use native.Mathlib.Omega.{arith}
use lib.Dec.{eqb}
use lib.ListN.{length, get_or, take, drop, length-drop}
use lib.Seq.{drop-cons, take_all}
use Rattle.std.specs.Prelude.{EachIndex, slice_index}
use Rattle.std.specs.List.{list_any, sum_by}
use Rattle.std.specs.Option.{MatchOption, unwrap_or}
use Rattle.std.specs.Prelude.{Option}
use Rattle.std.specs.declared.option.Option.TheVariants.{Some, None}
use Rattle.std.proofs.lemmas.List.Recursion.{same_from_clauses, is_sum_by}
use Rattle.theory.specs.Lists.{member}
use Rattle.theory.specs.Levels.{highest, lowest, tied}
use Rattle.theory.specs.Spent.{level_sum}
use Rattle.theory.proofs.Cases.{eqb_sym}
use Rattle.theory.proofs.Extremes.{entry≤highest, highest≤, ≤lowest, lowest≤level, level_suc}

-- ---- a sum

pub sum_is : (L : List ℕ) → level_sum L ≡ sum_by (λ a. a) L
sum_is = is_sum_by level_sum (λ a. a) refl (λ a L. refl)

-- ---- a tie

any_member : (x : ℕ) (xs : List ℕ) → list_any (λ y. eqb y x) xs ≡ member x xs
any_member x =
    same_from_clauses (list_any (λ y. eqb y x)) (member x) (λ y b. eqb y x || b) refl (λ y xs. refl)
    (λ y xs. ap (λ (b : Bool). b || member x xs) (eqb_sym x y))

-- the entry at i stands again after it
pub again : (L : List ℕ) (i : ℕ) {found : Bool}
    → found ≡ list_any (λ y. eqb y (get_or L i 0)) (take (length L - (i + 1)) (drop (i + 1) L)) → found ≡ member (get_or L i 0) (drop (i + 1) L)
again L i e =
    e
    ∙ ap (list_any (λ y. eqb y (get_or L i 0))) (take_all (length L - (i + 1)) (drop (i + 1) L) (omega (arith, length-drop (i + 1) L)))
    ∙ any_member (get_or L i 0) (drop (i + 1) L)

module _ (L : List ℕ) (i : ℕ) (h : i < length L) where
  pub ahead : drop i L ≡ get_or L i 0 ∷ drop (i + 1) L
  ahead = drop-cons L i 0 h ∙ rw (add-one i)

  pub tied_here : member (get_or L i 0) (drop (i + 1) L) ≡ true → tied (drop i L) ≡ true
  tied_here e = rw (ahead, e)

  pub tied_next : member (get_or L i 0) (drop (i + 1) L) ≡ false → tied (drop i L) ≡ tied (drop (i + 1) L)
  tied_next e = rw (ahead, e)

-- ---- the highest and the lowest

pub highest_is : (L : List ℕ) (r : Option ℕ) → MatchOption r (length L ≡ 0) (λ m. EachIndex L (λ k. slice_index L k ≤ m))
    → MatchOption r (length L ≡ 0) (λ m. (k : ℕ) × (k < length L) × (slice_index L k ≡ m)) → unwrap_or r 0 ≡ highest L
highest_is [] None most is = refl
highest_is (a ∷ L) None most is = absurd (omega arith)
highest_is L (Some m) most is = omega (arith, is.2, entry≤highest L is.0, highest≤ L m most)

pub lowest_is : (L : List ℕ) (r : Option ℕ) → MatchOption r (length L ≡ 0) (λ m. EachIndex L (λ k. m ≤ slice_index L k))
    → MatchOption r (length L ≡ 0) (λ m. (k : ℕ) × (k < length L) × (slice_index L k ≡ m)) → unwrap_or r 0 ≡ lowest L
lowest_is [] None least is = refl
lowest_is (a ∷ L) None least is = absurd (omega arith)
lowest_is L (Some m) least is =
    omega (arith, is.1, is.2, level_suc L is.0, lowest≤level L (suc is.0) (omega arith) (omega (arith, is.1)), ≤lowest L m (omega (arith, is.1)) least)
