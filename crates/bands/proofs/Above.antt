-- Cells above all that come after them: the test of it, and levels that fall. Assumes nothing.
use mathlib.Core.Path.{◌≡◌, refl}
use mathlib.Core.Bool.{true, and-eq-true_iff, false≢true}
use mathlib.Core.List.{List, [], ◌∷◌, map}
use Prim.Native.Nat.{ℕ, zero, suc, ◌≤◌, ◌<◌}
use native.Mathlib.Omega.{arith}
use borrow.Author.Tests.{ltb-true, lt-ltb}
use lib.Dec.{ltb}
use lib.ListN.{length, get_or, drop}
use Rattle.theory.specs.Lists.{member}
use Rattle.theory.specs.Levels.{level, highest, Falls}
use Rattle.theory.proofs.Members.{member_count, count_member}
use Rattle.symbols.proofs.Along.{along_highest, along_below}
use Rattle.bands.specs.LeadTest.{lead_test}

-- each of the first p cells of xs is, at its lowest, above all cells after it at their highest
abbrev pub Above : List ℕ → List ℕ → ℕ → List ℕ → Type 0
Above low high p xs = (j c : ℕ) → j < p → member c (drop (suc j) xs) ≡ true → level high c < level low (get_or xs j 0)

-- ---- the test

module _ (low high : List ℕ) where
  pub test_above : (p : ℕ) (xs : List ℕ) → p < length xs → lead_test low high p xs ≡ true → Above low high p xs
  unfolding lead_test
  test_above zero xs short e j c h m = absurd (omega arith)
  test_above (suc p) [] short e j c h m = absurd (omega arith)
  test_above (suc p) (x ∷ xs) short e zero c h m =
      let t = (and-eq-true_iff (ltb (highest (map (level high) xs)) (level low x)) (lead_test low high p xs)).0 e in
      omega (arith, along_highest high c xs m, ltb-true (highest (map (level high) xs)) (level low x) t.0)
  test_above (suc p) (x ∷ xs) short e (suc j) c h m =
      let t = (and-eq-true_iff (ltb (highest (map (level high) xs)) (level low x)) (lead_test low high p xs)).0 e in
      test_above p xs (omega arith) t.1 j c (omega arith) m

  pub above_test : (p : ℕ) (xs : List ℕ) → p < length xs → Above low high p xs → lead_test low high p xs ≡ true
  unfolding lead_test
  above_test zero xs short a = refl
  above_test (suc p) [] short a = refl
  above_test (suc p) (x ∷ xs) short a =
      let top : highest (map (level high) xs) < level low x = along_below high (level low x) xs (omega arith) (λ c m. a zero c (omega arith) m) in
      rw (lt-ltb (highest (map (level high) xs)) (level low x) top) (above_test p xs (omega arith) (λ j c h m. a (suc j) c (omega arith) m))

-- ---- levels that fall

module _ (L : List ℕ) where
  pub falls_above : (p : ℕ) (xs : List ℕ) → Falls L xs → Above L L p xs
  falls_above p [] f j c h m = absurd (false≢true m)
  falls_above p (x ∷ xs) f zero c h m = f.0 c (member_count c xs m)
  falls_above p (x ∷ xs) f (suc j) c h m = falls_above p xs f.1 j c (omega arith) m

  -- where all but the last are above those after them
  pub above_falls : (p : ℕ) (xs : List ℕ) → length xs ≤ suc p → Above L L p xs → Falls L xs
  above_falls p [] all a = tt
  above_falls zero (x ∷ []) all a = (λ c h. absurd (omega arith), tt)
  above_falls zero (x ∷ y ∷ xs) all a = absurd (omega arith)
  above_falls (suc p) (x ∷ xs) all a =
      (λ c h. a zero c (omega arith) (count_member c xs h), above_falls p xs (omega arith) (λ j c h m. a (suc j) c (omega arith) m))
