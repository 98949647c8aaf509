-- Two lists taken together, entry by entry: the length, and each entry; so of groups in their row, beside another row. Assumes nothing.
use mathlib.Core.Path.{◌≡◌, refl, sym, ap, ◌∙◌}
use mathlib.Core.List.{List, [], ◌∷◌, zip_with}
use Prim.Native.Nat.{ℕ, zero, suc, ◌≤◌, ◌<◌}
use native.Mathlib.Omega.{arith}
use lib.ListN.{length, get_or, take}
use lib.Seq.{length-take-le, get_or-take}
use Rattle.sheet.specs.Held.{levels_of, groups_in}
use Rattle.sheet.specs.Standing.{GroupsHeld}
use Rattle.sheet.specs.declared.held.Group.{Group}
use Rattle.sheet.specs.declared.held.Groups.{Groups}
use Rattle.sheet.proofs.InMemory.{held_count, held_levels}

module _ {A B C : Type 0} (f : A → B → C) where
  pub zipped_length : (xs : List A) (ys : List B) → length xs ≡ length ys → length (zip_with f xs ys) ≡ length ys
  unfolding zip_with
  zipped_length [] [] e = refl
  zipped_length [] (y ∷ ys) e = absurd (omega arith)
  zipped_length (x ∷ xs) [] e = refl
  zipped_length (x ∷ xs) (y ∷ ys) e = ap suc (zipped_length xs ys (omega arith))

  pub zipped_at : (xs : List A) (ys : List B) (i : ℕ) → i < length xs → i < length ys → (a : A) (b : B) (c : C)
      → get_or (zip_with f xs ys) i c ≡ f (get_or xs i a) (get_or ys i b)
  unfolding zip_with
  zipped_at [] ys i h k a b c = absurd (omega arith)
  zipped_at (x ∷ xs) [] i h k a b c = absurd (omega arith)
  zipped_at (x ∷ xs) (y ∷ ys) zero h k a b c = refl
  zipped_at (x ∷ xs) (y ∷ ys) (suc i) h k a b c = zipped_at xs ys i (omega arith) (omega arith) a b c

-- what f makes of each group and of the entry beside it
module _ {A C : Type 0} (f : A → List ℕ → C) {groups : Groups} (h : GroupsHeld groups) (row : List A) (enough : groups.count ≤ length row) where
  first_count : length (take groups.count row) ≡ groups.count
  first_count = length-take-le groups.count row enough

  pub beside_count : length (zip_with f (take groups.count row) (groups_in groups)) ≡ groups.count
  beside_count = zipped_length f _ (groups_in groups) (first_count ∙ held_count h) ∙ sym (held_count h)

  pub beside_at : (g : ℕ) → g < groups.count → (a : A) (d : Group) (c : C)
      → get_or (zip_with f (take groups.count row) (groups_in groups)) g c ≡ f (get_or row g a) (levels_of (get_or groups.list g d))
  beside_at g below a d c =
      zipped_at f (take groups.count row) (groups_in groups) g (omega (arith, first_count)) (omega (arith, held_count h)) a [] c
      ∙ rw (get_or-take groups.count row g a below, held_levels h g below d)
