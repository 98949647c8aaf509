-- What holds of every entry of a list. Assumes nothing.
use mathlib.Core.List.{List, [], ◌∷◌, map}
use Prim.Native.Nat.{ℕ, zero, suc, ◌<◌}
use native.Mathlib.Omega.{arith}
use lib.ListN.{length, get_or, take, drop}
use Rattle.theory.specs.Lists.{Every}

module _ {A : Type 0} (P : A → Type 0) where
  pub every_nth : (d : A) (xs : List A) → ((i : ℕ) → i < length xs → P (get_or xs i d)) → Every P xs
  every_nth d [] h = tt
  every_nth d (x ∷ xs) h = (h 0 (omega arith), every_nth d xs (λ i l. h (suc i) (omega arith)))

  pub every_at : (d : A) (xs : List A) → Every P xs → (i : ℕ) → i < length xs → P (get_or xs i d)
  every_at d [] h i l = absurd (omega arith)
  every_at d (x ∷ xs) h zero l = h.0
  every_at d (x ∷ xs) h (suc i) l = every_at d xs h.1 i (omega arith)

  pub every_take : (n : ℕ) (xs : List A) → Every P xs → Every P (take n xs)
  every_take zero xs h = tt
  every_take (suc n) [] h = tt
  every_take (suc n) (x ∷ xs) h = (h.0, every_take n xs h.1)

  pub every_drop : (n : ℕ) (xs : List A) → Every P xs → Every P (drop n xs)
  every_drop zero xs h = h
  every_drop (suc n) [] h = tt
  every_drop (suc n) (x ∷ xs) h = every_drop n xs h.1

-- what follows for each entry follows for all
pub every_so : {A : Type 0} (P Q : A → Type 0) → ((x : A) → P x → Q x) → (xs : List A) → Every P xs → Every Q xs
every_so P Q more [] h = tt
every_so P Q more (x ∷ xs) h = (more x h.0, every_so P Q more xs h.1)

pub every_map : {A B : Type 0} (P : A → Type 0) (Q : B → Type 0) (f : A → B) → ((x : A) → P x → Q (f x)) → (xs : List A) → Every P xs → Every Q (map f xs)
every_map P Q f more [] h = tt
every_map P Q f more (x ∷ xs) h = (more x h.0, every_map P Q f more xs h.1)

pub every_both : {A : Type 0} (P Q : A → Type 0) (xs : List A) → Every P xs → Every Q xs → Every (λ x. P x × Q x) xs
every_both P Q [] h k = tt
every_both P Q (x ∷ xs) h k = ((h.0, k.0), every_both P Q xs h.1 k.1)
