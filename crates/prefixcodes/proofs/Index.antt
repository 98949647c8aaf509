-- The index of a symbol in a sequence. Assumes nothing.
use mathlib.Core.Path.{◌≡◌, refl, sym}
use mathlib.Core.Bool.{true}
use mathlib.Core.List.{List, [], ◌∷◌}
use Prim.Native.Nat.{ℕ, suc, ◌<◌}
use native.Mathlib.Omega.{arith}
use borrow.Author.Tests.{eq-eqb, ne_eqb}
use lib.ListN.{length, get_or}
use Rattle.theory.specs.Lists.{member}
use Rattle.theory.specs.Permutation.{place_of}
use Rattle.theory.proofs.Members.{Distinct}
use Rattle.theory.proofs.Places.{place_of_low, place_of_high, cell_at_place_of, place_of_get_or}
use Rattle.prefixcodes.specs.Construction.{index_of}

pub index_of_lt : (c : ℕ) (xs : List ℕ) → member c xs ≡ true → index_of c xs < length xs
index_of_lt c xs m = omega (arith, place_of_low c xs, place_of_high c xs m)

pub get_or_index_of : (c : ℕ) (xs : List ℕ) → member c xs ≡ true → get_or xs (index_of c xs) 0 ≡ c
get_or_index_of c xs m = cell_at_place_of c xs m

pub index_first : (c x : ℕ) (xs : List ℕ) → c ≡ x → index_of c (x ∷ xs) ≡ 0
unfolding place_of
index_first c x xs e = rw (eq-eqb x c (sym e))

pub index_later : (c x : ℕ) (xs : List ℕ) → (c ≡ x → ⊥) → index_of c (x ∷ xs) ≡ suc (index_of c xs)
unfolding place_of
index_later c x xs ne = rw (ne_eqb x c (λ e. ne (sym e))) (omega (arith, place_of_low c xs))

pub index_none_here : (c : ℕ) → index_of c [] ≡ 0
unfolding place_of
index_none_here c = refl

pub index_of_get_or : (xs : List ℕ) (i : ℕ) → Distinct xs → i < length xs → index_of (get_or xs i 0) xs ≡ i
index_of_get_or xs i d h = omega (arith, place_of_get_or xs i d h)
