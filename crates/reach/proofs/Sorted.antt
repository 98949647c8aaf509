-- Lists of lists that stand in the sequence of a relation. Assumes nothing.
use mathlib.Core.Path.{refl}
use mathlib.Core.Bool.{Bool}
use mathlib.Core.Logic.{⊎_elim}
use mathlib.Core.List.Memᴰ
use mathlib.Core.List.{List, [], ◌∷◌, ◌++◌, flat_map}
use Prim.Native.Nat.{ℕ, zero, suc, ◌<◌}
use native.Mathlib.Nat.{le_of_suc-le-suc}
use native.Mathlib.Omega.{arith}
use lib.ListN.{length, get_or}
use Rattle.theory.proofs.Cases.{by_test}
use Rattle.theory.proofs.Names.{Ascending}
use Rattle.reach.specs.Reach.{keep}
use Rattle.reach.proofs.Entries.{In, At, at_in, in_at, in_keep, in_flat_map}

module _ (R : List ℕ → List ℕ → Type 0) where
  -- each entry is related to all after it
  abbrev pub Sorted : List (List ℕ) → Type 0
  Sorted [] = Unit {0}
  Sorted (t ∷ ts) = ((u : List ℕ) → In u ts → R t u) × Sorted ts

  pub sorted_at : (ts : List (List ℕ)) → Sorted ts → (i j : ℕ) → i < j → j < length ts → R (get_or ts i []) (get_or ts j [])
  sorted_at [] s i j l h = absurd (omega arith)
  sorted_at (t ∷ ts) s i zero l h = absurd (omega arith)
  sorted_at (t ∷ ts) s zero (suc j) l h = s.0 (get_or ts j []) (at_in ts j (le_of_suc-le-suc h))
  sorted_at (t ∷ ts) s (suc i) (suc j) l h = sorted_at ts s.1 i j (le_of_suc-le-suc l) (le_of_suc-le-suc h)

  pub at_sorted : (ts : List (List ℕ)) → ((i j : ℕ) → i < j → j < length ts → R (get_or ts i []) (get_or ts j [])) → Sorted ts
  at_sorted [] h = tt
  at_sorted (t ∷ ts) h = (
    (λ u m. let f : At u ts = in_at ts m in rw f.here at (h 0 (suc f.index) (omega arith) (omega (arith, f.within)))),
    at_sorted ts (λ i j l k. h (suc i) (suc j) (omega arith) (omega arith)),
  )

  pub sorted_keep : (test : List ℕ → Bool) (ts : List (List ℕ)) → Sorted ts → Sorted (keep test ts)
  sorted_keep test [] s = tt
  sorted_keep test (t ∷ ts) s =
      by_test (test t)
      (λ f. rw f (λ u m. s.0 u (in_keep test ts m).0, sorted_keep test ts s.1))
      (λ f. rw f (sorted_keep test ts s.1))

  sorted_append : (ts us : List (List ℕ)) → Sorted ts → Sorted us → ((a b : List ℕ) → In a ts → In b us → R a b) → Sorted (ts ++ us)
  sorted_append [] us s r h = r
  sorted_append (t ∷ ts) us s r h = (
    (λ u m. ⊎_elim (s.0 u) (h t u (Memᴰ.head refl)) (Memᴰ.append_cases ts m)),
    sorted_append ts us s.1 r (λ a b i. h a b (Memᴰ.tail i)),
  )

  -- lists for numbers that ascend, put one after another
  pub sorted_flat_map :
      (f : ℕ → List (List ℕ)) (cs : List ℕ) → Ascending cs → ((c : ℕ) → Sorted (f c))
      → ((b c : ℕ) → b < c → (t u : List ℕ) → In t (f b) → In u (f c) → R t u) → Sorted (flat_map f cs)
  unfolding flat_map
  sorted_flat_map f [] a s h = tt
  sorted_flat_map f (c ∷ cs) a s h =
      sorted_append (f c) (flat_map f cs) (s c) (sorted_flat_map f cs a.1 s h)
      (λ t u i j. let w = in_flat_map f cs j in h c w.0 (a.0 w.0 w.1) t u i w.2)

-- one relation for another
pub sorted_as :
    (R S : List ℕ → List ℕ → Type 0) (ts : List (List ℕ)) → ((a b : List ℕ) → In a ts → In b ts → R a b → S a b) → Sorted R ts → Sorted S ts
sorted_as R S [] h s = tt
sorted_as R S (t ∷ ts) h s = (
  (λ u m. h t u (Memᴰ.head refl) (Memᴰ.tail m) (s.0 u m)),
  sorted_as R S ts (λ a b i j. h a b (Memᴰ.tail i) (Memᴰ.tail j)) s.1,
)
