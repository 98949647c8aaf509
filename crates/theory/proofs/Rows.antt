-- Rows of pushes: a push brings one cell to the top of the others, and a row leaves its cells above the rest of the list. Assumes nothing.
use mathlib.Core.Path.{◌≡◌, refl, ap, sym, ◌∙◌}
use mathlib.Core.Bool.{Bool, true, false, ◌||◌, or_comm, or-false}
use mathlib.Core.List.{List, [], ◌∷◌, ◌++◌, reverse, reverse-cons}
use Prim.Native.Nat.{ℕ, suc, ◌+◌, ◌-◌, ◌≤◌}
use native.Mathlib.Omega.{arith}
use lib.Dec.{eqb}
use lib.ListN.{length, length-append}
use borrow.Author.Tests.{eq-eqb}
use Rattle.theory.specs.Lists.{member, without}
use Rattle.theory.specs.Permutation.{IsPermutation, cell_at, top, place_of}
use Rattle.theory.specs.Push.{push, pushes, Places, push_cell, push_cells, cell_places}
use Rattle.theory.proofs.Cases.{by_test, by_name, eqb_sym}
use Rattle.theory.proofs.Members.{Distinct, Same, Among, permutation_distinct, distinct_head, distinct_tail, distinct_cons, distinct_without, member_first, member_length, member_append, member_get_or, member_without, among_tail, without_none, without_absent, without_same, without_append, without_without, without_length, without_one_length, without_at}
use Rattle.theory.proofs.Names.{permutation_member, names_permutation}
use Rattle.theory.proofs.Places.{place_of_low, place_of_high, place_of_lower, cell_at_place_of}

-- cell c on top of the others
abbrev pub bring : ℕ → List ℕ → List ℕ
bring c xs = c ∷ without (c ∷ []) xs

-- the same cells, as many of them and none twice, in whatever sequence
pub record Rearranged (xs ys : List ℕ) : Type 0 where
  pub distinct : Distinct ys
  pub same : Same xs ys
  pub long : length ys ≡ length xs

bring_rearranged : (c : ℕ) (xs : List ℕ) → Distinct xs → member c xs ≡ true → Rearranged xs (bring c xs)
bring_rearranged c xs d m = record {
  distinct = distinct_cons c (without (c ∷ []) xs) (cc (member_without c (c ∷ []) xs, eq-eqb c c refl)) (distinct_without (c ∷ []) xs d);
  same = λ b. by_name b c (λ q e. cc) (λ q e. cc (member_without b (c ∷ []) xs));
  long = omega (arith, without_one_length c xs d m, member_length c xs m);
}

-- the push at place i brings the cell that stands there
push_bring : (i : ℕ) (xs : List ℕ) → Distinct xs → 1 ≤ i → i ≤ length xs → push i xs ≡ bring (cell_at i xs) xs
unfolding push
push_bring i xs d low high = let q : suc (i - 1) ≡ i = omega arith in cc (without_at xs (i - 1) d (omega arith))

push_cell_bring : (c : ℕ) (xs : List ℕ) → Distinct xs → member c xs ≡ true → push_cell c xs ≡ bring c xs
unfolding push_cell
push_cell_bring c xs d m =
    push_bring (place_of c xs) xs d (place_of_low c xs) (place_of_high c xs m) ∙ ap (λ (b : ℕ). bring b xs) (cell_at_place_of c xs m)

-- a row of pushes of cells is the row of pushes at their places
pub cell_places_length : (cs xs : List ℕ) → length (cell_places cs xs) ≡ length cs
cell_places_length [] xs = refl
cell_places_length (c ∷ cs) xs = ap suc (cell_places_length cs (push_cell c xs))

pub pushes_cells : (cs xs : List ℕ) → pushes (cell_places cs xs) xs ≡ push_cells cs xs
unfolding push_cell
pushes_cells [] xs = refl
pushes_cells (c ∷ cs) xs = pushes_cells cs (push_cell c xs)

-- a row of pushes and one more
push_cells_snoc : (cs : List ℕ) (c : ℕ) (xs : List ℕ) → push_cells (cs ++ c ∷ []) xs ≡ push_cell c (push_cells cs xs)
push_cells_snoc [] c xs = refl
push_cells_snoc (b ∷ cs) c xs = push_cells_snoc cs c (push_cell b xs)

places_snoc :
    (n : ℕ) (cs : List ℕ) (c : ℕ) (xs : List ℕ) → Places n (cell_places cs xs)
    → 2 ≤ place_of c (push_cells cs xs) → place_of c (push_cells cs xs) ≤ n → Places n (cell_places (cs ++ c ∷ []) xs)
places_snoc n [] c xs p low high = (low, high, tt)
places_snoc n (b ∷ cs) c xs p low high = (p.0, p.1, places_snoc n cs c (push_cell b xs) p.2 low high)

-- a cell that l has not is not on top of l
top_differs : (c : ℕ) (l r : List ℕ) → member c l ≡ false → 1 ≤ length l → eqb (top (l ++ r)) c ≡ false
top_differs c [] r out h = absurd (omega arith)
top_differs c (x ∷ l) r out h = eqb_sym x c ∙ by_test (eqb c x) (λ e. cc) (λ e. e)

-- the cells of p, pushed from its last to its first
abbrev pub upward : List ℕ → List ℕ → List ℕ
upward p xs = push_cells (reverse p) xs

upward_cons : (c : ℕ) (p xs : List ℕ) → upward (c ∷ p) xs ≡ push_cell c (upward p xs)
upward_cons c p xs = ap (λ (cs : List ℕ). push_cells cs xs) (reverse-cons c p) ∙ push_cells_snoc (reverse p) c xs

module _ (xs : List ℕ) (d : Distinct xs) where
  pub upward_rearranged : (p : List ℕ) → Among p xs → Rearranged xs (upward p xs)
  upward_rearranged [] h = record { distinct = d; same = λ c. refl; long = refl }
  upward_rearranged (c ∷ p) h =
      let ys : List ℕ = upward p xs in
      let k : Rearranged xs ys = upward_rearranged p (among_tail c p xs h) in
      let m : member c ys ≡ true = sym (k.same c) ∙ h c (member_first c p) in
      let b : Rearranged ys (bring c ys) = bring_rearranged c ys k.distinct m in
      rw (upward_cons c p xs, push_cell_bring c ys k.distinct m)
      (record { distinct = b.distinct; same = λ a. k.same a ∙ b.same a; long = b.long ∙ k.long })

  -- the next cell of p is still there when its turn comes
  upward_member : (c : ℕ) (p : List ℕ) → Among (c ∷ p) xs → member c (upward p xs) ≡ true
  upward_member c p h = sym ((upward_rearranged p (among_tail c p xs h)).same c) ∙ h c (member_first c p)

  -- they come on top in the sequence of p, and the others stay below in theirs
  pub upward_split : (p : List ℕ) → Distinct p → Among p xs → upward p xs ≡ p ++ without p xs
  upward_split [] dp h = sym (without_none [] xs (λ c m. refl))
  upward_split (c ∷ p) dp h =
      let ys : List ℕ = upward p xs in
      let swap : Same (p ++ c ∷ []) (c ∷ p) =
      λ b. member_append b p (c ∷ []) ∙ ap (λ (t : Bool). member b p || t) (or-false (eqb b c)) ∙ or_comm (member b p) (eqb b c) in
      cc (
        upward_cons c p xs,
        push_cell_bring c ys (upward_rearranged p (among_tail c p xs h)).distinct (upward_member c p h),
        upward_split p (distinct_tail c p dp) (among_tail c p xs h),
        without_append (c ∷ []) p (without p xs),
        without_absent c p (distinct_head c p dp),
        without_without (c ∷ []) p xs,
        without_same (p ++ c ∷ []) (c ∷ p) xs swap,
      )

  -- the next cell of p is not on top when its turn comes, but for the last
  upward_top : (c : ℕ) (p : List ℕ) → Distinct (c ∷ p) → Among (c ∷ p) xs → 1 ≤ length p → eqb (top (upward p xs)) c ≡ false
  upward_top c p dp h pos =
      rw (upward_split p (distinct_tail c p dp) (among_tail c p xs h)) (top_differs c p (without p xs) (distinct_head c p dp) pos)

  -- one more push, of a cell that is not on top, is at a place 2 to n
  upward_place : (c : ℕ) (p : List ℕ) → Among (c ∷ p) xs → eqb (top (upward p xs)) c ≡ false
      → (2 ≤ place_of c (upward p xs)) × (place_of c (upward p xs) ≤ length xs)
  upward_place c p h other =
      let m : member c (upward p xs) ≡ true = upward_member c p h in
      (place_of_lower c (upward p xs) m other, omega (arith, place_of_high c (upward p xs) m, (upward_rearranged p (among_tail c p xs h)).long))

  -- all pushes are, where the last cell of p, which comes first, is not on top
  pub upward_places : (p : List ℕ) (c : ℕ) → Distinct (p ++ c ∷ []) → Among (p ++ c ∷ []) xs → eqb (top xs) c ≡ false
      → Places (length xs) (cell_places (reverse (p ++ c ∷ [])) xs)
  upward_places [] c dp h other = let b = upward_place c [] h other in (b.0, b.1, tt)
  upward_places (b ∷ p) c dp h other =
      let q : List ℕ = p ++ c ∷ [] in
      let k = upward_place b q h (upward_top b q dp h (omega (arith, length-append p (c ∷ [])))) in
      rw (reverse-cons b q)
      (places_snoc (length xs) (reverse q) b xs
      (upward_places p c (distinct_tail b q dp) (among_tail b q xs h) other)
      k.0 k.1)

push_rearranged : (i : ℕ) (xs : List ℕ) → Distinct xs → 2 ≤ i → i ≤ length xs → Rearranged xs (push i xs)
push_rearranged i xs d low high =
    rw (push_bring i xs d (omega arith) high) (bring_rearranged (cell_at i xs) xs d (member_get_or xs (i - 1) (omega arith)))

-- cells brought to the top one after another
abbrev pub bring_all : List ℕ → List ℕ → List ℕ
bring_all [] xs = xs
bring_all (c ∷ cs) xs = bring_all cs (bring c xs)

bring_all_append : (cs xs ys : List ℕ) → bring_all cs (xs ++ ys) ≡ bring_all cs xs ++ without cs ys
bring_all_append [] xs ys = ap (λ (l : List ℕ). xs ++ l) (sym (without_none [] ys (λ c m. refl)))
bring_all_append (c ∷ cs) xs ys =
    cc (without_append (c ∷ []) xs ys, bring_all_append cs (bring c xs) (without (c ∷ []) ys), without_without cs (c ∷ []) ys)

-- the row's cells come first, each once, the latest on top, as they would come alone; then what was there, without them
pub bring_all_split : (cs xs : List ℕ) → bring_all cs xs ≡ bring_all cs [] ++ without cs xs
bring_all_split cs xs = bring_all_append cs [] xs

pub bring_all_length : (cs xs : List ℕ) → length (bring_all cs xs) ≤ length cs + length xs
bring_all_length [] xs = omega arith
bring_all_length (c ∷ cs) xs = omega (arith, bring_all_length cs (bring c xs), without_length (c ∷ []) xs)

-- the cells that a row of pushes by place moves
abbrev pub moved_cells : List ℕ → List ℕ → List ℕ
moved_cells [] xs = []
moved_cells (i ∷ is) xs = cell_at i xs ∷ moved_cells is (push i xs)

pub moved_cells_length : (is xs : List ℕ) → length (moved_cells is xs) ≡ length is
moved_cells_length [] xs = refl
moved_cells_length (i ∷ is) xs = ap suc (moved_cells_length is (push i xs))

pub pushes_rearranged : (is xs : List ℕ) → Distinct xs → Places (length xs) is → Rearranged xs (pushes is xs)
pushes_rearranged [] xs d p = record { distinct = d; same = λ c. refl; long = refl }
pushes_rearranged (i ∷ is) xs d p =
    let k : Rearranged xs (push i xs) = push_rearranged i xs d p.0 p.1 in
    let r : Rearranged (push i xs) (pushes is (push i xs)) = pushes_rearranged is (push i xs) k.distinct (rw k.long p.2) in
    record { distinct = r.distinct; same = λ c. k.same c ∙ r.same c; long = r.long ∙ k.long }

-- so what they lead to from a permutation is one
pub pushes_permutation : {n : ℕ} {xs : List ℕ} → IsPermutation n xs → (is : List ℕ) → Places n is → IsPermutation n (pushes is xs)
pushes_permutation {xs = xs} o is p =
    let k : Rearranged xs (pushes is xs) = pushes_rearranged is xs (permutation_distinct o) (rw o.long p) in
    names_permutation (k.long ∙ o.long) k.distinct (λ c. sym (k.same c) ∙ permutation_member o c)

pub pushes_bring_all : (is xs : List ℕ) → Distinct xs → Places (length xs) is → pushes is xs ≡ bring_all (moved_cells is xs) xs
pushes_bring_all [] xs d p = refl
pushes_bring_all (i ∷ is) xs d p =
    let k : Rearranged xs (push i xs) = push_rearranged i xs d p.0 p.1 in
    pushes_bring_all is (push i xs) k.distinct (rw k.long p.2)
    ∙ ap (bring_all (moved_cells is (push i xs))) (push_bring i xs d (omega arith) p.1)
