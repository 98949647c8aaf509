-- Rows from lent lists: what stands in a row, and that a loop fills it. Assumes nothing.
use mathlib.Core.Path.{◌≡◌, ap, ◌∙◌}
use mathlib.Core.List.{List, map}
use Prim.Native.Nat.{ℕ, ◌+◌, ◌-◌, ◌*◌, ◌≤◌, ◌<◌}
use native.Mathlib.Omega.{arith}
use borrow.Author.Tests.{le-leb, lt-leb}
use lib.ListN.{length, get_or, set, replicate, take, drop, length-take, length-drop, length-map, get_or-map}
use lib.Seq.{get_or-take, get_or-drop}
use Rattle.theory.specs.Lists.{names_from}
use Rattle.theory.proofs.Cases.{by_le}
use Rattle.theory.proofs.Names.{names_length, names_at}
use Rattle.theory.proofs.FilledRow.{Filled, filled_more, row_none, row_all}
use Rattle.listing.specs.LentLists.{row_at, within, row_of}

-- a row of twenty, as it is cut out of its list
pub row_cut : (i : ℕ) (xs : List ℕ) → take (20 * i + 20 - 20 * i) (drop (20 * i) xs) ≡ row_at 20 i xs
row_cut i xs = let long : 20 * i + 20 - 20 * i ≡ 20 = omega arith in rw long

-- its places, where the list has it
module _ (xs : List ℕ) (i : ℕ) (there : 20 * i + 20 ≤ length xs) where
  pub row_length : length (row_at 20 i xs) ≡ 20
  row_length = rw (length-take, length-drop) (omega arith)

  pub row_at_lem : (c : ℕ) → c < 20 → get_or xs (20 * i + c) 0 ≡ get_or (row_at 20 i xs) c 0
  row_at_lem c h = rw (get_or-take, get_or-drop)

-- ---- what is counted, as far as there is room

within_room : (room count : ℕ) → within room count ≤ room
within_room room count = by_le count room (λ h. rw (le-leb count room h) h) (λ h. rw (lt-leb count room h) (omega arith))

within_count : (room count : ℕ) → within room count ≤ count
within_count room count = by_le count room (λ h. rw (le-leb count room h) (omega arith)) (λ h. rw (lt-leb count room h) (omega arith))

-- the first i places of a row of what f makes of the indices
module _ {A : Type 0} (room : ℕ) (z : A) (f : ℕ → A) (count : ℕ) where
  pub record RowsFilled (row : List A) (i : ℕ) : Type 0 where
    pub is : Filled (replicate room z) (map f (names_from 0 (within room count))) (within room count) row i

  pub rows_none : {row : List A} → row ≡ replicate room z → RowsFilled row 0
  rows_none e = rw e (record {
    is = row_none room z (length-map (names_from 0 (within room count)) f ∙ names_length 0 (within room count)) (within_room room count);
  })

module _ {A : Type 0} {room : ℕ} {z : A} {f : ℕ → A} {count : ℕ} {row : List A} {i n : ℕ} (v : RowsFilled room z f count row i) (e : n ≡ within room count) where
  pub rows_more : i < n → {x : A} → x ≡ f i → RowsFilled room z f count (set row i x) (i + 1)
  rows_more more is =
      let inside : i < within room count = omega arith in
      let at : get_or (map f (names_from 0 (within room count))) i (f 0) ≡ f i =
      get_or-map f (names_from 0 (within room count)) i 0 ∙ ap f (names_at 0 (within room count) i inside ∙ omega arith) in
      record { is = filled_more v.is inside (f 0) (rw at is) }

  pub rows_all : n ≤ i → row ≡ row_of room z f count
  rows_all all = row_all room z v.is (omega arith)

-- an index that is counted has its place, and its rows
pub counted_room : {n i : ℕ} (room count : ℕ) → n ≡ within room count → i < n → i < room
counted_room room count e h = omega (arith, within_room room count)

pub counted_there : {n i : ℕ} (room count : ℕ) → n ≡ within room count → i < n → i < count
counted_there room count e h = omega (arith, within_count room count)
