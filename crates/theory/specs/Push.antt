-- Pushes: the push-to-the-top of document 001, by place and by cell. Assumes nothing.
use Rattle.std.specs.Prelude.{List, [], ◌∷◌, ◌++◌, ℕ, ◌-◌, ◌≤◌, take, drop}
use Rattle.theory.specs.Permutation.{cell_at, place_of}

-- "Push at place i, 2 to n: the cell there moves to place 1, and those above it move down one."
unfoldable pub push : ℕ → List ℕ → List ℕ
push i xs = cell_at i xs ∷ (take (i - 1) xs ++ drop i xs)

-- a row of pushes at the places of a list, the first of them first
abbrev pub pushes : List ℕ → List ℕ → List ℕ
pushes [] xs = xs
pushes (i ∷ is) xs = pushes is (push i xs)

-- each entry is the place of a push: 2 to n
abbrev pub Places : ℕ → List ℕ → Type 0
Places n [] = Unit {0}
Places n (i ∷ is) = (2 ≤ i) × (i ≤ n) × Places n is

-- the push of cell c is the push at its place
unfoldable pub push_cell : ℕ → List ℕ → List ℕ
push_cell c xs = push (place_of c xs) xs

-- a row of pushes of cells, the first of them first
abbrev pub push_cells : List ℕ → List ℕ → List ℕ
push_cells [] xs = xs
push_cells (c ∷ cs) xs = push_cells cs (push_cell c xs)

-- the places at which those cells stand when their turns come
abbrev pub cell_places : List ℕ → List ℕ → List ℕ
cell_places [] xs = []
cell_places (c ∷ cs) xs = place_of c xs ∷ cell_places cs (push_cell c xs)
