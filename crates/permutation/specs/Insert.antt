-- A cell put in among others, in a row. Only inner contracts cite this. Assumes nothing.
use Rattle.std.specs.Prelude.{List, ◌∷◌, ◌++◌, ℕ, ◌+◌, take, drop}

-- a row whose first m places get c in at index i; its place past them is overwritten
abbrev pub put_in : ℕ → ℕ → ℕ → List ℕ → List ℕ
put_in m i c cells = take i cells ++ c ∷ (drop i (take m cells) ++ drop (m + 1) cells)
