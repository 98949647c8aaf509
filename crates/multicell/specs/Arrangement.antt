-- Document 02, request 11, "Several cells to a place": arrangements of q × z cells on q levels, and the levels to which their cells may rise. Assumes nothing.
use Rattle.std.specs.Prelude.{◌≡◌, Bool, true, ◌&&◌, List, ℕ, zero, suc, ◌*◌, ◌≤◌, ◌<◌, eqb, leb, length, get_or}
use Rattle.theory.specs.Lists.{count}

-- "An arrangement gives each of the q × z cells a level from 1 to q, each level used z times": the levels by cell, from index 0
pub record IsArrangement (q z : ℕ) (a : List ℕ) : Type 0 where
  pub long : length a ≡ q * z
  pub level : (i : ℕ) → i < length a → (1 ≤ get_or a i 0) × (get_or a i 0 ≤ q)
  pub used : (v : ℕ) → 1 ≤ v → v ≤ q → count v a ≡ z

-- is "each level used z times"? Where there are q × z cells, no other level is left for any (`ArrangementTest` of `specs/Claims`)
unfoldable pub used_each : ℕ → ℕ → List ℕ → Bool
used_each zero z a = true
used_each (suc q) z a = eqb (count (suc q) a) z && used_each q z a

-- "q is 2 to 16, z 1 to 16, and q × z at most 64"
abbrev pub in_range : ℕ → ℕ → Bool
in_range q z = leb 2 q && leb q 16 && leb 1 z && leb z 16 && leb (q * z) 64

-- levels to which the cells may rise: "Changing one into another, cells only rise, by whole levels, and after it every cell of a lower new level must be
-- strictly below every cell of a higher one." Cells of one new level need not end on one level
pub record IsRaise (old new raised : List ℕ) : Type 0 where
  pub long : length raised ≡ length old
  pub rise : (i : ℕ) → i < length old → get_or old i 0 ≤ get_or raised i 0
  pub apart : (i j : ℕ) → i < length old → j < length old → get_or new i 0 < get_or new j 0 → get_or raised i 0 < get_or raised j 0
