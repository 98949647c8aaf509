-- Bands of levels, and what every choice of levels within them has in common. Assumes nothing.
use Rattle.std.specs.Prelude.{◌≡◌, false, List, ℕ, ◌≤◌, ◌<◌, length, take}
use Rattle.theory.specs.Lists.{member}
use Rattle.theory.specs.Permutation.{cell_at}
use Rattle.theory.specs.Levels.{level, tied, permutation_of}
use Rattle.theory.specs.Prefix.{IsPrefix}

-- Document 02, request 4: "The new reader gives each cell a lowest and a highest level": two lists of one length, and no lowest level above its highest
pub record Bands (low high : List ℕ) : Type 0 where
  pub same : length high ≡ length low
  pub upward : (c : ℕ) → 1 ≤ c → c ≤ length low → level low c ≤ level high c

-- a "choice of one level from each band"
pub record Choice (low high L : List ℕ) : Type 0 where
  pub long : length L ≡ length low
  pub from : (c : ℕ) → 1 ≤ c → c ≤ length low → level low c ≤ level L c
  pub to : (c : ℕ) → 1 ≤ c → c ≤ length low → level L c ≤ level high c

-- "every choice of one level from each band has no tie and yields that same order", which is xs
pub record SureOrder (low high xs : List ℕ) : Type 0 where
  pub untied : (L : List ℕ) → Choice low high L → tied L ≡ false
  pub same : (L : List ℕ) → Choice low high L → permutation_of L ≡ xs

-- on levels L the p cells of q lead in that sequence, "each strictly above all cells below it": the cell at place i is above every cell that stands at
-- none of the places 1 to i. "Ties further down don't matter": nothing is said of two cells that are both below place p
pub record Leads (L : List ℕ) (p : ℕ) (q : List ℕ) : Type 0 where
  pub prefix : IsPrefix (length L) p q
  pub above :
      (i c : ℕ) → 1 ≤ i → i ≤ p → 1 ≤ c → c ≤ length L → member c (take i q) ≡ false
      → level L c < level L (cell_at i q)

-- "in every choice, the same p cells lead in the same sequence", which is q
abbrev pub SureLead : List ℕ → List ℕ → ℕ → List ℕ → Type 0
SureLead low high p q = (L : List ℕ) → Choice low high L → Leads L p q
