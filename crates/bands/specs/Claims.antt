-- What is claimed of bands beside the contracts. `proofs/Claims` proves it. Assumes nothing.
use Rattle.std.specs.Prelude.{◌≡◌, true, false, List, ℕ, ◌-◌, ◌≤◌, length, take, drop}
use Rattle.theory.specs.Lists.{member}
use Rattle.theory.specs.Permutation.{cell_at}
use Rattle.theory.specs.Levels.{level, tied, permutation_of}
use Rattle.theory.specs.Prefix.{prefix_length}
use Rattle.charge.specs.Answers.{read_answer}
use Rattle.symbols.specs.Answers.{symbol_answer}
use Rattle.bands.specs.Bands.{Bands, Choice, SureOrder, SureLead}
use Rattle.bands.specs.Answers.{Banded, BandedCode, sure_number, sure_answer, sure_symbol_number, sure_symbol_answer}

-- what is read from bands
pub record BandReading (low high : List ℕ) : Type 0 where
  -- where it is not unsure, it is what is read from the levels of every choice without a tie; where an order is given no choice has one
  pub order :
      Bands low high → (sure_number low high ≡ 10 → ⊥) → (L : List ℕ) → Choice low high L
      → read_answer L ≡ sure_answer low high
  pub symbol :
      Bands low high → (m : ℕ) → (sure_symbol_number low high m ≡ 10 → ⊥) → (L : List ℕ) → Choice low high L → tied L ≡ false
      → symbol_answer L m ≡ sure_symbol_answer low high m
  -- "tie doesn't arise here"
  pub no_tie : sure_number low high ≡ 4 → ⊥
  pub no_symbol_tie : (m : ℕ) → sure_symbol_number low high m ≡ 4 → ⊥
  -- with m = 1 no cell needs to lead
  pub one : Banded low high → sure_symbol_answer low high 1 ≡ record { number = 0; symbol = 0 }
  -- all cells but one lead in every choice exactly where the order is sure
  pub order_leads : Bands low high → (xs : List ℕ) → SureOrder low high xs → SureLead low high (length low - 1) (take (length low - 1) xs)
  pub leads_order :
      Bands low high → (q : List ℕ) → SureLead low high (length low - 1) q
      → (take (length low - 1) (permutation_of low) ≡ q) × SureOrder low high (permutation_of low)

-- a tie of the first p cells, by level: one of them has the level of a cell after it
pub record TiedFirst (L : List ℕ) (p : ℕ) : Type 0 where
  pub place : ℕ
  pub other : ℕ
  pub first : (1 ≤ place) × (place ≤ p)
  pub after : member other (drop place (permutation_of L)) ≡ true
  pub equal : level L other ≡ level L (cell_at place (permutation_of L))

-- bands of one level each
pub record OneLevel (L : List ℕ) : Type 0 where
  pub order : tied L ≡ false → sure_answer L L ≡ read_answer L
  pub symbol : tied L ≡ false → (m : ℕ) → sure_symbol_answer L L m ≡ symbol_answer L m
  -- with a tie the order is unsure, the symbol only where the tie is one of its first p cells
  pub tied_order : Banded L L → tied L ≡ true → sure_number L L ≡ 10
  pub tied_symbol : (m : ℕ) → BandedCode L L m → TiedFirst L (prefix_length (length L) m) → sure_symbol_number L L m ≡ 10
  pub untouched : (m : ℕ) → (TiedFirst L (prefix_length (length L) m) → ⊥) → sure_symbol_number L L m ≡ 10 → ⊥
