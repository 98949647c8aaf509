-- Spots: the spot of a cell is how many smaller ones stand before it. Only inner contracts cite these, in other crates too. Assumes nothing.
use Rattle.std.specs.Prelude.{◌≡◌, cond, Result, List, [], ◌∷◌, map, ℕ, ◌+◌, ◌≤◌, eqb, ltb, get_or, replicate}
use Rattle.theory.specs.Reasons.{done, muddle}
use Rattle.theory.specs.Lists.{member, names_from}
use Rattle.permutation.specs.Records.{list_of, once_each, record_number}
use Rattle.theory.specs.Refusal.{given}
use Rattle.permutation.specs.declared.answers.Permutation.{Permutation}
use Rattle.permutation.specs.Refusals.{number_in, given_in}
use Rattle.permutation.specs.declared.reasons.Refusal.{Refusal}

-- how many names below c stand before c in xs
unfoldable pub spot : ℕ → List ℕ → ℕ
spot c [] = 0
spot c (x ∷ xs) = cond (eqb x c) 0 (cond (ltb x c) 1 0 + spot c xs)

-- by cell name, for 0 to 20: the spot of c where c stands in xs, and otherwise 20, which is no spot
unfoldable pub spot_row : List ℕ → List ℕ
spot_row xs = map (λ c. cond (member c xs) (spot c xs) 20) (names_from 0 21)

-- a check's number, and its spots
pub record Checked : Type 0 where
  pub number : ℕ
  pub spots : List ℕ

-- what a check that left these spots answers: the spots where the number says done, and zeros beside any other
abbrev pub leaving : ℕ → List ℕ → Checked
leaving number spots = record { number = number; spots = given number spots (replicate 21 0) }

abbrev pub as_checked : Result (List ℕ) Refusal → Checked
as_checked r = leaving (number_in r) (given_in [] r)

-- the pass over xs: is each of 1 to n once among them?
unfoldable pub spotted : ℕ → List ℕ → Checked
spotted n xs = leaving (cond (once_each n xs) done muddle) (spot_row xs)

-- the check of a record: why it is refused, or the spots of its list
unfoldable pub checked : Permutation → Checked
checked p = leaving (record_number p) (spot_row (list_of p))

-- the spots of 1 to n
pub record HasSpots (xs : List ℕ) (n : ℕ) (spots : List ℕ) : Type 0 where
  pub each : (c : ℕ) → 1 ≤ c → c ≤ n → get_or spots c 0 ≡ spot c xs
