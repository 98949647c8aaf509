-- Parts of a sheet that are judged and put one after the other. Only inner contracts cite these. Assumes nothing.
use Rattle.std.specs.Prelude.{◌≡◌, Result, List, ℕ, ◌+◌, ◌≤◌, ◌<◌, get_or}
use Rattle.permutation.specs.Refusals.{number_in, given_in}
use Rattle.permutation.specs.declared.reasons.Refusal.{Refusal}
use Rattle.sheet.specs.Held.{no_group}
use Rattle.sheet.specs.Putting.{Puts}
use Rattle.sheet.specs.declared.held.Groups.{Groups}

-- a part's number, and the place after it, or 0 beside a fault
pub record Laid : Type 0 where
  pub number : ℕ
  pub end : ℕ

abbrev pub as_laid : Result ℕ Refusal → Laid
as_laid r = record { number = number_in r; end = given_in 0 r }

-- the number of the first fault, or 0, and then xs was put, `most` bytes at most
pub record Lays (number most : ℕ) (before : List ℕ) (at : ℕ) (after : List ℕ) (r : Laid) (xs : List ℕ) : Type 0 where
  pub numbered : r.number ≡ number
  pub put : r.number ≡ 0 → Puts before at after r.end xs
  pub short : r.number ≡ 0 → r.end ≤ at + most

-- as many groups as a sheet can have, and none that is counted has more than twenty cells
abbrev pub SmallGroups : Groups → Type 0
SmallGroups groups = (groups.count ≤ 64) × ((g : ℕ) → g < groups.count → (get_or groups.list g no_group).n ≤ 20)
