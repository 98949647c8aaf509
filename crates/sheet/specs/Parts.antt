-- What the readers of one group, of one command and of the zeros answer, rows of numbers, and the sizes of groups. Only inner contracts cite these. Assumes nothing.
use Rattle.std.specs.Prelude.{Result, Ok, Err, List, [], ◌∷◌, ℕ, zero, suc, ◌+◌, ◌≤◌, get_or, take, drop, replicate}
use Rattle.theory.specs.Lists.{padded}
use Rattle.ranking.specs.declared.zero.Zero.TheVariants.{Old}
use Rattle.permutation.specs.Refusals.{number_in, given_in, number_of as reason}
use Rattle.permutation.specs.declared.reasons.Refusal.{Refusal}
use Rattle.sheet.specs.Bytes.{ill_formed, Got, fault, got, number_of, check, little}
use Rattle.sheet.specs.ZeroSection.{rising, zeros_of}
use Rattle.sheet.specs.Held.{group_of, no_group, no_entry}
use Rattle.sheet.specs.declared.held.Group.{Group}
use Rattle.sheet.specs.declared.held.Entry.{Entry}
use Rattle.ranking.specs.declared.zero.Zero.{Zero}

-- a part as the paper gives it: a number, and what is read and the place after it, or nothing
pub record GroupRead : Type 0 where
  pub number : ℕ
  pub group : Group
  pub next : ℕ

abbrev pub as_group : Result (Group × ℕ) Refusal → GroupRead
as_group (Ok read) = record { number = 0; group = read.0; next = read.1 }
as_group (Err e) = record { number = reason e; group = no_group; next = 0 }

pub record EntryRead : Type 0 where
  pub number : ℕ
  pub entry : Entry
  pub next : ℕ

abbrev pub as_entry : Result (Entry × ℕ) Refusal → EntryRead
as_entry (Ok read) = record { number = 0; entry = read.0; next = read.1 }
as_entry (Err e) = record { number = reason e; entry = no_entry; next = 0 }

pub record ZerosRead : Type 0 where
  pub number : ℕ
  pub zeros : List Zero

abbrev pub as_zeros : Result (List Zero) Refusal → ZerosRead
as_zeros r = record { number = number_in r; zeros = given_in (replicate 64 Old) r }

-- what each reader answers
unfoldable pub group_answer : Got (List ℕ) → GroupRead
group_answer (fault f) = record { number = number_of f; group = no_group; next = 0 }
group_answer (got L end) = record { number = 0; group = group_of L; next = end }

unfoldable pub entry_answer : Got Entry → EntryRead
entry_answer (fault f) = record { number = number_of f; entry = no_entry; next = 0 }
entry_answer (got e end) = record { number = 0; entry = e; next = end }

unfoldable pub zeros_answer : Got (List Zero) → ZerosRead
zeros_answer (fault f) = record { number = number_of f; zeros = padded 64 Old [] }
zeros_answer (got zeros end) = record { number = 0; zeros = padded 64 Old zeros }

-- the same of the numbers of a section, wherever it ends
unfoldable pub named_answer : ℕ → List ℕ → ZerosRead
named_answer G numbers = zeros_answer (check (rising G 0 numbers) ill_formed (got (zeros_of G numbers) 0))

-- n numbers of k bytes each from a place on
unfoldable pub numbers : ℕ → ℕ → List ℕ → ℕ → List ℕ
numbers k zero s at = []
numbers k (suc n) s at = little (take k (drop at s)) ∷ numbers k n s (at + k)

-- no group has more than twenty cells
abbrev pub Small : List ℕ → Type 0
Small sizes = (g : ℕ) → get_or sizes g 0 ≤ 20
