-- The sheet held in memory: rows of fixed length, filled from the front. Assumes nothing.
use Rattle.std.specs.Prelude.{Result, List, [], map, ℕ, length, take}
use Rattle.theory.specs.Lists.{padded}
use Rattle.theory.specs.Permutation.{row}
use Rattle.permutation.specs.Refusals.{number_in, given_in}
use Rattle.permutation.specs.declared.reasons.Refusal.{Refusal}
use Rattle.sheet.specs.Bytes.{Got, fault, got, number_of}
use Rattle.ranking.specs.declared.zero.Zero.TheVariants.{Old}
use Rattle.sheet.specs.Sheet.{Contents, entry}
use Rattle.sheet.specs.declared.held.Action.TheVariants.{Count}
use Rattle.sheet.specs.declared.held.Group.{Group}
use Rattle.sheet.specs.declared.held.Groups.{Groups}
use Rattle.sheet.specs.declared.held.Entry.{Entry}
use Rattle.sheet.specs.declared.held.Sheet.{Sheet}

-- a group: n and its levels by name, in a row of twenty with 0 past n
abbrev pub group_of : List ℕ → Group
group_of L = record { n = length L; levels = row L }

abbrev pub no_group : Group
no_group = group_of []

abbrev pub groups_of : List (List ℕ) → Groups
groups_of groups = record { count = length groups; list = padded 64 no_group (map group_of groups) }

-- what stands past the last command: 0s
abbrev pub no_entry : Entry
no_entry = entry 0 (Count 0) []

-- nothing: what a refused sheet is answered with
abbrev pub no_contents : Contents
no_contents = record { groups = []; zeros = []; entries = [] }

-- a sheet in memory: what it says, in rows
unfoldable pub held_of : Contents → Sheet
held_of c = record {
  groups = groups_of c.groups;
  zeros = padded 64 Old c.zeros;
  count = length c.entries;
  entries = padded 1000 no_entry c.entries;
}

-- an answer as the paper gives it: a number, and a sheet
pub record SheetRead : Type 0 where
  pub number : ℕ
  pub sheet : Sheet

abbrev pub as_sheet : Result Sheet Refusal → SheetRead
as_sheet r = record { number = number_in r; sheet = given_in (held_of no_contents) r }

-- what `read_sheet` answers: number 0 and the sheet, or the fault's number and nothing, "0 for every other number"
unfoldable pub sheet_answer : Got Contents → SheetRead
sheet_answer (fault f) = record { number = number_of f; sheet = held_of no_contents }
sheet_answer (got c end) = record { number = 0; sheet = held_of c }

-- ---- and back: what the rows hold

abbrev pub levels_of : Group → List ℕ
levels_of g = take g.n g.levels

abbrev pub groups_in : Groups → List (List ℕ)
groups_in groups = map levels_of (take groups.count groups.list)

abbrev pub contents_of : Sheet → Contents
contents_of sheet = record {
  groups = groups_in sheet.groups;
  zeros = take sheet.groups.count sheet.zeros;
  entries = take sheet.count sheet.entries;
}
