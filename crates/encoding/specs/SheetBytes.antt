-- Document 01, "The bench sheet", the other way round: the bytes of what is held; with the zeros of document 02, request 7. Assumes nothing.
use mathlib.Core.List.{List, [], ◌∷◌, ◌++◌, flat_map}
use Rattle.std.specs.Prelude.{ℕ, suc, length, take}
use Rattle.permutation.specs.Records.{list_of}
use Rattle.ranking.specs.declared.zero.Zero.{Zero}
use Rattle.ranking.specs.declared.zero.Zero.TheVariants.{Old, New}
use Rattle.sheet.specs.Bytes.{bytes_of}
use Rattle.sheet.specs.Held.{levels_of, contents_of}
use Rattle.sheet.specs.declared.held.Action.{Action}
use Rattle.sheet.specs.declared.held.Group.{Group}
use Rattle.sheet.specs.declared.held.Groups.{Groups}
use Rattle.sheet.specs.declared.held.Entry.{Entry}
use Rattle.sheet.specs.declared.held.Sheet.{Sheet}
use Rattle.encoding.specs.CommandKinds.{kind_of, body_bytes}

-- "Each has n in one byte, then n levels of two bytes."
unfoldable pub group_bytes : Group → List ℕ
group_bytes g = bytes_of 1 g.n ++ flat_map (bytes_of 2) (levels_of g)

-- "the kind byte comes first, then the group byte"
unfoldable pub head_bytes : ℕ → ℕ → List ℕ
head_bytes kind g = bytes_of 1 kind ++ bytes_of 1 g

abbrev pub action_bytes : ℕ → Action → List ℕ → List ℕ
action_bytes g action names = head_bytes (kind_of action) g ++ body_bytes action names

abbrev pub entry_bytes : Entry → List ℕ
entry_bytes e = action_bytes e.command.group e.command.action (list_of e.target)

-- "Groups: count G in one byte"
unfoldable pub groups_bytes : Groups → List ℕ
groups_bytes groups = bytes_of 1 groups.count ++ flat_map group_bytes (take groups.count groups.list)

-- "Commands: count in two bytes"
unfoldable pub commands_bytes : Sheet → List ℕ
commands_bytes sheet = bytes_of 2 sheet.count ++ flat_map entry_bytes (take sheet.count sheet.entries)

-- the number of group g where it is on the new zero, and none where it is on the old
unfoldable pub number_on_new : ℕ → Zero → List ℕ
number_on_new g Old = []
number_on_new g New = g ∷ []

-- "the numbers of the groups on the new zero", of zeros in a row, the first of which is that of group g
unfoldable pub numbers_on_new : ℕ → List Zero → List ℕ
numbers_on_new g [] = []
numbers_on_new g (z ∷ zs) = number_on_new g z ++ numbers_on_new (suc g) zs

-- "a count in one byte, [..] then the numbers"; "the writer writes the section when a group is on the new zero"
unfoldable pub section_bytes : List ℕ → List ℕ
section_bytes [] = []
section_bytes (g ∷ gs) = bytes_of 1 (length (g ∷ gs)) ++ flat_map (bytes_of 1) (g ∷ gs)

-- of the zeros of the groups that are counted
abbrev pub zeros_bytes : Sheet → List ℕ
zeros_bytes sheet = section_bytes (numbers_on_new 0 (contents_of sheet).zeros)

-- "sections in this sequence, each after its count"
unfoldable pub sheet_bytes : Sheet → List ℕ
sheet_bytes sheet = groups_bytes sheet.groups ++ (commands_bytes sheet ++ zeros_bytes sheet)
