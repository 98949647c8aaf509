-- What holds of every sheet, and what document 01's sheet says. Assumes nothing.
use Rattle.std.specs.Prelude.{◌≡◌, List, [], ◌∷◌, ◌++◌, ℕ, ◌+◌, ◌≤◌, ◌<◌, length, get_or, take}
use Rattle.theory.specs.Levels.{read_number}
use Rattle.sheet.specs.Bytes.{got}
use Rattle.ranking.specs.declared.zero.Zero.TheVariants.{Old}
use Rattle.sheet.specs.Sheet.{Contents, entry, sheet}
use Rattle.sheet.specs.Held.{no_entry, held_of, contents_of}
use Rattle.sheet.specs.declared.held.Action.TheVariants.{Count, Rewrite, Store}

-- every group has a permutation
abbrev pub Each : List (List ℕ) → Type 0
Each groups = (g : ℕ) → g < length groups → read_number (get_or groups g []) ≡ 0

-- what is known of a sheet without fault: counts, groups and group numbers are in their ranges, and every group has a permutation
pub record Valid (c : Contents) : Type 0 where
  pub some : 1 ≤ length c.groups
  pub few : length c.groups ≤ 64
  pub readable : Each c.groups
  pub zeros : length c.zeros ≡ length c.groups
  pub short : length c.entries ≤ 1000
  pub named : (i : ℕ) → i < length c.entries → (get_or c.entries i no_entry).command.group < length c.groups

-- "Input bytes": the group, how many commands, a count, a rewrite and a store
abbrev pub example_sheet : List ℕ
example_sheet =
    (1 ∷ 3 ∷ 3 ∷ 0 ∷ 1 ∷ 0 ∷ 2 ∷ 0 ∷ [])
    ++ (3 ∷ 0 ∷ [])
    ++ (1 ∷ 0 ∷ 4 ∷ 0 ∷ 0 ∷ 0 ∷ [])
    ++ (2 ∷ 0 ∷ 3 ∷ 1 ∷ 2 ∷ [])
    ++ (3 ∷ 0 ∷ 3 ∷ 0 ∷ 0 ∷ 0 ∷ 0 ∷ 0 ∷ 0 ∷ 0 ∷ 3 ∷ 0 ∷ 0 ∷ 0 ∷ 0 ∷ 0 ∷ 0 ∷ 0 ∷ [])

abbrev pub example_contents : Contents
example_contents = record {
  groups = (3 ∷ 1 ∷ 2 ∷ []) ∷ [];
  zeros = Old ∷ [];
  entries = entry 0 (Count 4) [] ∷ entry 0 Rewrite (3 ∷ 1 ∷ 2 ∷ []) ∷ entry 0 (Store 3 3) [] ∷ [];
}

-- document 02, request 7: "the longest sheet becomes 24,692 bytes"
abbrev pub longest_sheet : ℕ
longest_sheet = 24692

pub record Sheets : Type 0 where
  pub valid : (s : List ℕ) (c : Contents) (end : ℕ) → sheet s ≡ got c end → Valid c
  -- nothing that a sheet says is lost in memory; `valid` gives the condition for each that was read
  pub held : (c : Contents) → length c.zeros ≡ length c.groups → contents_of (held_of c) ≡ c
  pub longest : (s : List ℕ) (c : Contents) (end : ℕ) → sheet s ≡ got c end → length s ≤ longest_sheet
  -- so those bytes and one more decide, whatever follows them
  pub decided : (s : List ℕ) → sheet (take (longest_sheet + 1) s) ≡ sheet s
  pub example : sheet example_sheet ≡ got example_contents (length example_sheet)
