-- Groups and sheets in memory as code finds them: read, or left by commands. Only inner contracts cite these, in `reader`, `work` and `layout`. Assumes nothing.
use Rattle.std.specs.Prelude.{◌≡◌, ◌≤◌}
use Rattle.theory.specs.Levels.{read_number}
use Rattle.sheet.specs.Held.{group_of, groups_of, held_of, levels_of, groups_in, contents_of}
use Rattle.sheet.specs.Claims.{Each, Valid}
use Rattle.sheet.specs.declared.held.Group.{Group}
use Rattle.sheet.specs.declared.held.Groups.{Groups}
use Rattle.sheet.specs.declared.held.Sheet.{Sheet}

-- a group that has a permutation
pub record GroupHeld (g : Group) : Type 0 where
  pub held : g ≡ group_of (levels_of g)
  pub readable : read_number (levels_of g) ≡ 0

-- groups, each of which has a permutation
pub record GroupsHeld (groups : Groups) : Type 0 where
  pub held : groups ≡ groups_of (groups_in groups)
  pub few : groups.count ≤ 64
  pub readable : Each (groups_in groups)

-- a sheet without fault
pub record SheetHeld (sheet : Sheet) : Type 0 where
  pub held : sheet ≡ held_of (contents_of sheet)
  pub valid : Valid (contents_of sheet)
