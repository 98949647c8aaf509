-- The numbers of a held sheet's parts, by the tests that the code makes. Assumes nothing.
use mathlib.Core.Path.{◌≡◌}
use mathlib.Core.Bool.{true, false}
use Prim.Native.Nat.{ℕ, ◌≤◌, ◌<◌}
use borrow.Author.Tests.{le-leb, lt-leb, lt-ltb, le-ltb, eq-eqb, ne_eqb}
use lib.ListN.{take, drop, get_or}
use Rattle.theory.specs.Reasons.{sized}
use Rattle.theory.specs.Levels.{tied}
use Rattle.permutation.specs.Records.{all_zero}
use Rattle.permutation.specs.declared.answers.Permutation.{Permutation}
use Rattle.sheet.specs.Held.{no_group, levels_of}
use Rattle.sheet.specs.declared.held.Group.{Group}
use Rattle.sheet.specs.declared.held.Groups.{Groups}
use Rattle.sheet.specs.declared.held.Entry.{Entry}
use Rattle.sheet.specs.declared.held.Sheet.{Sheet}
use Rattle.encoding.specs.Faults.{first, group_number, groups_number, target_number, action_number, entry_number, commands_number}

module _ (g : Group) where
  pub group_missized : sized g.n ≡ false → 1 ≡ group_number g
  unfolding group_number
  group_missized out = rw out

  module _ (size : sized g.n ≡ true) where
    pub group_tied : tied (levels_of g) ≡ true → 4 ≡ group_number g
    unfolding group_number
    group_tied t = rw (size, t)

    pub group_clear : tied (levels_of g) ≡ false → 0 ≡ group_number g
    unfolding group_number
    group_clear t = rw (size, t)

module _ (n : ℕ) (target : Permutation) where
  pub target_other : (target.n ≡ n → ⊥) → 2 ≡ target_number n target
  unfolding target_number
  target_other h = rw (ne_eqb target.n n h)

  module _ (same : target.n ≡ n) where
    pub target_muddled : all_zero (drop n target.cells) ≡ false → 3 ≡ target_number n target
    unfolding target_number
    target_muddled z = rw (eq-eqb target.n n same, z)

    pub target_clear : all_zero (drop n target.cells) ≡ true → 0 ≡ target_number n target
    unfolding target_number
    target_clear z = rw (eq-eqb target.n n same, z)

-- ---- sections

module _ (groups : Groups) where
  pub groups_none : groups.count < 1 → 8 ≡ groups_number groups
  unfolding groups_number
  groups_none h = rw (lt-leb 1 groups.count h)

  module _ (some : 1 ≤ groups.count) where
    pub groups_many : 64 < groups.count → 8 ≡ groups_number groups
    unfolding groups_number
    groups_many h = rw (le-leb 1 groups.count some, lt-leb groups.count 64 h)

    pub groups_first : groups.count ≤ 64 → first group_number (take groups.count groups.list) ≡ groups_number groups
    unfolding groups_number
    groups_first few = rw (le-leb 1 groups.count some, le-leb groups.count 64 few)

  module _ (e : Entry) where
    pub entry_stray : groups.count ≤ e.command.group → 8 ≡ entry_number groups e
    unfolding entry_number
    entry_stray h = rw (le-ltb e.command.group groups.count h)

    pub entry_named : e.command.group < groups.count
        → action_number (get_or groups.list e.command.group no_group).n e.command.action e.target ≡ entry_number groups e
    unfolding entry_number
    entry_named h = rw (lt-ltb e.command.group groups.count h)

module _ (sheet : Sheet) where
  pub commands_many : 1000 < sheet.count → 8 ≡ commands_number sheet
  unfolding commands_number
  commands_many h = rw (lt-leb sheet.count 1000 h)

  pub commands_first : sheet.count ≤ 1000 → first (entry_number sheet.groups) (take sheet.count sheet.entries) ≡ commands_number sheet
  unfolding commands_number
  commands_first h = rw (le-leb sheet.count 1000 h)
