-- What is known of a held sheet that is not refused. Assumes nothing.
use mathlib.Core.Path.{◌≡◌, ap, ◌∙◌}
use mathlib.Core.Bool.{false, ◌&&◌, and-eq-true_iff}
use mathlib.Core.List.{[], map}
use Prim.Native.Nat.{ℕ, ◌^◌, ◌≤◌, ◌<◌}
use native.Mathlib.Omega.{arith}
use borrow.Author.Tests.{leb-true, ltb-true}
use lib.Dec.{leb, ltb}
use lib.ListN.{length, get_or, take, length-map, get_or-map}
use lib.Seq.{length-take-le, get_or-take}
use Rattle.theory.specs.Lists.{Every}
use Rattle.theory.specs.Refusal.{size_of}
use Rattle.theory.specs.Levels.{tied}
use Rattle.theory.proofs.Refusal.{or_else_done, size_range}
use Rattle.sheet.specs.Held.{no_group, no_entry, levels_of, groups_in}
use Rattle.sheet.specs.Typed.{GroupTyped, SheetTyped}
use Rattle.sheet.specs.declared.held.Group.{Group}
use Rattle.sheet.specs.declared.held.Groups.{Groups}
use Rattle.sheet.specs.declared.held.Entry.{Entry}
use Rattle.sheet.specs.declared.held.Sheet.{Sheet}
use Rattle.sheet.proofs.Typed.{groups_there, entries_there}
use Rattle.theory.proofs.Every.{every_nth, every_at}
use Rattle.encoding.specs.Faults.{group_number, groups_number, action_number, entry_number, commands_number, sheet_number}
use Rattle.encoding.specs.Claims.{CountsFit}
use Rattle.encoding.proofs.Judged.{passed, unmet, first_none}

-- ---- a group, and the groups

pub record GroupTaken (g : Group) : Type 0 where
  pub some : 2 ≤ g.n
  pub few : g.n ≤ 20
  pub untied : tied (levels_of g) ≡ false

group_taken : (g : Group) → group_number g ≡ 0 → GroupTaken g
unfolding group_number
group_taken g z =
    let judged = or_else_done (size_of g.n) _ z in
    let range = size_range g.n judged.0 in
    record { some = range.0; few = range.1; untied = unmet (tied (levels_of g)) (λ e. omega arith) judged.1 }

pub record GroupsTaken (gs : Groups) : Type 0 where
  pub some : 1 ≤ gs.count
  pub few : gs.count ≤ 64
  pub each : Every (λ g. group_number g ≡ 0) (take gs.count gs.list)

pub groups_taken : (gs : Groups) → groups_number gs ≡ 0 → GroupsTaken gs
unfolding groups_number
groups_taken gs z =
    let judged = passed (leb 1 gs.count && leb gs.count 64) (λ e. omega arith) z in
    let range = (and-eq-true_iff (leb 1 gs.count) (leb gs.count 64)).0 judged.0 in
    record {
      some = leb-true 1 gs.count range.0;
      few = leb-true gs.count 64 range.1;
      each = first_none group_number (take gs.count gs.list) judged.1;
    }

module _ (gs : Groups) (room : length gs.list ≡ 64) (t : GroupsTaken gs) where
  -- each group that is counted
  pub group_at_lem : (g : ℕ) → g < gs.count → GroupTaken (get_or gs.list g no_group)
  group_at_lem g h =
      group_taken _
      (rw (get_or-take gs.count gs.list g no_group h) at (every_at (λ g. group_number g ≡ 0) no_group (take gs.count gs.list) t.each g (omega (arith, groups_there gs room t.few))))

  pub sizes_long : length (map length (groups_in gs)) ≡ gs.count
  sizes_long = length-map (groups_in gs) length ∙ length-map (take gs.count gs.list) levels_of ∙ groups_there gs room t.few

  -- its levels, in what is said
  pub levels_at : (g : ℕ) → g < gs.count → get_or (groups_in gs) g [] ≡ levels_of (get_or gs.list g no_group)
  levels_at g h =
      get_or-map levels_of (take gs.count gs.list) g no_group ∙ ap levels_of (get_or-take gs.count gs.list g no_group h)

  module _ (typed : Every GroupTyped gs.list) where
    -- they are as many as its n
    pub levels_long : (g : ℕ) → g < gs.count → length (levels_of (get_or gs.list g no_group)) ≡ (get_or gs.list g no_group).n
    levels_long g h =
        let long = (every_at GroupTyped no_group gs.list typed g (omega (arith, t.few))).long in
        length-take-le _ _ (omega (arith, (group_at_lem g h).few))

    pub size_at : (g : ℕ) → g < gs.count → get_or (map length (groups_in gs)) g 0 ≡ (get_or gs.list g no_group).n
    size_at g h = get_or-map length (groups_in gs) g [] ∙ ap length (levels_at g h) ∙ levels_long g h

-- ---- a command

-- a command that is not refused names a group, and what follows its group number is not refused there
pub entry_taken : (gs : Groups) (e : Entry) → entry_number gs e ≡ 0
    → (e.command.group < gs.count) × (action_number (get_or gs.list e.command.group no_group).n e.command.action e.target ≡ 0)
unfolding entry_number
entry_taken gs e z =
    let judged = passed (ltb e.command.group gs.count) (λ e. omega arith) z in
    (ltb-true e.command.group gs.count judged.0, judged.1)

-- ---- a sheet

pub record Accepted (h : Sheet) : Type 0 where
  pub groups : GroupsTaken h.groups
  pub short : h.count ≤ 1000
  pub entries : Every (λ e. entry_number h.groups e ≡ 0) (take h.count h.entries)

pub accepted : (h : Sheet) → sheet_number h ≡ 0 → Accepted h
unfolding sheet_number commands_number
accepted h none =
    let parts = or_else_done (groups_number h.groups) (commands_number h) none in
    let judged = passed (leb h.count 1000) (λ e. omega arith) parts.1 in
    record {
      groups = groups_taken h.groups parts.0;
      short = leb-true h.count 1000 judged.0;
      entries = first_none (entry_number h.groups) (take h.count h.entries) judged.1;
    }

module _ (h : Sheet) (typed : SheetTyped h) (a : Accepted h) where
  pub counts_fit : CountsFit h
  counts_fit =
      let gs = h.groups in
      let t = a.groups in
      let small : (g : ℕ) → g < length (take gs.count gs.list) → (get_or (take gs.count gs.list) g no_group).n < 2 ^ 8 =
      λ g l. (
      let below : g < gs.count = omega (arith, groups_there gs typed.groups_long t.few) in
      rw (get_or-take gs.count gs.list g no_group below) (omega (arith, (group_at_lem gs typed.groups_long t g below).few))) in
      record {
        groups = omega (arith, t.few);
        sizes = every_nth (λ (g : Group). g.n < 2 ^ 8) no_group (take gs.count gs.list) small;
        commands = omega (arith, a.short);
      }

  -- each command that is counted
  pub entry_at : (i : ℕ) → i < h.count → entry_number h.groups (get_or h.entries i no_entry) ≡ 0
  entry_at i more =
      let there = entries_there h typed a.short in
      rw (get_or-take h.count h.entries i no_entry more)
      at (every_at (λ e. entry_number h.groups e ≡ 0) no_entry (take h.count h.entries) a.entries i (omega arith))
