-- What a function is told of a sheet that it is handed: the ranges that the types give. Assumes nothing.
use mathlib.Core.Path.{◌≡◌}
use mathlib.Core.List.{List, [], ◌∷◌}
use Prim.Native.Nat.{◌^◌, ◌≤◌, ◌<◌}
use native.Mathlib.Omega.{arith}
use lib.ListN.{length, take}
use lib.Seq.{length-take-le}
use mir.Val.{Val}
use denote.Laws.{Is}
use denote.Shadow.{shadow}
use denote.Array.{each}
use denote.RattleType.{RattleType}
use denote.Builtin as builtin
use Rattle.theory.specs.Lists.{Every}
use Rattle.sheet.specs.declared.held.Action.{Action}
use Rattle.sheet.specs.declared.held.Action.TheVariants.{Count, Rewrite, Store, ChangeZero}
use Rattle.sheet.specs.declared.held.Group.{Group}
use Rattle.sheet.specs.declared.held.Groups.{Groups}
use Rattle.sheet.specs.declared.held.Entry.{Entry}
use Rattle.sheet.specs.declared.held.Sheet.{Sheet}
use Rattle.sheet.specs.contracts.held.Action as action
use Rattle.sheet.specs.contracts.held.Group as group
use Rattle.sheet.specs.contracts.held.Groups as groups
use Rattle.sheet.specs.contracts.held.Entry as entry
use Rattle.sheet.specs.contracts.held.Sheet as sheet
use Rattle.sheet.specs.Typed.{GroupTyped, ActionTyped, EntryTyped, SheetTyped}

-- what the type of a field tells of each value of an array
every_typed : (R : RattleType) (P : R.Denot → Type 0) → ((x : R.Denot) (vs : List Val) → Is R x vs → P x)
    → (xs : List R.Denot) (us : List Val) → shadow (each R.Denot R.own_val xs us) → Every P xs
every_typed R P tells [] us p = tt
every_typed R P tells (x ∷ xs) [] p = absurd p
every_typed R P tells (x ∷ xs) (u ∷ us) p = (tells x (u ∷ []) p.0, every_typed R P tells xs us p.1)

group_typed : (g : Group) (vs : List Val) → Is group.the_row g vs → GroupTyped g
group_typed g vs p =
    let levels = p.1.1.1.0 in
    record {
      long = levels.1.0.1;
      bits = every_typed builtin.u16 (λ l. l < 2 ^ 16) (λ l vs q. q.1) g.levels levels.0 levels.1.1;
    }

action_typed : (a : Action) (vs : List Val) → Is (action.the_field).row ((action.the_field).into a) vs → ActionTyped a
unfolding ActionTyped
action_typed (Count k) vs p = p.1.1.1.1.0.1
action_typed Rewrite vs p = tt
action_typed (Store m s) vs p = let numbers = p.1.1.1.1 in (numbers.0.1, numbers.1.0.1)
action_typed ChangeZero vs p = tt

entry_typed : (e : Entry) (vs : List Val) → Is entry.the_row e vs → EntryTyped e
entry_typed e vs p =
    let parts = p.1.1 in
    let command = parts.0.1.1 in
    let cells = parts.1.0.1.1.1.0 in
    record {
      group = command.0.1;
      action = action_typed e.command.action _ command.1.0;
      long = cells.1.0.1;
      bits = every_typed builtin.u8 (λ b. b < 2 ^ 8) (λ b vs q. q.1) e.target.cells cells.0 cells.1.1;
    }

pub groups_room : (gs : Groups) (vs : List Val) → Is groups.the_row gs vs → length gs.list ≡ 64
groups_room gs vs p = let list = p.1.1.1.0 in list.1.0.1

pub sheet_typed : (h : Sheet) (vs : List Val) → Is sheet.the_row h vs → SheetTyped h
sheet_typed h vs p =
    let parts = p.1.1 in
    let list = parts.0.1.1.1.0 in
    let zeros = parts.1.0 in
    let entries = parts.1.1.1.0 in
    record {
      groups_long = list.1.0.1;
      groups = every_typed group.the_row GroupTyped group_typed h.groups.list list.0 list.1.1;
      zeros_long = zeros.1.0.1;
      entries_long = entries.1.0.1;
      entries = every_typed entry.the_row EntryTyped entry_typed h.entries entries.0 entries.1.1;
    }

-- what is counted is there
pub groups_there : (gs : Groups) → length gs.list ≡ 64 → gs.count ≤ 64 → length (take gs.count gs.list) ≡ gs.count
groups_there gs long few = length-take-le gs.count gs.list (omega arith)

pub entries_there : (h : Sheet) → SheetTyped h → h.count ≤ 1000 → length (take h.count h.entries) ≡ h.count
entries_there h typed few = length-take-le h.count h.entries (omega (arith, typed.entries_long))
