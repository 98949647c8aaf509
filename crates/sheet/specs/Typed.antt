-- What the types of a held sheet say of it: how long its rows are, and what levels, names and the numbers of commands fit. Counts and each n are any numbers.
-- Assumes nothing.
use Rattle.std.specs.Prelude.{◌≡◌, List, ℕ, ◌^◌, ◌<◌, length}
use Rattle.theory.specs.Lists.{Every}
use Rattle.sheet.specs.declared.held.Action.{Action}
use Rattle.sheet.specs.declared.held.Action.TheVariants.{Count, Rewrite, Store, ChangeZero}
use Rattle.sheet.specs.declared.held.Group.{Group}
use Rattle.sheet.specs.declared.held.Entry.{Entry}
use Rattle.sheet.specs.declared.held.Sheet.{Sheet}

-- numbers of k bits
abbrev pub Bits : ℕ → List ℕ → Type 0
Bits k xs = Every (λ x. x < 2 ^ k) xs

pub record GroupTyped (g : Group) : Type 0 where
  pub long : length g.levels ≡ 20
  pub bits : Bits 16 g.levels

unfoldable pub ActionTyped : Action → Type 0
ActionTyped (Count k) = k < 2 ^ 32
ActionTyped Rewrite = Unit {0}
ActionTyped (Store m s) = (m < 2 ^ 64) × (s < 2 ^ 64)
ActionTyped ChangeZero = Unit {0}

pub record EntryTyped (e : Entry) : Type 0 where
  pub group : e.command.group < 2 ^ 8
  pub action : ActionTyped e.command.action
  pub long : length e.target.cells ≡ 20
  pub bits : Bits 8 e.target.cells

pub record SheetTyped (h : Sheet) : Type 0 where
  pub groups_long : length h.groups.list ≡ 64
  pub groups : Every GroupTyped h.groups.list
  pub zeros_long : length h.zeros ≡ 64
  pub entries_long : length h.entries ≡ 1000
  pub entries : Every EntryTyped h.entries
