-- Document 02, request 2: "What was written must be read again as the same groups and commands, and an accepted sheet, read and written, must have equal bytes."
-- Assumes nothing.
use Rattle.std.specs.Prelude.{◌≡◌, true, List, ℕ, ◌^◌, ◌≤◌, ◌<◌, length, get_or, take}
use Rattle.theory.specs.Lists.{Every}
use Rattle.sheet.specs.Bytes.{Fault, number_of, fault, got}
use Rattle.ranking.specs.declared.zero.Zero.TheVariants.{Old}
use Rattle.sheet.specs.Sheet.{Contents, sheet}
use Rattle.sheet.specs.Held.{no_group, no_entry, held_of, levels_of}
use Rattle.sheet.specs.Claims.{longest_sheet, example_sheet, example_contents}
use Rattle.sheet.specs.Typed.{Bits, SheetTyped}
use Rattle.sheet.specs.declared.held.Group.{Group}
use Rattle.sheet.specs.declared.held.Sheet.{Sheet}
use Rattle.encoding.specs.CommandKinds.{targeted}
use Rattle.encoding.specs.SheetBytes.{sheet_bytes}
use Rattle.encoding.specs.Said.{said}
use Rattle.encoding.specs.Faults.{sheet_number}

-- k has "the same groups and commands" as h, a group with its zero. A target is compared beside a command that has one, and beside no other
pub record Same (h k : Sheet) : Type 0 where
  pub groups : k.groups.count ≡ h.groups.count
  pub sizes : (g : ℕ) → g < h.groups.count → (get_or k.groups.list g no_group).n ≡ (get_or h.groups.list g no_group).n
  pub levels : (g : ℕ) → g < h.groups.count → levels_of (get_or k.groups.list g no_group) ≡ levels_of (get_or h.groups.list g no_group)
  pub zeros : (g : ℕ) → g < h.groups.count → get_or k.zeros g Old ≡ get_or h.zeros g Old
  pub count : k.count ≡ h.count
  pub commands : (i : ℕ) → i < h.count → (get_or k.entries i no_entry).command ≡ (get_or h.entries i no_entry).command
  pub targets : (i : ℕ) → i < h.count → targeted (get_or h.entries i no_entry).command.action ≡ true
      → (get_or k.entries i no_entry).target ≡ (get_or h.entries i no_entry).target

-- counts and sizes that fit the bytes which they would have on a sheet
pub record CountsFit (h : Sheet) : Type 0 where
  pub groups : h.groups.count < 2 ^ 8
  pub sizes : Every (λ (g : Group). g.n < 2 ^ 8) (take h.groups.count h.groups.list)
  pub commands : h.count < 2 ^ 16

-- of every held sheet, and of every sheet of bytes
pub record Writing : Type 0 where
  -- "What was written must be read again as the same groups and commands"
  pub read_again : (h : Sheet) → SheetTyped h → sheet_number h ≡ 0 → sheet (sheet_bytes h) ≡ got (said h) (length (sheet_bytes h))
  pub same : (h : Sheet) → SheetTyped h → sheet_number h ≡ 0 → Same h (held_of (said h))
  -- "an accepted sheet, read and written, must have equal bytes": what was read is not refused, says what it was read as, and has the bytes that were read
  pub accepted : (s : List ℕ) (c : Contents) (end : ℕ) → sheet s ≡ got c end → sheet_number (held_of c) ≡ 0
  pub says : (s : List ℕ) (c : Contents) (end : ℕ) → sheet s ≡ got c end → said (held_of c) ≡ c
  pub written_again : (s : List ℕ) → Bits 8 s → (c : Contents) (end : ℕ) → sheet s ≡ got c end → sheet_bytes (held_of c) ≡ s
  -- "Groups and commands that no sheet could hold are sent back", and no others: what a sheet of bytes holds is not refused, nor do things count that none holds
  pub only : (h : Sheet) → SheetTyped h → (s : List ℕ) (c : Contents) (end : ℕ) → sheet s ≡ got c end → Same h (held_of c) → sheet_number h ≡ 0
  pub unsaid : (h k : Sheet) → SheetTyped h → SheetTyped k → Same h k → sheet_number k ≡ sheet_number h
  -- "by the number that reading would give": the fault that its bytes have. A count above 255 has no byte, so counts that fit are asked for
  pub faults : (h : Sheet) → SheetTyped h → CountsFit h → (f : Fault) → sheet_number h ≡ number_of f → sheet (sheet_bytes h) ≡ fault f
  pub short : (h : Sheet) → SheetTyped h → sheet_number h ≡ 0 → length (sheet_bytes h) ≤ longest_sheet
  -- document 01's sheet, "Input bytes", from what it says
  pub example : sheet_bytes (held_of example_contents) ≡ example_sheet
