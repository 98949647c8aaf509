-- Document 01, "one of three kinds", and document 02, "Kind 4": what each kind of command has on a sheet. A kind is added here, with a line to each definition.
-- Assumes nothing.
use Rattle.std.specs.Prelude.{Bool, true, false, ℕ}
use mathlib.Core.List.{List, [], ◌++◌, flat_map}
use Rattle.sheet.specs.Bytes.{bytes_of}
use Rattle.sheet.specs.declared.held.Action.{Action}
use Rattle.sheet.specs.declared.held.Action.TheVariants.{Count, Rewrite, Store, ChangeZero}

-- "Kind 1 is count up [..] Kind 2 is rewrite [..] Kind 3 is store"; kind 4 moves to the new zero
unfoldable pub kind_of : Action → ℕ
kind_of (Count k) = 1
kind_of Rewrite = 2
kind_of (Store m s) = 3
kind_of ChangeZero = 4

-- does a kind have a target? "rewrite, with n names", and no other
unfoldable pub targeted : Action → Bool
targeted (Count k) = false
targeted Rewrite = true
targeted (Store m s) = false
targeted ChangeZero = false

-- what follows the group byte: "k in four bytes", "n names", a byte each, "m and s in eight bytes each", or "nothing more"
unfoldable pub body_bytes : Action → List ℕ → List ℕ
body_bytes (Count k) names = bytes_of 4 k
body_bytes Rewrite names = flat_map (bytes_of 1) names
body_bytes (Store m s) names = bytes_of 8 m ++ bytes_of 8 s
body_bytes ChangeZero names = []
