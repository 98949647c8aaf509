-- What `write_sheet` answered beside what `read_sheet` answers: `encoding: specs/Claims`, of the values returned. Assumes nothing.
use Rattle.std.specs.Prelude.{◌≡◌, List, ℕ, ◌≤◌, length, take}
use Rattle.sheet.specs.Sheet.{sheet}
use Rattle.sheet.specs.Held.{held_of, sheet_answer}
use Rattle.sheet.specs.Claims.{longest_sheet}
use Rattle.sheet.specs.Typed.{Bits}
use Rattle.sheet.specs.declared.held.Sheet.{Sheet}
use Rattle.encoding.specs.Said.{said}
use Rattle.encoding.specs.Faults.{sheet_number}
use Rattle.encoding.specs.Claims.{Same}
use Rattle.writer.specs.declared.answers.Written.{Written}

-- what was answered for h, and what was left of the list `out`, beside what `read_sheet` answers
pub record RoundTrips (h : Sheet) (out : List ℕ) (r : Written) (left : List ℕ) : Type 0 where
  -- what was written is read without fault, as what h says
  pub read : r.number ≡ 0 → sheet_answer (sheet (take r.length left)) ≡ record { number = 0; sheet = held_of (said h) }
  -- and that is the same groups and commands
  pub same : r.number ≡ 0 → Same h (held_of (said h))
  -- it is h itself where h was read
  pub itself : (s : List ℕ) → sheet_answer (sheet s) ≡ record { number = 0; sheet = h } → r.number ≡ 0
      → sheet_answer (sheet (take r.length left)) ≡ record { number = 0; sheet = h }
  -- a sheet that was read as h is written again, byte by byte, wherever there is room for it
  pub again : (s : List ℕ) → Bits 8 s → sheet_answer (sheet s) ≡ record { number = 0; sheet = h } → length s ≤ length out
      → (r.number ≡ 0) × (r.length ≡ length s) × (take r.length left ≡ s)
  -- a list for the longest sheet is never too short
  pub room : longest_sheet ≤ length out → r.number ≡ sheet_number h
