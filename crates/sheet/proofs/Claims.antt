-- What holds of every sheet, and what document 01's sheet says. Assumes nothing.
use mathlib.Core.Path.{refl}
use Rattle.sheet.specs.Bytes.{after, check, many, little, number}
use Rattle.sheet.specs.ZeroSection.{section, zeros_of, zeros_at}
use Rattle.sheet.specs.Sheet.{group, count_at, rewrite_at, store_at, body_at, command, command_row, commands, sheet}
use Rattle.sheet.specs.Claims.{Sheets}
use Rattle.sheet.proofs.Valid.{valid}
use Rattle.sheet.proofs.InMemory.{contents_back}
use Rattle.sheet.proofs.Longest.{longest, decided}

pub sheets : Sheets
unfolding sheet after number check little many group commands command_row zeros_at section zeros_of command body_at count_at rewrite_at store_at
sheets = record { valid = λ s c end e. (valid s c end e).0; held = contents_back; longest = longest; decided = decided; example = refl }
