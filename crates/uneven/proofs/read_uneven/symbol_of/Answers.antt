-- `uneven::read_uneven::symbol_of` meets its contract: the permutation's number lies in the block of one prefix, or in none. Assumes nothing.
use mathlib.Core.Path.{◌∙◌}
use native.Mathlib.Omega.{arith}
use borrow.Author.Rules.{rules}
use Rattle.permutation.proofs.Records.{Sound, sound}
use Rattle.permutation.proofs.Refusals.{not_done}
use Rattle.permutation.proofs.Checking.{check_number}
use Rattle.symbols.proofs.Symbols.{row_spots}
use Rattle.uneven.proofs.Booking.{length_short}
use Rattle.uneven.proofs.SymbolLed.{read_idle, read_found}
use Rattle.uneven.proofs.read_uneven.symbol_of.Goals as goal
use Rattle.uneven.proofs.read_uneven.symbol_of.Goals.{Start}

is-sound : (c : Start) → Sound c.args.permutation
is-sound c = sound c.args.permutation (search rules) c.requires.1

-- the check of a permutation is not refused
pub returns-in_err-spots : goal.returns-in_err-spots
returns-in_err-spots c = absurd (not_done c.in_err-spots.field-0.0 (check_number _ c.in_err-spots.ensures ∙ c.requires.1))

pub prefix_number-number-requires : goal.prefix_number-number-requires
prefix_number-number-requires c =
    row_spots (is-sound (goal.at.prefix_number-number-requires c).Start) (search rules) c.in_ok-spots.ensures (omega arith)

pub leading_index-requires : goal.leading_index-requires
leading_index-requires c =
    let v = c.requires.0 in
    (v.many, v.most, λ i h. omega (arith, length_short v c.new-book.ensures i h))

pub returns-in_default : goal.returns-in_default
returns-in_default c =
    read_idle c.requires.0 c.new-book.ensures (is-sound (goal.at.returns-in_default c).Start).permutation c.prefix_number-number.ensures c.in_default.ensures.index (omega arith)

pub returns : goal.returns
returns c =
    read_found c.requires.0 c.new-book.ensures (is-sound (goal.at.returns c).Start).permutation c.prefix_number-number.ensures c.in-Some.ensures.index c.in-Some.ensures.found c.from.ensures
