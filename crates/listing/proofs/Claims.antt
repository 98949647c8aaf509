-- What the lists hold, kind by kind; document 01's sheet, by computing. Assumes nothing.
use mathlib.Core.Path.{◌≡◌, refl}
use Prim.Native.Nat.{ℕ}
use native.Mathlib.Omega.{arith}
use borrow.Author.Tests.{le-leb}
use Rattle.ranking.specs.Zeros.{numbered_zero}
use Rattle.sheet.specs.Typed.{ActionTyped}
use Rattle.sheet.specs.declared.held.Action.{Action}
use Rattle.sheet.specs.declared.held.Action.TheVariants.{Count, Rewrite, Store, ChangeZero}
use Rattle.encoding.specs.CommandKinds.{kind_of, targeted}
use Rattle.encoding.specs.Said.{said}
use Rattle.listing.specs.LentLists.{count_of, command_of, held_in}
use Rattle.listing.specs.Claims.{first_number, second_number, Listing}

command_is : (g n : ℕ) (a : Action) → ActionTyped a → command_of (kind_of a) g (first_number n a) (second_number a) ≡ record { group = g; action = a }
unfolding command_of count_of kind_of first_number second_number ActionTyped
command_is g n (Count k) typed = rw (le-leb k 4294967295 (omega (arith, typed)))
command_is g n Rewrite typed = refl
command_is g n (Store m s) typed = refl
command_is g n ChangeZero typed = refl

pub listing : Listing
unfolding said held_in numbered_zero command_of count_of targeted
listing = record { commands = command_is; example = refl }
