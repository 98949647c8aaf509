-- What the lists hold: each command as its kind and numbers say, and document 01's sheet. Assumes nothing.
use Rattle.std.specs.Prelude.{◌≡◌, [], ◌∷◌, ◌++◌, ℕ, replicate}
use Rattle.sheet.specs.Claims.{example_contents}
use Rattle.sheet.specs.Typed.{ActionTyped}
use Rattle.sheet.specs.declared.held.Action.{Action}
use Rattle.sheet.specs.declared.held.Action.TheVariants.{Count, Rewrite, Store, ChangeZero}
use Rattle.encoding.specs.CommandKinds.{kind_of}
use Rattle.encoding.specs.Said.{said}
use Rattle.listing.specs.LentLists.{LentLists, lists, command_of, held_in}

-- a command's two numbers in the lists: "k", a target's n, "m and s"
unfoldable pub first_number : ℕ → Action → ℕ
first_number n (Count k) = k
first_number n Rewrite = n
first_number n (Store m s) = m
first_number n ChangeZero = 0

unfoldable pub second_number : Action → ℕ
second_number (Count k) = 0
second_number Rewrite = 0
second_number (Store m s) = s
second_number ChangeZero = 0

-- document 01's "Input bytes", as lists
abbrev pub example_lists : LentLists
example_lists =
    lists (3 ∷ []) (3 ∷ 1 ∷ 2 ∷ replicate 17 0) (0 ∷ []) (1 ∷ 2 ∷ 3 ∷ []) (0 ∷ 0 ∷ 0 ∷ []) (4 ∷ 0 ∷ 3 ∷ 0 ∷ 3 ∷ 3 ∷ [])
    (replicate 20 0 ++ (3 ∷ 1 ∷ 2 ∷ replicate 17 0) ++ replicate 20 0)

pub record Listing : Type 0 where
  pub commands : (g n : ℕ) (a : Action) → ActionTyped a → command_of (kind_of a) g (first_number n a) (second_number a) ≡ record { group = g; action = a }
  pub example : said (held_in example_lists) ≡ example_contents
