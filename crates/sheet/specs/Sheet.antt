-- Document 01, "The bench sheet": what its bytes say, or the first fault met; with the zeros of document 02, request 7, and the kind of request 8. Assumes nothing.
use Rattle.std.specs.Prelude.{not, cond, ◌&&◌, List, [], map, ℕ, eqb, leb, ltb, length, get_or}
use Rattle.theory.specs.Reasons.{sized}
use Rattle.theory.specs.Levels as levels
use Rattle.permutation.specs.Records.{record_of}
use Rattle.sheet.specs.Bytes.{missized, tied, ill_formed, Got, fault, got, after, check, many, number}
use Rattle.sheet.specs.ZeroSection.{zeros_at}
use Rattle.sheet.specs.declared.held.Action.{Action}
use Rattle.sheet.specs.declared.held.Action.TheVariants.{Count, Rewrite, Store, ChangeZero}
use Rattle.ranking.specs.declared.zero.Zero.{Zero}
use Rattle.sheet.specs.declared.held.Entry.{Entry}

-- "Each has n in one byte, then n levels of two bytes"; "size is judged at the n byte and a tie after the group's last level". A group is its list of levels
unfoldable pub group : List ℕ → ℕ → Got (List ℕ)
group s at =
    after (number 1 s at) (λ n next.
    check (sized n) missized
    (after (many n (number 2 s) next) (λ L end.
    check (not (levels.tied L)) tied
    (got L end))))

-- "Each command carries its group number and one of three kinds", and document 02 adds a fourth; a rewrite's names are held beside them, and the other kinds have none
abbrev pub entry : ℕ → Action → List ℕ → Entry
entry g action names = record { command = record { group = g; action = action }; target = record_of names }

-- "Kind 1 is count up, with k in four bytes."
unfoldable pub count_at : ℕ → List ℕ → ℕ → Got Entry
count_at g s at = after (number 4 s at) (λ k end. got (entry g (Count k) []) end)

-- "Kind 2 is rewrite, with n names": a byte each, as many as the group has cells
unfoldable pub rewrite_at : ℕ → ℕ → List ℕ → ℕ → Got Entry
rewrite_at g n s at = after (many n (number 1 s) at) (λ names end. got (entry g Rewrite names) end)

-- "Kind 3 is store, with m and s in eight bytes each."
unfoldable pub store_at : ℕ → List ℕ → ℕ → Got Entry
store_at g s at = after (number 8 s at) (λ m next. after (number 8 s next) (λ symbol end. got (entry g (Store m symbol) []) end))

-- document 02: "Kind 4, with a group byte and nothing more"
unfoldable pub change_at : ℕ → List ℕ → ℕ → Got Entry
change_at g s at = got (entry g ChangeZero []) at

-- what follows the kind and the group number of a group of n cells; a kind "outside its range" is ill-formed
unfoldable pub body_at : ℕ → ℕ → ℕ → List ℕ → ℕ → Got Entry
body_at kind g n s at =
    cond (eqb kind 1) (count_at g s at)
    (cond (eqb kind 2) (rewrite_at g n s at)
    (cond (eqb kind 3) (store_at g s at)
    (cond (eqb kind 4) (change_at g s at)
    (fault ill_formed))))

-- "the kind byte comes first, then the group byte (0 to G - 1)". `sizes` has the n of each group, and so G is its length. All faults from here on have one
-- number, so that the kind may be judged after the group number
unfoldable pub command : List ℕ → List ℕ → ℕ → Got Entry
command sizes s at =
    after (number 1 s at) (λ kind next.
    after (number 1 s next) (λ g body.
    check (ltb g (length sizes)) ill_formed
    (body_at kind g (get_or sizes g 0) s body)))

-- what a sheet without fault says; the zeros are those on which the groups start, by group number
pub record Contents : Type 0 where
  pub groups : List (List ℕ)
  pub zeros : List Zero
  pub entries : List Entry

-- the commands in a row, and then the zeros, to the end of the sheet
unfoldable pub command_row : List (List ℕ) → ℕ → List ℕ → ℕ → Got Contents
command_row groups count s at =
    after (many count (command (map length groups) s) at) (λ entries next.
    after (zeros_at (length groups) s next) (λ zeros end.
    got (record { groups = groups; zeros = zeros; entries = entries }) end))

-- "Commands: count in two bytes, 0 to 1,000."
unfoldable pub commands : List (List ℕ) → List ℕ → ℕ → Got Contents
commands groups s at =
    after (number 2 s at) (λ count next.
    check (leb count 1000) ill_formed
    (command_row groups count s next))

-- "Groups: count G in one byte, 1 to 64."; then the commands, "sections in this sequence, each after its count"
unfoldable pub sheet : List ℕ → Got Contents
sheet s =
    after (number 1 s 0) (λ count next.
    check (leb 1 count && leb count 64) ill_formed
    (after (many count (group s) next) (λ groups at.
    commands groups s at)))
