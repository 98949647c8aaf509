-- What each meaning of the sheet is, by the tests that the code makes. Assumes nothing.
use mathlib.Core.Path.{◌≡◌}
use mathlib.Core.Bool.{true, false}
use mathlib.Core.List.{List, [], map}
use Prim.Native.Nat.{ℕ, ◌+◌, ◌*◌, ◌≤◌, ◌<◌}
use native.Mathlib.Nat.{add_assoc, one-mul}
use native.Mathlib.Omega.{arith}
use borrow.Author.Tests.{le-leb, lt-leb, lt-ltb, le-ltb, eq-eqb, ne_eqb}
use lib.ListN.{length, get_or, take, drop}
use Rattle.theory.specs.Reasons.{sized}
use Rattle.theory.specs.Levels as levels
use Rattle.theory.proofs.Cases.{by_le, by_test}
use Rattle.sheet.specs.Bytes.{Fault, missized, tied, ill_formed, fault, got, after, check, many, little}
use Rattle.sheet.specs.ZeroSection.{rising, named_groups, section, zeros_of, zeros_at}
use Rattle.sheet.specs.Sheet.{group, entry, count_at, rewrite_at, store_at, change_at, body_at, command, command_row, commands, sheet}
use Rattle.sheet.specs.Parts.{numbers}
use Rattle.sheet.specs.declared.held.Action.TheVariants.{Count, Rewrite, Store}
use Rattle.ranking.specs.declared.zero.Zero.{Zero}
use Rattle.sheet.specs.declared.held.Entry.{Entry}
use Rattle.sheet.proofs.ByteNumbers.{number_there, number_short, byte_there, row_there, row_short}

-- ---- a group

-- the n byte at a place, in its range
pub record Sized (s : List ℕ) (at n : ℕ) : Type 0 where
  pub here : at < length s
  pub is : n ≡ get_or s at 0
  pub some : 2 ≤ n
  pub few : n ≤ 20

module _ (s : List ℕ) (at : ℕ) where
  pub group_end : length s ≤ at → group s at ≡ fault ill_formed
  unfolding group after
  group_end h = rw (number_short s 1 at (omega arith))

  module _ (n : ℕ) (here : at < length s) (is : n ≡ get_or s at 0) where
    pub group_missized : sized n ≡ false → group s at ≡ fault missized
    unfolding group after check
    group_missized out = rw (byte_there s at here, ← is, out)

  module _ (n : ℕ) (size : Sized s at n) where
    pub group_short : length s < at + 1 + 2 * n → group s at ≡ fault ill_formed
    unfolding group after check
    group_short short =
        rw (byte_there s at size.here, ← size.is, le-leb _ _ size.some, le-leb _ _ size.few, row_short s 2 n (at + 1) (omega arith) short)

    module _ (there : at + 1 + 2 * n ≤ length s) (L : List ℕ) (are : L ≡ numbers 2 n s (at + 1)) where
      pub group_tied : levels.tied L ≡ true → group s at ≡ fault tied
      unfolding group after check
      group_tied t =
          rw (byte_there s at size.here, ← size.is, le-leb _ _ size.some, le-leb _ _ size.few, row_there s 2 n (at + 1) there, ← are, t)

      pub group_there : levels.tied L ≡ false → group s at ≡ got (numbers 2 n s (at + 1)) (at + 1 + 2 * n)
      unfolding group after check
      group_there t =
          rw (byte_there s at size.here, ← size.is, le-leb _ _ size.some, le-leb _ _ size.few, row_there s 2 n (at + 1) there, ← are, t)

-- ---- what follows the kind and the group number of a command

module _ (g : ℕ) (s : List ℕ) (at : ℕ) where
  pub count_short : length s < at + 4 → count_at g s at ≡ fault ill_formed
  unfolding count_at after
  count_short h = rw (number_short s 4 at h)

  pub count_there : at + 4 ≤ length s → count_at g s at ≡ got (entry g (Count (little (take 4 (drop at s)))) []) (at + 4)
  unfolding count_at after
  count_there h = rw (number_there s 4 at h)

  pub store_short : length s < at + 16 → store_at g s at ≡ fault ill_formed
  unfolding store_at after
  store_short h =
      by_le (at + 8) (length s)
      (λ first. rw (number_there s 8 at first, number_short s 8 (at + 8) (omega arith)))
      (λ none. rw (number_short s 8 at none))

  pub store_there : at + 16 ≤ length s
      → store_at g s at ≡ got (entry g (Store (little (take 8 (drop at s))) (little (take 8 (drop (at + 8) s)))) []) (at + 16)
  unfolding store_at after
  store_there h = rw (number_there s 8 at (omega arith), number_there s 8 (at + 8) (omega arith), add_assoc)

  module _ (n : ℕ) where
    pub rewrite_short : at ≤ length s → length s < at + n → rewrite_at g n s at ≡ fault ill_formed
    unfolding rewrite_at after
    rewrite_short le h = rw (row_short s 1 n at le (omega arith))

    pub rewrite_there : at + n ≤ length s → rewrite_at g n s at ≡ got (entry g Rewrite (numbers 1 n s at)) (at + n)
    unfolding rewrite_at after
    rewrite_there h = rw (row_there s 1 n at (omega arith), one-mul)

module _ (kind g n : ℕ) (s : List ℕ) (at : ℕ) where
  pub body_count : kind ≡ 1 → body_at kind g n s at ≡ count_at g s at
  unfolding body_at
  body_count e = rw e

  pub body_rewrite : kind ≡ 2 → body_at kind g n s at ≡ rewrite_at g n s at
  unfolding body_at
  body_rewrite e = rw e

  pub body_store : kind ≡ 3 → body_at kind g n s at ≡ store_at g s at
  unfolding body_at
  body_store e = rw e

  pub body_change : kind ≡ 4 → body_at kind g n s at ≡ change_at g s at
  unfolding body_at
  body_change e = rw e

  pub body_none : (kind ≡ 1 → ⊥) → (kind ≡ 2 → ⊥) → (kind ≡ 3 → ⊥) → (kind ≡ 4 → ⊥) → body_at kind g n s at ≡ fault ill_formed
  unfolding body_at
  body_none a b d e = rw (ne_eqb _ _ a, ne_eqb _ _ b, ne_eqb _ _ d, ne_eqb _ _ e)

-- ---- a command

module _ (sizes s : List ℕ) (at : ℕ) where
  command_end : length s ≤ at → command sizes s at ≡ fault ill_formed
  unfolding command after
  command_end h = rw (number_short s 1 at (omega arith))

  module _ (here : at < length s) where
    command_half : length s ≤ at + 1 → command sizes s at ≡ fault ill_formed
    unfolding command after
    command_half h = rw (byte_there s at here, number_short s 1 (at + 1) (omega arith))

    module _ (there : at + 1 < length s) where
      pub command_stray : length sizes ≤ get_or s (at + 1) 0 → command sizes s at ≡ fault ill_formed
      unfolding command after check
      command_stray h = rw (byte_there s at here, byte_there s (at + 1) there, le-ltb _ _ h)

      pub command_body : get_or s (at + 1) 0 < length sizes
          → command sizes s at ≡ body_at (get_or s at 0) (get_or s (at + 1) 0) (get_or sizes (get_or s (at + 1) 0) 0) s (at + 1 + 1)
      unfolding command after check
      command_body h = rw (byte_there s at here, byte_there s (at + 1) there, lt-ltb _ _ h)

  -- without a byte for the kind and one for the group
  pub command_short : length s < at + 2 → command sizes s at ≡ fault ill_formed
  command_short h = by_le (length s) at (λ none. command_end none) (λ kind. command_half kind (omega arith))

-- ---- the zeros

module _ (G : ℕ) (s : List ℕ) (at : ℕ) where
  pub zeros_none : at ≡ length s → zeros_at G s at ≡ got (zeros_of G []) at
  unfolding zeros_at section after check
  zeros_none e = rw (eq-eqb at (length s) e, eq-eqb at (length s) e)

  pub zeros_beyond : length s < at → zeros_at G s at ≡ fault ill_formed
  unfolding zeros_at section named_groups after
  zeros_beyond h = rw (ne_eqb at (length s) (λ e. omega arith), number_short s 1 at (omega arith))

  module _ (n : ℕ) (here : at < length s) (is : n ≡ get_or s at 0) where
    pub zeros_few : n < 1 → zeros_at G s at ≡ fault ill_formed
    unfolding zeros_at section named_groups after check
    zeros_few h = rw (ne_eqb at (length s) (λ e. omega arith), byte_there s at here, ← is, lt-leb _ _ h)

    module _ (some : 1 ≤ n) where
      pub zeros_many : G < n → zeros_at G s at ≡ fault ill_formed
      unfolding zeros_at section named_groups after check
      zeros_many h = rw (ne_eqb at (length s) (λ e. omega arith), byte_there s at here, ← is, le-leb _ _ some, lt-leb _ _ h)

      module _ (few : n ≤ G) where
        -- an early end, or bytes after the last number
        pub zeros_unended : (length s ≡ at + 1 + n → ⊥) → zeros_at G s at ≡ fault ill_formed
        unfolding zeros_at section named_groups after check
        zeros_unended ne =
            rw (ne_eqb at (length s) (λ e. omega arith), byte_there s at here, ← is, le-leb _ _ some, le-leb _ _ few)
            (by_le (at + 1 + 1 * n) (length s)
            (λ there.
            rw (row_there s 1 n (at + 1) there) (by_test (rising G 0 (numbers 1 n s (at + 1)))
            (λ t. rw (t, ne_eqb (at + 1 + 1 * n) (length s) (λ e. ne (omega arith))))
            (λ t. rw t)))
            (λ short. rw (row_short s 1 n (at + 1) (omega arith) short)))

        pub zeros_row : length s ≡ at + 1 + n
            → zeros_at G s at ≡ check (rising G 0 (numbers 1 n s (at + 1))) ill_formed (got (zeros_of G (numbers 1 n s (at + 1))) (at + 1 + 1 * n))
        unfolding zeros_at section named_groups after check
        zeros_row long =
            rw (ne_eqb at (length s) (λ e. omega arith), byte_there s at here, ← is, le-leb _ _ some, le-leb _ _ few, row_there s 1 n (at + 1) (omega arith))
            (by_test (rising G 0 (numbers 1 n s (at + 1)))
            (λ t. rw (t, eq-eqb (at + 1 + 1 * n) (length s) (omega arith)))
            (λ t. rw t))

-- ---- the commands

module _ (groups : List (List ℕ)) (s : List ℕ) (at : ℕ) where
  module _ (n : ℕ) where
    pub row_fault : (f : Fault) → many n (command (map length groups) s) at ≡ fault f → command_row groups n s at ≡ fault f
    unfolding command_row after
    row_fault f bad = rw bad

    module _ (entries : List Entry) (next : ℕ) (good : many n (command (map length groups) s) at ≡ got entries next) where
      pub row_bad : (f : Fault) → zeros_at (length groups) s next ≡ fault f → command_row groups n s at ≡ fault f
      unfolding command_row after
      row_bad f bad = rw (good, bad)

      pub row_ends : (zeros : List Zero) (end : ℕ) → zeros_at (length groups) s next ≡ got zeros end
          → command_row groups n s at ≡ got (record { groups = groups; zeros = zeros; entries = entries }) end
      unfolding command_row after
      row_ends zeros end read = rw (good, read)

  pub commands_short : length s < at + 2 → commands groups s at ≡ fault ill_formed
  unfolding commands after
  commands_short h = rw (number_short s 2 at h)

  module _ (n : ℕ) (there : at + 2 ≤ length s) (e : n ≡ little (take 2 (drop at s))) where
    pub commands_many : 1000 < n → commands groups s at ≡ fault ill_formed
    unfolding commands after check
    commands_many h = rw (number_there s 2 at there, ← e, lt-leb _ _ h)

    pub commands_row : n ≤ 1000 → commands groups s at ≡ command_row groups n s (at + 2)
    unfolding commands after check
    commands_row h = rw (number_there s 2 at there, ← e, le-leb _ _ h)

-- ---- the sheet

module _ (s : List ℕ) where
  pub sheet_none : length s ≡ 0 → sheet s ≡ fault ill_formed
  unfolding sheet after
  sheet_none h = rw (number_short s 1 0 (omega arith))

  module _ (n : ℕ) (here : 0 < length s) (e : n ≡ get_or s 0 0) where
    pub sheet_few : n < 1 → sheet s ≡ fault ill_formed
    unfolding sheet after check
    sheet_few h = rw (byte_there s 0 here, ← e, lt-leb _ _ h)

    module _ (some : 1 ≤ n) where
      pub sheet_many : 64 < n → sheet s ≡ fault ill_formed
      unfolding sheet after check
      sheet_many h = rw (byte_there s 0 here, ← e, le-leb _ _ some, lt-leb _ _ h)

      module _ (few : n ≤ 64) where
        pub sheet_fault : (f : Fault) → many n (group s) 1 ≡ fault f → sheet s ≡ fault f
        unfolding sheet after check
        sheet_fault f bad = rw (byte_there s 0 here, ← e, le-leb _ _ some, le-leb _ _ few, bad)

        pub sheet_groups : (groups : List (List ℕ)) (end : ℕ) → many n (group s) 1 ≡ got groups end → sheet s ≡ commands groups s end
        unfolding sheet after check
        sheet_groups groups end good = rw (byte_there s 0 here, ← e, le-leb _ _ some, le-leb _ _ few, good)
