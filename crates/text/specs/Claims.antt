-- What holds of every text, and document 01's sheet, on either zero and with a change between them. Assumes nothing.
use Rattle.std.specs.Prelude.{◌≡◌, List, [], ◌∷◌, ◌++◌, ℕ, ◌+◌, length, take, drop}
use Rattle.sheet.specs.Bytes.{got}
use Rattle.sheet.specs.Sheet.{sheet}
use Rattle.sheet.specs.Claims.{longest_sheet, example_sheet, example_contents}
use Rattle.work.specs.Claims.{with_change}
use Rattle.layout.specs.Text.{text_of}

-- no text is longer, as `bench` says: 22 bytes for each of 1,000 commands and 146 for each of 64 groups
abbrev pub text_bound : ℕ
text_bound = 31344

-- "Output, whole": c 1 0 4; c 2 0 1; c 3 5 0; g 0 5 7 6 8
abbrev pub example_commands : List ℕ
example_commands =
    (99 ∷ 32 ∷ 49 ∷ 32 ∷ 48 ∷ 32 ∷ 52 ∷ 10 ∷ [])
    ++ (99 ∷ 32 ∷ 50 ∷ 32 ∷ 48 ∷ 32 ∷ 49 ∷ 10 ∷ [])
    ++ (99 ∷ 32 ∷ 51 ∷ 32 ∷ 53 ∷ 32 ∷ 48 ∷ 10 ∷ [])

abbrev pub example_text : List ℕ
example_text = example_commands ++ (103 ∷ 32 ∷ 48 ∷ 32 ∷ 53 ∷ 32 ∷ 55 ∷ 32 ∷ 54 ∷ 32 ∷ 56 ∷ 10 ∷ [])

-- document 02, request 7, of the same sheet: a third section names its group, which is left at rank 5. [1,2,3] has rank 4: g 0 1 7 6 8
abbrev pub example_sheet_new : List ℕ
example_sheet_new = example_sheet ++ (1 ∷ 0 ∷ [])

abbrev pub example_group_new : List ℕ
example_group_new = 103 ∷ 32 ∷ 48 ∷ 32 ∷ 49 ∷ 32 ∷ 55 ∷ 32 ∷ 54 ∷ 32 ∷ 56 ∷ 10 ∷ []

-- request 8: four commands instead of three, a kind 4 on group 0 behind the count. c 1 0 4; c 2 0 0; c 3 0 1; c 4 5 0; and the group as above
abbrev pub example_sheet_changed : List ℕ
example_sheet_changed = take 8 example_sheet ++ (4 ∷ 0 ∷ []) ++ take 6 (drop 10 example_sheet) ++ (4 ∷ 0 ∷ []) ++ drop 16 example_sheet

abbrev pub example_text_changed : List ℕ
example_text_changed =
    (99 ∷ 32 ∷ 49 ∷ 32 ∷ 48 ∷ 32 ∷ 52 ∷ 10 ∷ [])
    ++ (99 ∷ 32 ∷ 50 ∷ 32 ∷ 48 ∷ 32 ∷ 48 ∷ 10 ∷ [])
    ++ (99 ∷ 32 ∷ 51 ∷ 32 ∷ 48 ∷ 32 ∷ 49 ∷ 10 ∷ [])
    ++ (99 ∷ 32 ∷ 52 ∷ 32 ∷ 53 ∷ 32 ∷ 48 ∷ 10 ∷ [])
    ++ example_group_new

pub record Texts : Type 0 where
  pub example : text_of (sheet example_sheet) ≡ example_text
  -- "The g line prints the value"
  pub example_zeros : text_of (sheet example_sheet_new) ≡ example_commands ++ example_group_new
  -- "Kind 4, with a group byte and nothing more, does so, and its line shows 0 pushes"
  pub example_change : sheet example_sheet_changed ≡ got (with_change 1 0 example_contents) (length example_sheet_changed)
  pub example_changed : text_of (sheet example_sheet_changed) ≡ example_text_changed
  -- a sheet longer than the longest is faulty whatever follows: its first bytes have the same text
  pub decided : (s : List ℕ) → text_of (sheet (take (longest_sheet + 1) s)) ≡ text_of (sheet s)
