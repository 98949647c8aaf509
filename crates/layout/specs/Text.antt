-- The printed text, as the list of its ASCII codes. Assumes nothing.
use Rattle.std.specs.Prelude.{List, [], ◌∷◌, ◌++◌, ℕ, suc, ◌^◌, ltb}
use Rattle.theory.specs.Least.{least}
use Rattle.charge.specs.declared.answers.Pushes.{Pushes}
use Rattle.io.specs.Digits.{last_digits}
use Rattle.sheet.specs.Bytes.{Got, fault, got, number_of}
use Rattle.sheet.specs.Sheet.{Contents}
use Rattle.work.specs.Work.{answers_of, groups_left, values_left}

abbrev pub space : ℕ
space = 32

abbrev pub newline : ℕ
newline = 10

-- how many digits a number has: one more than the least k for which it is below 10^(k+1), so that 0 has one
unfoldable pub places : ℕ → ℕ
places n = suc (least (λ k. ltb n (10 ^ suc k)) n)

-- "in decimal", without zeros in front
unfoldable pub decimal : ℕ → List ℕ
decimal n = last_digits 10 (places n) n

-- "fields parted by one space": every field but a line's first stands after one
abbrev pub field : ℕ → List ℕ
field x = space ∷ decimal x

abbrev pub fields : List ℕ → List ℕ
fields [] = []
fields (x ∷ xs) = field x ++ fields xs

-- a letter and numbers; "a newline after every line"
unfoldable pub line : ℕ → List ℕ → List ℕ
line letter xs = letter ∷ (fields xs ++ newline ∷ [])

-- "A faulty sheet gives one line: s, number." 115 is s
unfoldable pub fault_line : ℕ → List ℕ
fault_line number = line 115 (number ∷ [])

-- "each command has: c, its place from 1, number, pushes done". 99 is c
unfoldable pub command_line : ℕ → Pushes → List ℕ
command_line place a = line 99 (place ∷ a.number ∷ a.pushes ∷ [])

-- the lines of commands, the first of which has this place
unfoldable pub command_lines : ℕ → List Pushes → List ℕ
command_lines place [] = []
command_lines place (a ∷ rest) = command_line place a ++ command_lines (suc place) rest

-- "each group has: g, group number, rank, levels by name"; document 02, request 7: "The g line prints the value", in the rank's place. 103 is g
unfoldable pub group_line : ℕ → ℕ → List ℕ → List ℕ
group_line g value L = line 103 (g ∷ value ∷ L)

-- the lines of groups, each with its value, the first of which has this number
unfoldable pub group_lines : ℕ → List ℕ → List (List ℕ) → List ℕ
group_lines g (value ∷ values) (L ∷ rest) = group_line g value L ++ group_lines (suc g) values rest
group_lines g [] groups = []
group_lines g (value ∷ values) [] = []

-- "Otherwise each command has [..] Then each group has [..]"; "Only a sheet without fault starts work."
unfoldable pub text_of : Got Contents → List ℕ
text_of (fault f) = fault_line (number_of f)
text_of (got c end) = command_lines 1 (answers_of c) ++ group_lines 0 (values_left c) (groups_left c)
