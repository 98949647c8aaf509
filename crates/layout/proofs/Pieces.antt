-- The rows of the text, as pieces: fields, and the lines of commands and of groups, with their values. Assumes nothing.
use mathlib.Core.Path.{◌≡◌, refl}
use mathlib.Core.List.{List, [], ◌∷◌, ◌++◌, zip_with}
use Prim.Native.Nat.{ℕ, suc, ◌+◌, ◌≤◌, ◌<◌}
use native.Mathlib.Nat.{add-zero}
use lib.ListN.{length, get_or, take}
use Rattle.sheet.specs.Held.{levels_of, groups_in}
use Rattle.sheet.specs.Standing.{GroupsHeld}
use Rattle.sheet.specs.declared.held.Group.{Group}
use Rattle.work.specs.declared.answers.Outcome.{Outcome}
use Rattle.work.proofs.Zipped.{beside_count, beside_at}
use Rattle.sheet.specs.Putting.{Puts}
use Rattle.layout.specs.Text.{newline, line, field, fields, command_line, command_lines, group_line, group_lines}
use Rattle.sheet.proofs.Putting.{Grows, grows, puts_then}

pub fields_grow : Grows fields (λ i. field)
fields_grow = grows (λ p. field) (λ p. fields) (λ p. refl) (λ p x xs. refl) 0

pub commands_grow : Grows (command_lines 1) (λ i. command_line (i + 1))
unfolding command_lines
commands_grow = grows command_line command_lines (λ p. refl) (λ p x xs. refl) 1

-- a group's levels beside its value, and the lines of a row of such
abbrev pub beside : ℕ → List ℕ → ℕ × List ℕ
beside value L = (value, L)

pub valued_lines : ℕ → List (ℕ × List ℕ) → List ℕ
valued_lines g [] = []
valued_lines g ((value, L) ∷ rest) = group_line g value L ++ valued_lines (suc g) rest

pub groups_grow : Grows (valued_lines 0) (λ i entry. group_line i entry.0 entry.1)
unfolding valued_lines
groups_grow = simp add-zero at (grows (λ g entry. group_line g entry.0 entry.1) valued_lines (λ p. refl) (λ p x xs. refl) 0)

pub lines_valued : (g : ℕ) (values : List ℕ) (Ls : List (List ℕ)) → group_lines g values Ls ≡ valued_lines g (zip_with beside values Ls)
unfolding group_lines valued_lines zip_with
lines_valued g [] Ls = refl
lines_valued g (value ∷ values) [] = refl
lines_valued g (value ∷ values) (L ∷ Ls) = rw (lines_valued (suc g) values Ls)

-- a line: its letter, its fields and the newline
pub puts_line :
    {a b c d : List ℕ} {at m k r letter : ℕ} (xs : List ℕ) → Puts a at b m (letter ∷ []) → Puts b m c k (fields xs)
    → Puts c k d r (newline ∷ []) → Puts a at d r (line letter xs)
unfolding line
puts_line xs p q s = puts_then p (puts_then q s)

-- the groups of an outcome, each beside its value
abbrev pub groups_valued : Outcome → List (ℕ × List ℕ)
groups_valued o = zip_with beside (take o.groups.count o.values) (groups_in o.groups)

module _ (o : Outcome) (h : GroupsHeld o.groups) (enough : o.groups.count ≤ length o.values) where
  pub valued_count : length (groups_valued o) ≡ o.groups.count
  valued_count = beside_count beside h o.values enough

  pub valued_line : (g : ℕ) → g < o.groups.count → (d : Group)
      → let entry = get_or (groups_valued o) g (0, []) in
      group_line g (get_or o.values g 0) (levels_of (get_or o.groups.list g d)) ≡ group_line g entry.0 entry.1
  valued_line g below d = rw (beside_at beside h o.values enough g below 0 d (0, []))
