-- Document 02, request 2: why a held sheet is not written. "Groups and commands that no sheet could hold are sent back by the number that reading would give,
-- the first met in the sheet's sequence." Assumes nothing.
use Rattle.std.specs.Prelude.{cond, ◌&&◌, List, [], ◌∷◌, ℕ, eqb, leb, ltb, get_or, take, drop}
use Rattle.theory.specs.Reasons.{done, fit, muddle, tie, sheet as ill_formed}
use Rattle.theory.specs.Refusal.{or_else, size_of}
use Rattle.theory.specs.Levels.{tied}
use Rattle.permutation.specs.Records.{all_zero}
use Rattle.permutation.specs.declared.answers.Permutation.{Permutation}
use Rattle.sheet.specs.Held.{no_group, levels_of}
use Rattle.sheet.specs.declared.held.Action.{Action}
use Rattle.sheet.specs.declared.held.Group.{Group}
use Rattle.sheet.specs.declared.held.Groups.{Groups}
use Rattle.sheet.specs.declared.held.Entry.{Entry}
use Rattle.sheet.specs.declared.held.Sheet.{Sheet}
use Rattle.encoding.specs.CommandKinds.{targeted}

-- the first number that is not done
unfoldable pub first : {A : Type 0} → (A → ℕ) → List A → ℕ
first number [] = done
first number (x ∷ xs) = or_else (number x) (first number xs)

-- of a group: "size is judged at the n byte and a tie after the group's last level"
unfoldable pub group_number : Group → ℕ
group_number g = or_else (size_of g.n) (cond (tied (levels_of g)) tie done)

-- of the groups: "count G in one byte, 1 to 64"
unfoldable pub groups_number : Groups → ℕ
groups_number groups = cond (leb 1 groups.count && leb groups.count 64) (first group_number (take groups.count groups.list)) ill_formed

-- "A held rewrite whose n isn't its group's is fit, and one with a name past n other than 0 is muddle; this is judged where its names would be written, fit
-- first." n is the group's
unfoldable pub target_number : ℕ → Permutation → ℕ
target_number n target = cond (eqb target.n n) (cond (all_zero (drop n target.cells)) done muddle) fit

-- a command without a target has no fault past its group number
abbrev pub action_number : ℕ → Action → Permutation → ℕ
action_number n action target = cond (targeted action) (target_number n target) done

-- "the group byte (0 to G - 1)"
unfoldable pub entry_number : Groups → Entry → ℕ
entry_number groups e =
    cond (ltb e.command.group groups.count)
    (action_number (get_or groups.list e.command.group no_group).n e.command.action e.target)
    ill_formed

-- "Commands: count in two bytes, 0 to 1,000."
unfoldable pub commands_number : Sheet → ℕ
commands_number sheet = cond (leb sheet.count 1000) (first (entry_number sheet.groups) (take sheet.count sheet.entries)) ill_formed

-- "sections in this sequence". The third has no fault: a zero that is held can be written
unfoldable pub sheet_number : Sheet → ℕ
sheet_number sheet = or_else (groups_number sheet.groups) (commands_number sheet)
