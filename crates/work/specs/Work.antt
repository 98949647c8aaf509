-- Working through a sheet: what each command answers, and the levels and zeros that are left. Assumes nothing.
use mathlib.Core.List.{List, [], zip_with}
use Rattle.std.specs.Prelude.{ℕ, length, get_or, set}
use Rattle.theory.specs.Levels.{permutation_of}
use Rattle.theory.specs.InTurn.{left_by, answers_to}
use Rattle.theory.specs.CountUp.{call_levels}
use Rattle.permutation.specs.declared.answers.Permutation.{Permutation}
use Rattle.ranking.specs.Zeros.{value_on}
use Rattle.ranking.specs.declared.zero.Zero.TheVariants.{Old, New}
use Rattle.charge.specs.Answers.{done_pushes, call_answer}
use Rattle.charge.specs.declared.answers.Pushes.{Pushes}
use Rattle.rewriting.specs.Answers.{rewrite_answer, rewrite_levels}
use Rattle.symbols.specs.Answers.{store_answer, store_levels}
use Rattle.sheet.specs.Sheet.{Contents}
use Rattle.sheet.specs.declared.held.Action.{Action}
use Rattle.sheet.specs.declared.held.Action.TheVariants.{Count, Rewrite, Store, ChangeZero}
use Rattle.ranking.specs.declared.zero.Zero.{Zero}
use Rattle.sheet.specs.declared.held.Entry.{Entry}

-- the bytes of the push list that a rewrite is lent here; a list of twenty is never too short
abbrev pub room : ℕ
room = 20

-- what a command of each kind answers on levels: the job of that name in `charge`, `rewriting` or `symbols`; a change of zero is done "without a push", on
-- any levels
abbrev pub job_answer : Action → Permutation → List ℕ → Pushes
job_answer (Count k) target L = call_answer L k
job_answer Rewrite target L = rewrite_answer L target room
job_answer (Store m symbol) target L = store_answer L m symbol
job_answer ChangeZero target L = done_pushes 0 0

-- the levels that it leaves
abbrev pub job_levels : Action → Permutation → List ℕ → List ℕ
job_levels (Count k) target L = call_levels k L
job_levels Rewrite target L = rewrite_levels L target room
job_levels (Store m symbol) target L = store_levels L m symbol
job_levels ChangeZero target L = L

-- the zero on which it leaves a group: kind 4 has it "move to the new zero", and "On a group already there it [..] alters nothing"; no other kind moves it
abbrev pub job_zero : Action → Zero → Zero
job_zero (Count k) z = z
job_zero Rewrite z = z
job_zero (Store m symbol) z = z
job_zero ChangeZero z = New

-- the levels of the group that a command names
abbrev pub levels_for : List (List ℕ) → Entry → List ℕ
levels_for groups e = get_or groups e.command.group []

-- "each command is done or sent back by itself": its answer, and all groups after it
abbrev pub answer_to : Entry → List (List ℕ) → Pushes
answer_to e groups = job_answer e.command.action e.target (levels_for groups e)

abbrev pub groups_after : Entry → List (List ℕ) → List (List ℕ)
groups_after e groups = set groups e.command.group (job_levels e.command.action e.target (levels_for groups e))

-- "and the next follows": the answers of a row of commands, and the groups that they leave
unfoldable pub answers : List (List ℕ) → List Entry → List Pushes
answers groups es = answers_to answer_to groups_after es groups

unfoldable pub groups_after_all : List (List ℕ) → List Entry → List (List ℕ)
groups_after_all groups es = left_by groups_after es groups

-- the zeros of the groups go along, and neither answers nor levels look at them
abbrev pub zeros_after : Entry → List Zero → List Zero
zeros_after e zeros = set zeros e.command.group (job_zero e.command.action (get_or zeros e.command.group Old))

unfoldable pub zeros_after_all : List Zero → List Entry → List Zero
zeros_after_all zeros es = left_by zeros_after es zeros

-- the value, on a group's zero, of the permutation of its levels
abbrev pub value_of : Zero → List ℕ → ℕ
value_of z L = value_on z (length L) (permutation_of L)

-- what working through a sheet gives: a number and pushes for each command, levels, zero and value for each group; each has a zero
-- (`Valid.zeros`), so that none is without its value
abbrev pub answers_of : Contents → List Pushes
answers_of c = answers c.groups c.entries

abbrev pub groups_left : Contents → List (List ℕ)
groups_left c = groups_after_all c.groups c.entries

abbrev pub zeros_left : Contents → List Zero
zeros_left c = zeros_after_all c.zeros c.entries

abbrev pub values_left : Contents → List ℕ
values_left c = zip_with value_of (zeros_left c) (groups_left c)
