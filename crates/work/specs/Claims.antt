-- Document 02, request 8, "Change over in the cellar", of whole sheets: where a group is left on the new zero, and the same commands with a kind 4 and without it.
-- Assumes nothing.
use Rattle.std.specs.Prelude.{◌≡◌, List, [], ◌∷◌, ◌++◌, ℕ, ◌+◌, ◌%◌, ◌≤◌, ◌<◌, length, get_or, set, take, drop}
use Rattle.theory.specs.Factorial.{factorial}
use Rattle.theory.specs.Rank.{rank}
use Rattle.theory.specs.Zero.{new_zero}
use Rattle.ranking.specs.declared.zero.Zero.TheVariants.{Old, New}
use Rattle.charge.specs.Answers.{done_pushes}
use Rattle.sheet.specs.Bytes.{got}
use Rattle.sheet.specs.Sheet.{Contents, entry, sheet}
use Rattle.sheet.specs.Held.{no_group, no_entry}
use Rattle.sheet.specs.declared.held.Action.TheVariants.{ChangeZero}
use Rattle.sheet.specs.declared.held.Entry.{Entry}
use Rattle.work.specs.Work.{zeros_left}
use Rattle.work.specs.Answers.{Worked, work_answer}
use Rattle.work.specs.declared.answers.Outcome.{Outcome}

-- a kind 4 on group g
abbrev pub change : ℕ → Entry
change g = entry g ChangeZero []

pub record ZeroChanges : Type 0 where
  -- a group is left on the new zero where it starts there, or a kind 4 names it; otherwise on the zero that it starts on
  pub stays : (c : Contents) (g : ℕ) → get_or c.zeros g Old ≡ New → get_or (zeros_left c) g Old ≡ New
  pub moved : (c : Contents) (g : ℕ) → g < length c.zeros → (i : ℕ) → i < length c.entries → (get_or c.entries i no_entry).command ≡ (change g).command
      → get_or (zeros_left c) g Old ≡ New
  pub kept : (c : Contents) (g : ℕ) → ((i : ℕ) → i < length c.entries → (get_or c.entries i no_entry).command ≡ (change g).command → ⊥)
      → get_or (zeros_left c) g Old ≡ get_or c.zeros g Old

-- a list with x put in behind its first i entries
abbrev pub put_behind : {A : Type 0} → ℕ → A → List A → List A
put_behind i x xs = take i xs ++ x ∷ drop i xs

-- "between two commands": the sheet c with a kind 4 on group g behind its first i commands
abbrev pub with_change : ℕ → ℕ → Contents → Contents
with_change i g c = record { groups = c.groups; zeros = c.zeros; entries = put_behind i (change g) c.entries }

-- the outcome of that sheet, beside the one of c
pub record ChangeOver (i g : ℕ) (changed plain : Outcome) : Type 0 where
  -- it is done, "and its line shows 0 pushes"; the other commands are answered as without it. The rows have 1,000 places
  pub count : changed.count ≡ plain.count + 1
  pub answers : changed.answers ≡ take 1000 (put_behind i (done_pushes 0 0) plain.answers)
  -- "counting k after the change gives the order and levels that k without it gives", and so does any other command
  pub groups : changed.groups ≡ plain.groups
  pub zeros : changed.zeros ≡ set plain.zeros g New
  -- "From the old zero, [..] only the value differs, by the rank of [1,2,...,n] modulo n!"
  pub value_old : get_or plain.zeros g Old ≡ Old → let n = (get_or plain.groups.list g no_group).n in
      get_or plain.values g 0 ≡ (get_or changed.values g 0 + rank n (new_zero n)) % factorial n
  pub values_others : (h : ℕ) → (h ≡ g → ⊥) → get_or changed.values h 0 ≡ get_or plain.values h 0
  -- "On a group already there it [..] alters nothing"
  pub values_new : get_or plain.zeros g Old ≡ New → changed.values ≡ plain.values

-- of what was returned for the bytes s: s is any sheet t with a kind 4 more
abbrev pub ChangeOf : List ℕ → Worked → Type 0
ChangeOf s r =
    (t : List ℕ) (c : Contents) (end i g last : ℕ) → sheet t ≡ got c end → i ≤ length c.entries → sheet s ≡ got (with_change i g c) last
    → ChangeOver i g r.outcome (work_answer (sheet t)).outcome
