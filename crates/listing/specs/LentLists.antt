-- A held sheet given as lent lists, one for each field, for callers that cannot pass it whole. Its rows stand one after the other: one number for each group
-- and for each command in `sizes`, `zeros`, `kinds` and `groups`, twenty places for each in `levels` and `names`, and two in `numbers`. Assumes nothing.
use Rattle.std.specs.Prelude.{Bool, cond, ◌&&◌, List, map, ℕ, ◌+◌, ◌*◌, eqb, leb, length, get_or, take, drop}
use Rattle.theory.specs.Reasons.{done, fit}
use Rattle.theory.specs.Refusal.{given, or_else}
use Rattle.theory.specs.Lists.{names_from, padded}
use Rattle.ranking.specs.Zeros.{zero_number, numbered_zero}
use Rattle.ranking.specs.declared.zero.Zero.{Zero}
use Rattle.ranking.specs.declared.zero.Zero.TheVariants.{Old}
use Rattle.sheet.specs.Held.{no_group, no_entry}
use Rattle.sheet.specs.declared.held.Action.{Action}
use Rattle.sheet.specs.declared.held.Action.TheVariants.{Count, Rewrite, Store, ChangeZero}
use Rattle.sheet.specs.declared.held.Command.{Command}
use Rattle.sheet.specs.declared.held.Group.{Group}
use Rattle.sheet.specs.declared.held.Entry.{Entry}
use Rattle.sheet.specs.declared.held.Sheet.{Sheet}
use Rattle.encoding.specs.Faults.{first}
use Rattle.writer.specs.Answers.{write_answer, written_on}
use Rattle.writer.specs.declared.answers.Written.{Written}

pub record LentLists : Type 0 where
  pub sizes : List ℕ
  pub levels : List ℕ
  pub zeros : List ℕ
  pub kinds : List ℕ
  pub groups : List ℕ
  pub numbers : List ℕ
  pub names : List ℕ

abbrev pub lists : List ℕ → List ℕ → List ℕ → List ℕ → List ℕ → List ℕ → List ℕ → LentLists
lists sizes levels zeros kinds groups numbers names =
    record { sizes = sizes; levels = levels; zeros = zeros; kinds = kinds; groups = groups; numbers = numbers; names = names }

-- row i, of k places each
abbrev pub row_at : ℕ → ℕ → List ℕ → List ℕ
row_at k i xs = take k (drop (k * i) xs)

-- group i: its n, and its twenty levels by name
abbrev pub group_at : List ℕ → List ℕ → ℕ → Group
group_at sizes levels i = record { n = get_or sizes i 0; levels = row_at 20 i levels }

-- its zero, given as a number
abbrev pub zero_in : List ℕ → ℕ → Zero
zero_in zeros i = numbered_zero (get_or zeros i 0)

abbrev command_on : ℕ → Action → Command
command_on g action = record { group = g; action = action }

-- a command that no sheet has, since none has so many groups: it is sheet
abbrev pub stray : Command
stray = command_on 255 (Count 0)

-- a k that four bytes do not hold is sheet
unfoldable pub count_of : ℕ → ℕ → Command
count_of g k = cond (leb k 4294967295) (command_on g (Count k)) stray

-- a kind on group g with its numbers: k of a count, m and s of a store; a kind that is none of the four is sheet
unfoldable pub command_of : ℕ → ℕ → ℕ → ℕ → Command
command_of kind g a b =
    cond (eqb kind 1) (count_of g a)
    (cond (eqb kind 2) (command_on g Rewrite)
    (cond (eqb kind 3) (command_on g (Store a b))
    (cond (eqb kind 4) (command_on g ChangeZero)
    stray)))

-- command i, and beside it a target of twenty names, whose n is the first number
abbrev pub entry_at : List ℕ → List ℕ → List ℕ → List ℕ → ℕ → Entry
entry_at kinds groups numbers names i = record {
  command = command_of (get_or kinds i 0) (get_or groups i 0) (get_or numbers (2 * i) 0) (get_or numbers (2 * i + 1) 0);
  target = record { n = get_or numbers (2 * i) 0; cells = row_at 20 i names };
}

-- how much of what is counted is held: all, or nothing of more than there is room for, which is sheet whatever it is
abbrev pub within : ℕ → ℕ → ℕ
within room count = cond (leb count room) count 0

-- a row of `room` places with what f makes of each index that is held, and z past them
abbrev pub row_of : {A : Type 0} → ℕ → A → (ℕ → A) → ℕ → List A
row_of room z f count = padded room z (map f (names_from 0 (within room count)))

-- "from groups and commands held in memory": the sheet that the lists hold
unfoldable pub held_in : LentLists → Sheet
held_in l = record {
  groups = record { count = length l.sizes; list = row_of 64 no_group (group_at l.sizes l.levels) (length l.sizes) };
  zeros = row_of 64 Old (zero_in l.zeros) (length l.sizes);
  count = length l.kinds;
  entries = row_of 1000 no_entry (entry_at l.kinds l.groups l.numbers l.names) (length l.kinds);
}

-- are the lists long enough? By their lengths
abbrev pub long_enough : ℕ → ℕ → ℕ → ℕ → ℕ → ℕ → ℕ → Bool
long_enough sizes levels zeros kinds groups numbers names = leb (20 * sizes) levels && leb sizes zeros && leb kinds groups && leb (2 * kinds) numbers && leb (20 * kinds) names

-- a list that is too short for what the others say is fit; a zero that is neither old nor new is value
unfoldable pub lists_number : LentLists → ℕ
lists_number l =
    or_else
    (cond (long_enough (length l.sizes) (length l.levels) (length l.zeros) (length l.kinds) (length l.groups) (length l.numbers) (length l.names)) done fit)
    (first zero_number (take (length l.sizes) l.zeros))

-- both come before all others, since what a list lacks, or no group can have, cannot be held
unfoldable pub lists_answer : LentLists → ℕ → Written
lists_answer l room = given (lists_number l) (write_answer (held_in l) room) (record { number = lists_number l; length = 0 })

-- refused, "no change in any lent list"
unfoldable pub lists_on : LentLists → List ℕ → List ℕ
lists_on l out = given (lists_number l) (written_on (held_in l) out) out
