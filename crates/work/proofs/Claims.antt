-- Where a group is left on the new zero, and what a change of zero changes on a sheet. Assumes nothing.
use mathlib.Core.Path.{◌≡◌, refl, sym, ap, ◌∙◌}
use mathlib.Core.List.{List, [], ◌∷◌, ◌++◌, append_assoc}
use Prim.Native.Nat.{ℕ, zero, suc, ◌+◌, ◌-◌, ◌%◌, ◌≤◌, ◌<◌}
use native.Mathlib.Omega.{arith}
use lib.ListN.{length, get_or, set, take, drop, replicate, length-append, length-set, take-append-drop, replicate-append-replicate}
use lib.Seq.{length-take-le, take_at, drop_at, get_or_at, take-append-le, drop-append-le, set-append_left, set-get_or, set-set, set_comm, get_or-set_same, get_or-set_other}
use Rattle.theory.specs.Factorial.{factorial}
use Rattle.theory.specs.Lists.{padded}
use Rattle.theory.specs.Rank.{rank}
use Rattle.theory.specs.Levels.{permutation_of}
use Rattle.theory.specs.Zero.{new_zero}
use Rattle.theory.specs.InTurn.{left_by, answers_to}
use Rattle.theory.proofs.Cases.{by_name, by_le}
use Rattle.theory.proofs.Padding.{padded_length, padded_at, zeros_past}
use Rattle.theory.proofs.InTurn as turns
use Rattle.theory.proofs.InTurn.{left_append, answers_append, left_keeps}
use Rattle.theory.proofs.Zero.{zero_changed}
use Rattle.ranking.specs.declared.zero.Zero.TheVariants.{Old, New}
use Rattle.charge.specs.Answers.{done_pushes}
use Rattle.charge.specs.declared.answers.Pushes.{Pushes}
use Rattle.sheet.specs.Sheet.{Contents, sheet}
use Rattle.sheet.specs.Held.{groups_of, no_group, no_entry}
use Rattle.sheet.specs.Claims.{Valid}
use Rattle.sheet.proofs.InMemory.{groups_at}
use Rattle.sheet.proofs.Claims.{sheets}
use Rattle.sheet.specs.declared.held.Command.{Command}
use Rattle.ranking.specs.declared.zero.Zero.{Zero}
use Rattle.sheet.specs.declared.held.Entry.{Entry}
use Rattle.work.specs.Work.{job_zero, answer_to, groups_after, answers, groups_after_all, zeros_after, zeros_after_all, value_of, answers_of, groups_left, zeros_left, values_left}
use Rattle.work.specs.Answers.{Worked, no_answer, outcome_of, work_answer}
use Rattle.work.specs.Claims.{change, put_behind, with_change, ChangeOver, ChangeOf, ZeroChanges}
use Rattle.work.proofs.Jobs.{job_new, job_same}
use Rattle.work.proofs.Zipped.{zipped_at}
use Rattle.work.proofs.Working.{answers_length, groups_after_all_length, zeros_after_all_length, zeros_length, values_length}

-- ---- one command

-- once on the new zero, a group stays there
new_kept : (e : Entry) (zs : List Zero) (g : ℕ) → get_or zs g Old ≡ New → get_or (zeros_after e zs) g Old ≡ New
new_kept e zs g is =
    let at = e.command.group in
    by_name g at
    (λ q t.
    let same : job_zero e.command.action (get_or zs at Old) ≡ get_or zs at Old = rw (← q, is) (job_new e.command.action) in
    rw (same, set-get_or zs at Old) is)
    (λ ne t. get_or-set_other zs at g _ Old ne ∙ is)

-- a kind 4 more, before a command or behind it
new_carried : (e : Entry) (zs : List Zero) (g : ℕ) → g < length zs → zeros_after e (set zs g New) ≡ set (zeros_after e zs) g New
new_carried e zs g h =
    let at = e.command.group in
    by_name at g
    (λ q t. rw (q, get_or-set_same zs g New Old h, job_new e.command.action) (set-set zs g New New ∙ sym (set-set zs g _ New)))
    (λ ne t. rw (get_or-set_other zs g at New Old ne) (set_comm zs g at New _ (λ q. ne (sym q))))

-- ---- where a group is left on the new zero

stays_in : (es : List Entry) (zs : List Zero) (g : ℕ) → get_or zs g Old ≡ New → get_or (zeros_after_all zs es) g Old ≡ New
unfolding zeros_after_all
stays_in es zs g = left_keeps zeros_after (λ ys. get_or ys g Old ≡ New) (λ e ys. new_kept e ys g) es zs

moved_in : (es : List Entry) (zs : List Zero) (g : ℕ) → g < length zs → (i : ℕ) → i < length es → (get_or es i no_entry).command ≡ (change g).command
    → get_or (zeros_after_all zs es) g Old ≡ New
unfolding zeros_after_all
moved_in [] zs g h i less is = absurd (omega arith)
moved_in (e ∷ es) zs g h zero less is =
    stays_in es (zeros_after e zs) g
    (ap (λ (c : Command). get_or (set zs c.group (job_zero c.action (get_or zs c.group Old))) g Old) is ∙ get_or-set_same zs g New Old h)
moved_in (e ∷ es) zs g h (suc i) less is = moved_in es (zeros_after e zs) g (rw length-set h) i (omega arith) is

kept_in : (es : List Entry) (zs : List Zero) (g : ℕ) → ((i : ℕ) → i < length es → (get_or es i no_entry).command ≡ (change g).command → ⊥)
    → get_or (zeros_after_all zs es) g Old ≡ get_or zs g Old
unfolding zeros_after_all
kept_in [] zs g none = refl
kept_in (e ∷ es) zs g none =
    let at = e.command.group in
    kept_in es (zeros_after e zs) g (λ i less is. none (suc i) (omega arith) is)
    ∙ by_name at g
    (λ q t.
    let same = job_same e.command.action (get_or zs at Old) (λ is. none 0 (omega arith) (λ k. record { group = q k; action = is k })) in
    rw (same, set-get_or zs at Old))
    (λ ne t. get_or-set_other zs at g _ Old (λ q. ne (sym q)))

-- ---- a sheet with a kind 4, beside the sheet without it

behind_length : {A : Type 0} (i : ℕ) (x : A) (xs : List A) → length (put_behind i x xs) ≡ length xs + 1
behind_length i x xs = omega (arith, length-append (take i xs) (x ∷ drop i xs), length-append (take i xs) (drop i xs), ap length (take-append-drop i xs))

-- so before any commands, or behind them
carried : (es : List Entry) (zs : List Zero) (g : ℕ) → g < length zs → left_by zeros_after es (set zs g New) ≡ set (left_by zeros_after es zs) g New
carried [] zs g h = refl
carried (e ∷ es) zs g h = ap (left_by zeros_after es) (new_carried e zs g h) ∙ carried es (zeros_after e zs) g (rw length-set h)

-- in a row of `room` places, which has one to spare
padded_behind : {A : Type 0} (room i : ℕ) (z x : A) (xs : List A) → i ≤ length xs → length xs < room
    → padded room z (put_behind i x xs) ≡ take room (put_behind i x (padded room z xs))
padded_behind {A} room i z x xs le less =
    let past : ℕ = room - length (put_behind i x xs) in
    let long : length (put_behind i x xs) ≡ length xs + 1 = behind_length i x xs in
    let one : room - length xs ≡ past + 1 = omega arith in
    let more : put_behind i x (padded room z xs) ≡ padded room z (put_behind i x xs) ++ replicate 1 z =
    rw (take-append-le i xs (replicate (room - length xs) z) le, drop-append-le i xs (replicate (room - length xs) z) le, one, ← replicate-append-replicate past 1 z)
    (simp append_assoc) in
    sym (rw more (take_at (padded room z (put_behind i x xs)) (replicate 1 z) room (padded_length room z (put_behind i x xs) (omega arith))))

-- the value of a group that is left
value_at : (c : Contents) → Valid c → (g : ℕ) → g < length c.groups
    → get_or (padded 64 0 (values_left c)) g 0 ≡ value_of (get_or (zeros_left c) g Old) (get_or (groups_left c) g [])
value_at c v g h =
    let groups = groups_after_all_length c.groups c.entries in
    padded_at 64 0 (values_left c) g (omega (arith, values_length c v))
    ∙ zipped_at value_of (zeros_left c) (groups_left c) g (omega (arith, zeros_length c v)) (omega arith) Old [] 0

module _ (c : Contents) (v : Valid c) (i : ℕ) (le : i ≤ length c.entries) (g : ℕ) (w : Valid (with_change i g c)) where
  abbrev es : List Entry
  es = c.entries

  abbrev first : List Entry
  first = take i es

  abbrev rest : List Entry
  rest = drop i es

  abbrev reached : List (List ℕ)
  reached = left_by groups_after first c.groups

  -- the group of the kind 4
  inside : g < length c.groups
  inside =
      let here : get_or (put_behind i (change g) es) i no_entry ≡ change g = get_or_at first (change g) rest no_entry i (length-take-le i es le) in
      rw here at (w.named i (omega (arith, behind_length i (change g) es)))

  answers_are : answers_of (with_change i g c) ≡ put_behind i (done_pushes 0 0) (answers_of c)
  unfolding answers
  answers_are =
      let before : List Pushes = answers_to answer_to groups_after first c.groups in
      let behind : List Pushes = answers_to answer_to groups_after rest reached in
      let whole : answers_of c ≡ before ++ behind =
      ap (λ (l : List Entry). answers_to answer_to groups_after l c.groups) (sym (take-append-drop i es))
      ∙ answers_append groups_after answer_to first rest c.groups in
      let long : length before ≡ i = turns.answers_length groups_after answer_to first c.groups ∙ length-take-le i es le in
      answers_append groups_after answer_to first (change g ∷ rest) c.groups
      ∙ rw (set-get_or reached g [], whole, take_at before behind i long, drop_at before behind i long)

  levels_are : groups_left (with_change i g c) ≡ groups_left c
  unfolding groups_after_all
  levels_are =
      left_append groups_after first (change g ∷ rest) c.groups
      ∙ ap (left_by groups_after rest) (set-get_or reached g [])
      ∙ sym (left_append groups_after first rest c.groups)
      ∙ ap (λ (l : List Entry). left_by groups_after l c.groups) (take-append-drop i es)

  zeros_are : zeros_left (with_change i g c) ≡ set (zeros_left c) g New
  unfolding zeros_after_all
  zeros_are =
      let so_far : List Zero = left_by zeros_after first c.zeros in
      left_append zeros_after first (change g ∷ rest) c.zeros
      ∙ carried rest so_far g (omega (arith, v.zeros, inside, zeros_after_all_length c.zeros first))
      ∙ ap (λ (l : List Zero). set l g New)
      (sym (left_append zeros_after first rest c.zeros) ∙ ap (λ (l : List Entry). left_by zeros_after l c.zeros) (take-append-drop i es))

  -- its zero is among those left
  zero_there : g < length (zeros_left c)
  zero_there = omega (arith, inside, v.zeros, zeros_after_all_length c.zeros es)

  -- the levels of the group at the end
  abbrev L : List ℕ
  L = get_or (groups_left c) g []

  old_differs : get_or (zeros_left c) g Old ≡ Old → let n = (get_or (groups_of (groups_left c)).list g no_group).n in
      get_or (padded 64 0 (values_left c)) g 0 ≡ (get_or (padded 64 0 (values_left (with_change i g c))) g 0 + rank n (new_zero n)) % factorial n
  old_differs old =
      let new : get_or (padded 64 0 (values_left (with_change i g c))) g 0 ≡ value_of New L =
      value_at (with_change i g c) w g inside ∙ rw (zeros_are, levels_are, get_or-set_same (zeros_left c) g New Old zero_there) in
      let there : g < length (groups_left c) = omega (arith, inside, groups_after_all_length c.groups es) in
      rw (value_at c v g inside, old, new, groups_at (groups_left c) g there no_group) (zero_changed (length L) (permutation_of L))

  -- past the groups both rows have 0s
  others_same : (k : ℕ) → (k ≡ g → ⊥) → get_or (padded 64 0 (values_left (with_change i g c))) k 0 ≡ get_or (padded 64 0 (values_left c)) k 0
  others_same k ne =
      by_le (length c.groups) k
      (λ past.
      let groups = groups_after_all_length c.groups es in
      let changed : length (values_left (with_change i g c)) ≡ length (groups_left c) = values_length (with_change i g c) w ∙ ap length levels_are in
      let none : (vs : List ℕ) → length vs ≤ k → get_or (padded 64 0 vs) k 0 ≡ 0 = λ vs h. zeros_past vs (64 - length vs) k h in
      none (values_left (with_change i g c)) (omega arith) ∙ sym (none (values_left c) (omega (arith, values_length c v))))
      (λ there.
      value_at (with_change i g c) w k there
      ∙ rw (zeros_are, levels_are, get_or-set_other (zeros_left c) g k New Old ne) (sym (value_at c v k there)))

  change_over : ChangeOver i g (outcome_of (with_change i g c)) (outcome_of c)
  unfolding outcome_of
  change_over = record {
    count = behind_length i (change g) es;
    answers =
        rw answers_are
        (padded_behind 1000 i no_answer (done_pushes 0 0) (answers_of c) (omega (arith, le, answers_length c.groups es))
        (omega (arith, w.short, behind_length i (change g) es, answers_length c.groups es)));
    groups = rw levels_are;
    zeros = rw (zeros_are, length-set) (sym (set-append_left (zeros_left c) _ g New zero_there));
    value_old = λ old. old_differs (sym (padded_at 64 Old (zeros_left c) g zero_there) ∙ old);
    values_others = others_same;
    values_new = λ new.
        let is : get_or (zeros_left c) g Old ≡ New = sym (padded_at 64 Old (zeros_left c) g zero_there) ∙ new in
        let none : zeros_left (with_change i g c) ≡ zeros_left c = zeros_are ∙ ap (set (zeros_left c) g) (sym is) ∙ set-get_or (zeros_left c) g Old in
        rw (none, levels_are);
  }

change_of : (s : List ℕ) → ChangeOf s (work_answer (sheet s))
unfolding work_answer
change_of s t c end i g last plain le changed =
    rw (plain, changed) (change_over c (sheets.valid t c end plain) i le g (sheets.valid s (with_change i g c) last changed))

-- so of what is answered as the meaning says
pub answer_change : (s : List ℕ) {r : Worked} → r ≡ work_answer (sheet s) → (r ≡ work_answer (sheet s)) × ChangeOf s r
answer_change s e = (e, rw e (change_of s))

pub zero_changes : ZeroChanges
zero_changes = record {
  stays = λ c g. stays_in c.entries c.zeros g;
  moved = λ c g. moved_in c.entries c.zeros g;
  kept = λ c g. kept_in c.entries c.zeros g;
}
