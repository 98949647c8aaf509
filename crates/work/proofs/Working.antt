-- Working through a sheet in memory: groups and zeros in their rows, and what the commands so far answered and left. Assumes nothing.
use Rattle.ranking.specs.declared.zero.Zero.TheVariants.{Old}
use mathlib.Core.Path.{◌≡◌, refl, sym, ap, ◌∙◌}
use mathlib.Core.List.{List, [], ◌++◌, map, zip_with}
use Prim.Native.Nat.{ℕ, ◌+◌, ◌-◌, ◌≤◌, ◌<◌}
use native.Mathlib.Numerals.{add-one}
use native.Mathlib.Omega.{arith}
use lib.ListN.{length, get_or, take, drop, set, replicate, length-set, length-replicate, length-map, get_or-append}
use lib.Seq.{drop-append_seam, take_all, take_at, get_or-take, set-append_left, get_or-set_same, get_or-set_other}
use Rattle.theory.specs.Lists.{padded}
use Rattle.theory.specs.InTurn.{left_by}
use Rattle.theory.proofs.Cases.{by_name}
use Rattle.theory.proofs.Padding.{get_or_any, map_set}
use Rattle.theory.proofs.FilledRow.{row_all}
use Rattle.theory.proofs.InTurn as turns
use Rattle.theory.proofs.InTurn.{left_keeps, left_next, InTurn, turn_none, turn_more, turn_left}
use Rattle.permutation.specs.declared.answers.Permutation.{Permutation}
use Rattle.theory.specs.Levels.{read_number}
use Rattle.charge.specs.declared.answers.Pushes.{Pushes}
use Rattle.theory.proofs.Refusal.{readable}
use Rattle.sheet.specs.Sheet.{Contents}
use Rattle.sheet.specs.Claims.{Each, Valid}
use Rattle.sheet.specs.Held.{group_of, groups_of, no_entry, held_of, levels_of, groups_in, contents_of}
use Rattle.sheet.specs.Standing.{GroupHeld, GroupsHeld, SheetHeld}
use Rattle.sheet.proofs.InMemory.{group_levels, groups_back, groups_at, groups_held, held_count, held_at}
use Rattle.sheet.specs.declared.held.Action.{Action}
use Rattle.sheet.specs.declared.held.Group.{Group}
use Rattle.sheet.specs.declared.held.Groups.{Groups}
use Rattle.ranking.specs.declared.zero.Zero.{Zero}
use Rattle.sheet.specs.declared.held.Entry.{Entry}
use Rattle.sheet.specs.declared.held.Sheet.{Sheet}
use Rattle.work.specs.Work.{job_answer, job_levels, job_zero, levels_for, answer_to, groups_after, answers, groups_after_all, zeros_after, zeros_after_all, value_of, groups_left, zeros_left, values_left}
use Rattle.work.specs.Answers.{no_answer, outcome_of}
use Rattle.work.specs.declared.answers.Outcome.{Outcome}
use Rattle.work.proofs.Jobs.{job_length, job_readable}
use Rattle.work.proofs.Zipped.{zipped_length}

-- ---- a group

group_held : (L : List ℕ) → read_number L ≡ 0 → GroupHeld (group_of L)
group_held L h = let back = group_levels L in record { held = ap group_of (sym back); readable = rw back h }

module _ {g : Group} (h : GroupHeld g) where
  pub group_size : g.n ≡ length (levels_of g)
  group_size = ap (λ (x : Group). x.n) h.held

  pub group_few : g.n ≤ 20
  group_few = rw group_size (readable h.readable).many

  -- the levels that a job leaves, at the row's front
  pub group_after : (a : Action) (target : Permutation) {L : List ℕ} → L ≡ job_levels a target (levels_of g)
      → ◌≡◌ {A = Group} (record { n = g.n; levels = L ++ drop g.n g.levels }) (group_of (job_levels a target (levels_of g)))
  group_after a target e =
      let size : g.n ≡ length (job_levels a target (levels_of g)) = group_size ∙ sym (job_length a target (levels_of g)) in
      let rest : drop g.n g.levels ≡ replicate (20 - g.n) 0 =
      ap (λ (x : Group). drop x.n x.levels) h.held ∙ drop-append_seam (levels_of g) _ ∙ rw (← group_size) in
      rw (e, rest) (ap (λ (n : ℕ). record { n = n; levels = job_levels a target (levels_of g) ++ replicate (20 - n) 0 }) size)

-- ---- groups in their row

groups_set : (Ls : List (List ℕ)) (g : ℕ) → g < length Ls → (L : List ℕ)
    → ◌≡◌ {A = Groups} (record { count = length Ls; list = set (groups_of Ls).list g (group_of L) }) (groups_of (set Ls g L))
groups_set Ls g h L =
    let there : g < length (map group_of Ls) = omega (arith, length-map Ls group_of) in
    let same : length (map group_of (set Ls g L)) ≡ length (map group_of Ls) =
    length-map (set Ls g L) group_of ∙ length-set Ls g L ∙ sym (length-map Ls group_of) in
    rw (length-set Ls g L, set-append_left (map group_of Ls) _ g (group_of L) there, map_set group_of Ls g L, same)

pub group_at_held : {groups : Groups} → GroupsHeld groups → (g : ℕ) → g < groups.count → (d : Group) → GroupHeld (get_or groups.list g d)
group_at_held h g below d = rw (held_at h g below d) (group_held _ (h.readable g (omega (arith, held_count h))))

-- ---- a row of commands

after_each : (e : Entry) (Ls : List (List ℕ)) → Each Ls → Each (groups_after e Ls)
after_each e Ls each g h =
    let at : ℕ = e.command.group in
    let left : List ℕ = job_levels e.command.action e.target (levels_for Ls e) in
    let inside : g < length Ls = omega (arith, length-set Ls at left) in
    by_name g at
    (λ q t.
    let there : at < length Ls = omega arith in
    rw (q, get_or-set_same Ls at left [] there) (job_readable e.command.action e.target (levels_for Ls e) (each at there)))
    (λ ne t. rw (get_or-set_other Ls at g left [] ne) (each g inside))

pub answers_length : (Ls : List (List ℕ)) (es : List Entry) → length (answers Ls es) ≡ length es
unfolding answers
answers_length Ls es = turns.answers_length _ _ es Ls

pub groups_after_all_length : (Ls : List (List ℕ)) (es : List Entry) → length (groups_after_all Ls es) ≡ length Ls
unfolding groups_after_all
groups_after_all_length Ls es =
    left_keeps groups_after (λ (Ms : List (List ℕ)). length Ms ≡ length Ls) (λ e Ms same. length-set Ms e.command.group _ ∙ same) es Ls refl

groups_after_all_each : (Ls : List (List ℕ)) (es : List Entry) → Each Ls → Each (groups_after_all Ls es)
unfolding groups_after_all
groups_after_all_each Ls es = left_keeps groups_after Each after_each es Ls

-- whatever commands of a sheet without fault are done, the groups that they leave each have a permutation
pub groups_after_all_held : (c : Contents) (es : List Entry) → Valid c → GroupsHeld (groups_of (groups_after_all c.groups es))
groups_after_all_held c es v =
    groups_held (groups_after_all c.groups es) (omega (arith, v.few, groups_after_all_length c.groups es)) (groups_after_all_each c.groups es v.readable)

pub zeros_after_all_length : (zs : List Zero) (es : List Entry) → length (zeros_after_all zs es) ≡ length zs
unfolding zeros_after_all
zeros_after_all_length zs es =
    left_keeps zeros_after (λ (ys : List Zero). length ys ≡ length zs) (λ e ys same. length-set ys e.command.group _ ∙ same) es zs refl

-- and each has a zero beside it, and so a value
pub zeros_length : (c : Contents) → Valid c → length (zeros_left c) ≡ length (groups_left c)
zeros_length c v = zeros_after_all_length c.zeros c.entries ∙ v.zeros ∙ sym (groups_after_all_length c.groups c.entries)

pub values_length : (c : Contents) → Valid c → length (values_left c) ≡ length (groups_left c)
values_length c v = zipped_length value_of (zeros_left c) (groups_left c) (zeros_length c v)

-- ---- the loop over the commands of a sheet

-- after i commands
abbrev pub Progress : Sheet → List Pushes → Groups → ℕ → Type 0
Progress sheet said groups i =
    InTurn answer_to groups_after groups_of (contents_of sheet).entries (contents_of sheet).groups (replicate 1000 no_answer) groups said i

-- the zeros go beside it
abbrev pub ZerosSoFar : Sheet → List Zero → ℕ → Type 0
ZerosSoFar sheet zeros i = zeros ≡ padded 64 Old (zeros_after_all (contents_of sheet).zeros (take i (contents_of sheet).entries))

module _ {sheet : Sheet} (h : SheetHeld sheet) where
  pub sheet_count : sheet.count ≡ length (contents_of sheet).entries
  unfolding held_of
  sheet_count = ap (λ (s : Sheet). s.count) h.held

  pub count_few : sheet.count ≤ 1000
  count_few = omega (arith, sheet_count, h.valid.short)

  pub zeros_start : ZerosSoFar sheet sheet.zeros 0
  unfolding held_of zeros_after_all
  zeros_start = ap (λ (s : Sheet). s.zeros) h.held

  pub start : Progress sheet (replicate 1000 no_answer) sheet.groups 0
  unfolding held_of
  start = turn_none (omega (arith, h.valid.short, length-replicate 1000 no_answer)) (ap (λ (s : Sheet). s.groups) h.held)

  module _ {said : List Pushes} {groups : Groups} {i : ℕ} (v : Progress sheet said groups i) where
    left_is : groups ≡ groups_of (groups_after_all (contents_of sheet).groups (take i (contents_of sheet).entries))
    unfolding groups_after_all
    left_is = v.left

    left_count : groups.count ≡ length (contents_of sheet).groups
    left_count = ap (λ (x : Groups). x.count) left_is ∙ groups_after_all_length (contents_of sheet).groups (take i (contents_of sheet).entries)

    pub progress_held : GroupsHeld groups
    progress_held = rw left_is (groups_after_all_held (contents_of sheet) (take i (contents_of sheet).entries) h.valid)

    module _ (more : i < sheet.count) (d : Entry) where
      abbrev next : Entry
      next = get_or sheet.entries i d

      there : i < length (contents_of sheet).entries
      there = omega (arith, sheet_count)

      pub next_is : get_or (contents_of sheet).entries i d ≡ next
      next_is = get_or-take sheet.count sheet.entries i d more

      -- its group is at an index of the row
      module _ {g : ℕ} (is : g ≡ next.command.group) where
        pub index_below : (g < groups.count) × (groups.count ≤ 64)
        index_below =
            let named = h.valid.named i there in
            let same : get_or (contents_of sheet).entries i no_entry ≡ next = get_or_any (contents_of sheet).entries i no_entry d there ∙ next_is in
            rw (left_count, is) (rw same at named, h.valid.few)

        pub step : (z : Group) {answer : Pushes} {left : Group} → answer ≡ job_answer next.command.action next.target (levels_of (get_or groups.list g z))
            → left ≡ group_of (job_levels next.command.action next.target (levels_of (get_or groups.list g z)))
            → Progress sheet (set said i answer) (record { count = groups.count; list = set groups.list g left }) (i + 1)
        step z {answer} {left} said_so left_so =
            let Ls : List (List ℕ) = left_by groups_after (take i (contents_of sheet).entries) (contents_of sheet).groups in
            let inside : g < length Ls = omega (arith, index_below.0, ap (λ (x : Groups). x.count) v.left) in
            let levels : levels_of (get_or groups.list g z) ≡ levels_for Ls next =
            ap (λ (x : Groups). levels_of (get_or x.list g z)) v.left
            ∙ ap levels_of (groups_at Ls g inside z)
            ∙ group_levels (get_or Ls g [])
            ∙ ap (λ (k : ℕ). get_or Ls k []) is in
            let did : left ≡ group_of (job_levels next.command.action next.target (levels_for Ls next)) = left_so ∙ rw levels in
            turn_more v d there (said_so ∙ rw (next_is, levels)) (rw (next_is, did, v.left, ← is) (groups_set Ls g inside _))

        pub zeros_step : {zeros : List Zero} → ZerosSoFar sheet zeros i → (z : Zero) {r : Zero} → r ≡ job_zero next.command.action (get_or zeros g z)
            → ZerosSoFar sheet (set zeros g r) (i + 1)
        unfolding zeros_after_all
        zeros_step {zeros} so z {r} e =
            let zs : List Zero = zeros_after_all (contents_of sheet).zeros (take i (contents_of sheet).entries) in
            let inside : g < length zs =
            omega (arith, index_below.0, left_count, h.valid.zeros, zeros_after_all_length (contents_of sheet).zeros (take i (contents_of sheet).entries)) in
            let at : get_or zeros g z ≡ get_or zs next.command.group Old =
            ap (λ (l : List Zero). get_or l g z) so
            ∙ get_or-append zs _ z g inside
            ∙ get_or_any zs g z Old inside
            ∙ ap (λ (k : ℕ). get_or zs k Old) is in
            let after : set zs g r ≡ zeros_after_all (contents_of sheet).zeros (take (i + 1) (contents_of sheet).entries) =
            rw (e, at, is) (sym (rw (add-one i, ← next_is) (left_next zeros_after (contents_of sheet).entries (contents_of sheet).zeros i d there))) in
            ap (λ (l : List Zero). set l g r) so
            ∙ set-append_left zs _ g r inside
            ∙ rw (← length-set zs g r) (ap (padded 64 Old) after)

    pub end : {zeros : List Zero} {values : List ℕ} → sheet.count ≤ i → ZerosSoFar sheet zeros i
        → values ≡ padded 64 0 (zip_with value_of (take groups.count zeros) (groups_in groups))
        → ◌≡◌ {A = Outcome} (record { count = sheet.count; answers = said; groups = groups; zeros = zeros; values = values }) (outcome_of (contents_of sheet))
    unfolding outcome_of answers groups_after_all
    end {zeros} {values} all so e =
        let es : List Entry = (contents_of sheet).entries in
        let Ls : List (List ℕ) = groups_after_all (contents_of sheet).groups es in
        let done : length es ≤ i = omega (arith, sheet_count) in
        let answers_are = row_all 1000 no_answer v.answered done in
        let groups_are : groups ≡ groups_of Ls = turn_left v done in
        let zs : List Zero = zeros_left (contents_of sheet) in
        let zeros_are : zeros ≡ padded 64 Old zs = so ∙ rw (take_all i es done) in
        let long : length zs ≡ groups.count = zeros_after_all_length (contents_of sheet).zeros es ∙ h.valid.zeros ∙ sym left_count in
        let first : take groups.count zeros ≡ zs = ap (take groups.count) zeros_are ∙ take_at zs _ groups.count long in
        let values_are : values ≡ padded 64 0 (zip_with value_of zs Ls) = e ∙ rw (first, groups_are, groups_back Ls) in
        λ k. record { count = sheet_count k; answers = answers_are k; groups = groups_are k; zeros = zeros_are k; values = values_are k }
