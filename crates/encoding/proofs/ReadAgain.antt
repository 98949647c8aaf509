-- What the bytes of a held sheet are read as: what it says, or the fault that its number is of. Assumes nothing.
use mathlib.Core.Path.{◌≡◌, refl, sym, ap, ◌∙◌}
use mathlib.Core.Bool.{true, cond, ◌&&◌, and-eq-true_iff}
use mathlib.Core.List.{List, [], ◌∷◌, ◌++◌, map, append_assoc, append-nil, flat_map}
use Prim.Native.Nat.{ℕ, ◌+◌, ◌*◌, ◌^◌, ◌≤◌, ◌<◌}
use native.Mathlib.Omega.{arith}
use borrow.Author.Tests.{leb-true, ltb-true, le-leb, eq-eqb, ne_eqb}
use lib.Dec.{lit<, leb, ltb}
use lib.ListN.{length, take, drop, get_or, length-append, length-map}
use lib.Seq.{length-take-le, drop-append_seam, take_at}
use Rattle.theory.specs.Lists.{Every}
use Rattle.theory.specs.Reasons.{sized}
use Rattle.theory.specs.Levels as levels
use Rattle.theory.proofs.Cases.{by_test, by_name}
use Rattle.permutation.specs.Records.{list_of, all_zero}
use Rattle.permutation.specs.declared.answers.Permutation.{Permutation}
use Rattle.sheet.specs.Bytes.{missized, tied, ill_formed, got, after, check, many, number, bytes_of}
use Rattle.sheet.specs.ZeroSection.{rising, named_groups, section, zeros_of, zeros_at}
use Rattle.sheet.specs.Sheet.{group, entry, count_at, rewrite_at, store_at, change_at, body_at, command, command_row, commands, sheet}
use Rattle.sheet.specs.Held.{no_group, levels_of, groups_in}
use Rattle.sheet.specs.Typed.{Bits, GroupTyped, ActionTyped, EntryTyped, SheetTyped}
use Rattle.sheet.specs.declared.held.Action.{Action}
use Rattle.sheet.specs.declared.held.Action.TheVariants.{Count, Rewrite, Store, ChangeZero}
use Rattle.sheet.specs.declared.held.Group.{Group}
use Rattle.sheet.specs.declared.held.Groups.{Groups}
use Rattle.ranking.specs.declared.zero.Zero.{Zero}
use Rattle.sheet.specs.declared.held.Entry.{Entry}
use Rattle.sheet.specs.declared.held.Sheet.{Sheet}
use Rattle.sheet.proofs.Typed.{groups_there, entries_there}
use Rattle.sheet.proofs.ByteNumbers.{number_there}
use Rattle.theory.proofs.Every.{every_take, every_so, every_both}
use Rattle.encoding.specs.CommandKinds.{kind_of, targeted, body_bytes}
use Rattle.encoding.specs.SheetBytes.{group_bytes, head_bytes, entry_bytes, groups_bytes, commands_bytes, numbers_on_new, section_bytes, sheet_bytes}
use Rattle.encoding.specs.Said.{entry_said, said}
use Rattle.encoding.specs.Faults.{group_number, groups_number, target_number, action_number, entry_number, commands_number, sheet_number}
use Rattle.encoding.specs.Claims.{CountsFit}
use Rattle.encoding.proofs.Numbers.{bytes_length, flat_map_length, bytes_little}
use Rattle.encoding.proofs.Verdicts.{Verdict, no_fault, verdict_got, verdict_fault, verdict_check, verdict_after, verdict_then, Judges, many_judges}
use Rattle.encoding.proofs.Accepted.{GroupsTaken, groups_taken, group_at_lem, sizes_long, size_at}
use Rattle.encoding.proofs.NewNumbers.{rising_below, numbers_rise, numbers_few, zeros_back}

-- ---- numbers: behind anything, before anything

number_reads : (k : ℕ) (s pre post : List ℕ) (x : ℕ) → s ≡ pre ++ (bytes_of k x ++ post) → x < 256 ^ k
    → number k s (length pre) ≡ got x (length (pre ++ bytes_of k x))
number_reads k s pre post x e h =
    let far : length (pre ++ bytes_of k x) ≡ length pre + k = length-append pre _ ∙ rw (bytes_length k x) in
    let long : length s ≡ length pre + (k + length post) = rw e (length-append pre _ ∙ rw (length-append (bytes_of k x) post, bytes_length k x)) in
    let part : take k (drop (length pre) s) ≡ bytes_of k x = rw (e, drop-append_seam) (take_at (bytes_of k x) post k (bytes_length k x)) in
    number_there s k (length pre) (omega arith) ∙ rw (part, bytes_little k x h, far)

numbers_read : (k : ℕ) (xs : List ℕ) → Every (λ x. x < 256 ^ k) xs → (s pre post : List ℕ) → s ≡ pre ++ (flat_map (bytes_of k) xs ++ post)
    → many (length xs) (number k s) (length pre) ≡ got xs (length (pre ++ flat_map (bytes_of k) xs))
unfolding many after flat_map
numbers_read k [] ok s pre post e = rw append-nil
numbers_read k (x ∷ xs) ok s pre post e =
    let here : s ≡ pre ++ (bytes_of k x ++ (flat_map (bytes_of k) xs ++ post)) = e ∙ simp append_assoc in
    let one = number_reads k s pre (flat_map (bytes_of k) xs ++ post) x here ok.0 in
    let rest = numbers_read k xs ok.1 s (pre ++ bytes_of k x) post (here ∙ simp append_assoc) in
    rw (one, rest, append_assoc)

-- ---- a group

group_judges : Judges group group_bytes group_number levels_of (λ g. (g.n < 2 ^ 8) × GroupTyped g)
unfolding group group_bytes group_number after check
group_judges s pre post g e ok =
    let n = g.n in
    let L = levels_of g in
    let a = bytes_of 1 n in
    let b = flat_map (bytes_of 2) L in
    let here : s ≡ pre ++ (a ++ (b ++ post)) = e ∙ simp append_assoc in
    let size = number_reads 1 s pre (b ++ post) n here ok.0 in
    let row = numbers_read 2 L (every_take (λ l. l < 2 ^ 16) n g.levels ok.1.bits) s (pre ++ a) post (here ∙ simp append_assoc) in
    rw size (by_test (sized n)
    (λ fits.
    let few = leb-true n 20 ((and-eq-true_iff (leb 2 n) (leb n 20)).0 fits).1 in
    let long : length L ≡ n = length-take-le n g.levels (omega (arith, ok.1.long, few)) in
    let read = rw (long, append_assoc) at row in
    rw (fits, read) (by_test (levels.tied L) (λ t. rw t (verdict_fault tied refl)) (λ t. rw t (verdict_got refl))))
    (λ out. rw out (verdict_fault missized refl)))

-- ---- a command

kind_small : (a : Action) → kind_of a < 256 ^ 1
unfolding kind_of
kind_small (Count k) = lit< tt
kind_small Rewrite = lit< tt
kind_small (Store m symbol) = lit< tt
kind_small ChangeZero = lit< tt

-- what follows the group number, on a group of n cells
body_judges : (g n : ℕ) → n ≤ 20 → (a : Action) (t : Permutation) → ActionTyped a → length t.cells ≡ 20 → Bits 8 t.cells
    → (s pre post : List ℕ) → s ≡ pre ++ (body_bytes a (list_of t) ++ post)
    → Verdict (body_at (kind_of a) g n s (length pre)) (action_number n a t) (entry g a (cond (targeted a) (list_of t) [])) (length (pre ++ body_bytes a (list_of t)))
unfolding kind_of targeted body_bytes body_at count_at rewrite_at store_at change_at target_number ActionTyped after
body_judges g n few (Count k) t typed long fit s pre post e = verdict_got (rw (number_reads 4 s pre post k e typed))
body_judges g n few Rewrite t typed long fit s pre post e =
    by_name t.n n
    (λ same q.
    let count : length (list_of t) ≡ n = length-take-le t.n t.cells (omega arith) ∙ same in
    let names = rw count at (numbers_read 1 (list_of t) (every_take (λ b. b < 2 ^ 8) t.n t.cells fit) s pre post e) in
    rw (q, names) (by_test (all_zero (drop n t.cells))
    (λ z. rw z (verdict_got refl))
    (λ z. rw z (record { good = λ z. absurd (omega arith); bad = λ f z. absurd ((no_fault f).1 (sym z)) }))))
    (λ other q. rw q (record { good = λ z. absurd (omega arith); bad = λ f z. absurd ((no_fault f).0 (sym z)) }))
body_judges g n few (Store m symbol) t typed long fit s pre post e =
    let a = bytes_of 8 m in
    let b = bytes_of 8 symbol in
    let here : s ≡ pre ++ (a ++ (b ++ post)) = e ∙ simp append_assoc in
    let one = number_reads 8 s pre (b ++ post) m here typed.0 in
    let two = number_reads 8 s (pre ++ a) post symbol (here ∙ simp append_assoc) typed.1 in
    verdict_got (rw (one, two, append_assoc))
body_judges g n few ChangeZero t typed long fit s pre post e = verdict_got (rw append-nil)

module _ (gs : Groups) (room : length gs.list ≡ 64) (groups : Every GroupTyped gs.list) (t : GroupsTaken gs) where
  abbrev sizes : List ℕ
  sizes = map length (groups_in gs)

  entry_judges : Judges (command sizes) entry_bytes (entry_number gs) entry_said EntryTyped
  unfolding command head_bytes entry_number after
  entry_judges s pre post e is typed =
      let g = e.command.group in
      let action = e.command.action in
      let a = bytes_of 1 (kind_of action) in
      let b = bytes_of 1 g in
      let d = body_bytes action (list_of e.target) in
      let here : s ≡ pre ++ (a ++ (b ++ (d ++ post))) = is ∙ simp append_assoc in
      let kind = number_reads 1 s pre (b ++ (d ++ post)) (kind_of action) here (kind_small action) in
      let named = number_reads 1 s (pre ++ a) (d ++ post) g (here ∙ simp append_assoc) typed.group in
      let end : ((pre ++ a) ++ b) ++ d ≡ pre ++ ((a ++ b) ++ d) = simp append_assoc in
      rw (kind, named, sizes_long gs room t) (verdict_check (ltb g gs.count) ill_formed (λ yes.
      let below = ltb-true g gs.count yes in
      rw (size_at gs room t groups g below, ← end)
      (body_judges g (get_or gs.list g no_group).n (group_at_lem gs room t g below).few action e.target typed.action typed.long typed.bits
      s ((pre ++ a) ++ b) post (here ∙ simp append_assoc))))

-- ---- the zeros, to the end of the sheet

section_reads : (G : ℕ) (ns s pre : List ℕ) → s ≡ pre ++ section_bytes ns → rising G 0 ns ≡ true → length ns ≤ G → G ≤ 64
    → zeros_at G s (length pre) ≡ got (zeros_of G ns) (length s)
unfolding section_bytes zeros_at section named_groups after check
section_reads G [] s pre e t few most =
    let here : length pre ≡ length s = ap length (sym (append-nil pre) ∙ sym e) in
    rw (eq-eqb (length pre) (length s) here, eq-eqb (length pre) (length s) here, here)
section_reads G (g ∷ gs) s pre e t few most =
    let ns = g ∷ gs in
    let a = bytes_of 1 (length ns) in
    let b = flat_map (bytes_of 1) ns in
    let count = number_reads 1 s pre b (length ns) e (omega arith) in
    let small = every_so (λ g. g < G) (λ g. g < 256 ^ 1) (λ g h. omega arith) ns (rising_below G 0 ns t) in
    let there : s ≡ (pre ++ a) ++ (b ++ []) = e ∙ simp (append_assoc, append-nil) in
    let numbers = numbers_read 1 ns small s (pre ++ a) [] there in
    let end : length ((pre ++ a) ++ b) ≡ length s = ap length (append_assoc pre a b ∙ sym e) in
    let far : length s ≡ length pre + (1 + 1 * length ns) =
    ap length e ∙ length-append pre (a ++ b) ∙ rw (length-append a b, bytes_length 1 (length ns), flat_map_length 1 ns) in
    rw (ne_eqb (length pre) (length s) (λ q. omega arith), count, le-leb 1 (length ns) (omega arith), le-leb (length ns) G few, numbers, t, eq-eqb _ _ end, end)

-- ---- the sheet

module _ (h : Sheet) (typed : SheetTyped h) (fits : CountsFit h) where
  abbrev gs : Groups
  gs = h.groups

  abbrev ls : List Group
  ls = take gs.count gs.list

  abbrev es : List Entry
  es = take h.count h.entries

  abbrev front : List ℕ
  front = bytes_of 1 gs.count ++ flat_map group_bytes ls

  abbrev zs : List Zero
  zs = take gs.count h.zeros

  abbrev middle : List ℕ
  middle = bytes_of 2 h.count ++ flat_map entry_bytes es

  abbrev last : List ℕ
  last = section_bytes (numbers_on_new 0 zs)

  abbrev back : List ℕ
  back = middle ++ last

  -- behind the groups and the commands
  zeros_read : GroupsTaken gs → zeros_at (length (groups_in gs)) (front ++ back) (length (front ++ middle)) ≡ got zs (length (front ++ back))
  zeros_read t =
      let G = length (groups_in gs) in
      let count : G ≡ gs.count = length-map ls levels_of ∙ groups_there gs typed.groups_long t.few in
      let long : length zs ≡ G = length-take-le gs.count h.zeros (omega (arith, t.few, typed.zeros_long)) ∙ sym count in
      let here : front ++ back ≡ (front ++ middle) ++ last = sym (append_assoc front middle last) in
      section_reads G (numbers_on_new 0 zs) (front ++ back) (front ++ middle) here (numbers_rise G 0 0 zs (omega arith) (omega arith))
      (omega (arith, numbers_few 0 zs)) (omega (arith, t.few))
      ∙ ap (λ (l : List Zero). got l (length (front ++ back))) (zeros_back G zs long)

  commands_judged : GroupsTaken gs → Verdict (commands (groups_in gs) (front ++ back) (length front)) (commands_number h) (said h) (length (front ++ back))
  unfolding commands command_row commands_number said after check
  commands_judged t =
      let s = front ++ back in
      let d = bytes_of 2 h.count in
      let f = flat_map entry_bytes es in
      let parts : s ≡ front ++ (d ++ (f ++ last)) = simp append_assoc in
      let count = number_reads 2 s front (f ++ last) h.count parts fits.commands in
      let end : (front ++ d) ++ f ≡ front ++ middle = append_assoc front d f in
      rw count (verdict_check (leb h.count 1000) ill_formed (λ yes.
      let long = entries_there h typed (leb-true h.count 1000 yes) in
      let read =
      rw (long, end) at (many_judges (command (map length (groups_in gs))) entry_bytes (entry_number gs) entry_said EntryTyped
      (entry_judges gs typed.groups_long typed.groups t) es (every_take EntryTyped h.count h.entries typed.entries)
      s (front ++ d) last (parts ∙ simp append_assoc)) in
      verdict_then read _ (rw (zeros_read t))))

  pub judged : Verdict (sheet (sheet_bytes h)) (sheet_number h) (said h) (length (sheet_bytes h))
  unfolding sheet sheet_bytes groups_bytes commands_bytes sheet_number groups_number after check
  judged =
      let s = front ++ back in
      let a = bytes_of 1 gs.count in
      let b = flat_map group_bytes ls in
      let count = number_reads 1 s [] (b ++ back) gs.count (append_assoc a b back) fits.groups in
      by_test (leb 1 gs.count && leb gs.count 64)
      (λ yes.
      let few = leb-true gs.count 64 ((and-eq-true_iff (leb 1 gs.count) (leb gs.count 64)).0 yes).1 in
      let long = groups_there gs typed.groups_long few in
      let ok = every_both (λ (g : Group). g.n < 2 ^ 8) GroupTyped ls fits.sizes (every_take GroupTyped gs.count gs.list typed.groups) in
      let read =
      rw long at (many_judges group group_bytes group_number levels_of (λ g. (g.n < 2 ^ 8) × GroupTyped g) group_judges ls ok s a back (append_assoc a b back)) in
      rw (count, yes) (verdict_after read (λ groups at. commands groups s at) (λ none. commands_judged (groups_taken gs (rw yes none)))))
      (λ no. rw (count, no) (verdict_fault ill_formed refl))
