-- A sheet that was read without fault is held as it says, is not refused, and is written again: what was read from a place on is spelled by the bytes that
-- stand there. Assumes nothing.
use mathlib.Core.Path.{◌≡◌, refl, ap, sym, ◌∙◌}
use mathlib.Core.Bool.{true, not, ◌&&◌, and-eq-true_iff}
use mathlib.Core.List.{List, [], ◌∷◌, ◌++◌, map, append_assoc, append-nil, flat_map}
use Prim.Native.Nat.{ℕ, zero, suc, ◌+◌, ◌-◌, ◌≤◌, ◌<◌}
use native.Mathlib.Omega.{arith}
use borrow.Author.Tests.{leb-true, ltb-true, le-leb, lt-ltb, eq-eqb}
use lib.Dec.{leb, ltb}
use lib.ListN.{length, take, drop, get_or, length-take, length-drop, length-map, take-append-drop, get_or-map}
use lib.Seq.{drop-drop, drop-length, drop_at, take_at, take-append_seam}
use Rattle.theory.specs.Lists.{Every}
use Rattle.theory.specs.Reasons.{sized}
use Rattle.theory.specs.Levels.{tied, read_number}
use Rattle.theory.proofs.Cases.{by_name}
use Rattle.permutation.specs.Records.{list_of, record_of}
use Rattle.permutation.proofs.Records.{zeros_all}
use Rattle.sheet.specs.Bytes.{Got, got, many, little, number, bytes_of}
use Rattle.sheet.specs.ZeroSection.{rising, named_groups, section}
use Rattle.sheet.specs.Sheet.{group, entry, count_at, rewrite_at, store_at, change_at, body_at, command, Contents, sheet}
use Rattle.sheet.specs.Held.{group_of, groups_of, no_entry, no_group, held_of}
use Rattle.sheet.specs.Typed.{Bits}
use Rattle.sheet.specs.declared.held.Action.TheVariants.{Rewrite}
use Rattle.sheet.specs.declared.held.Entry.{Entry}
use Rattle.sheet.proofs.Inversion.{never, is_got, after_got, check_got, many_length, many_each}
use Rattle.sheet.proofs.ByKind.{by_kind}
use Rattle.sheet.proofs.Valid.{Sections, sections, valid}
use Rattle.sheet.proofs.InMemory.{group_levels, groups_back, groups_at}
use Rattle.theory.proofs.Every.{every_nth, every_take, every_drop, every_map}
use Rattle.encoding.specs.CommandKinds.{kind_of, targeted, body_bytes}
use Rattle.encoding.specs.SheetBytes.{group_bytes, head_bytes, entry_bytes, groups_bytes, commands_bytes, numbers_on_new, section_bytes, sheet_bytes}
use Rattle.encoding.specs.Said.{entry_said, said}
use Rattle.encoding.specs.Faults.{group_number, groups_number, target_number, action_number, entry_number, commands_number, sheet_number}
use Rattle.encoding.proofs.Numbers.{little_bytes}
use Rattle.encoding.proofs.Judged.{none_first}
use Rattle.encoding.proofs.NewNumbers.{numbers_back}

-- ---- bytes that stand from one place to another

record Stands (s : List ℕ) (at end : ℕ) (xs : List ℕ) : Type 0 where
  is : drop at s ≡ xs ++ drop end s

stands_then : {s : List ℕ} {at mid end : ℕ} {a b : List ℕ} → Stands s at mid a → Stands s mid end b → Stands s at end (a ++ b)
stands_then {s} {at} {mid} {end} {a} {b} p q = record { is = p.is ∙ ap (λ (l : List ℕ). a ++ l) q.is ∙ sym (append_assoc a b (drop end s)) }

-- a reader p of s reads what w spells
abbrev Spells : {A : Type 0} → List ℕ → (ℕ → Got A) → (A → List ℕ) → Type 0
Spells {A} s p w = (at : ℕ) (x : A) (end : ℕ) → p at ≡ got x end → Stands s at end (w x)

many_spells : {A : Type 0} (s : List ℕ) (p : ℕ → Got A) (w : A → List ℕ) → Spells s p w → (n : ℕ) → Spells s (many n p) (flat_map w)
unfolding many flat_map
many_spells s p w back zero at xs end e = is_got (λ xs end. Stands s at end (flat_map w xs)) e (record { is = refl })
many_spells s p w back (suc n) at xs end e =
    let one = after_got (p at) _ e in
    let more = after_got (many n p one.1) _ one.3 in
    is_got (λ xs end. Stands s at end (flat_map w xs)) more.3
    (stands_then (back at one.0 one.1 one.2) (many_spells s p w back n one.1 more.0 more.1 more.2))

number_spells : (s : List ℕ) → Bits 8 s → (k : ℕ) → Spells s (number k s) (bytes_of k)
unfolding number
number_spells s bytes k at x end e =
    let there = check_got (leb (at + k) (length s)) _ _ e in
    let fits : at + k ≤ length s = leb-true _ _ there.0 in
    let part = take k (drop at s) in
    let long : length part ≡ k = rw (length-take, length-drop) (omega arith) in
    let spelled : bytes_of k (little part) ≡ part =
    rw long at (little_bytes part (every_take (λ b. b < 256) k (drop at s) (every_drop (λ b. b < 256) at s bytes))) in
    is_got (λ x end. Stands s at end (bytes_of k x)) there.1 (record { is = rw (spelled, ← drop-drop k at s) (sym (take-append-drop k (drop at s))) })

-- ---- a group

group_spells : (s : List ℕ) → Bits 8 s → Spells s (group s) (λ L. group_bytes (group_of L))
unfolding group group_bytes
group_spells s bytes at L end e =
    let one = after_got (number 1 s at) _ e in
    let n = one.0 in
    let size = check_got (sized n) _ _ one.3 in
    let row = after_got (many n (number 2 s) one.1) _ size.1 in
    let clear = check_got (not (tied row.0)) _ _ row.3 in
    let long : length row.0 ≡ n = many_length (number 2 s) n one.1 row.0 row.1 row.2 in
    let count : Stands s at one.1 (bytes_of 1 (length row.0)) = rw long (number_spells s bytes 1 at n one.1 one.2) in
    is_got (λ L end. Stands s at end (group_bytes (group_of L))) clear.1
    (rw (group_levels row.0) (stands_then count (many_spells s (number 2 s) (bytes_of 2) (number_spells s bytes 2) n one.1 row.0 row.1 row.2)))

group_none : (L : List ℕ) → read_number L ≡ 0 → group_number (group_of L) ≡ 0
unfolding group_number read_number
group_none L z = rw (group_levels L) z

-- ---- a command

-- what is known of a command that was read from after its group number on
record BodyRead (s : List ℕ) (kind g n at : ℕ) (e : Entry) (end : ℕ) : Type 0 where
  group_is : e.command.group ≡ g
  kind_is : kind_of e.command.action ≡ kind
  same : entry_said e ≡ e
  taken : action_number n e.command.action e.target ≡ 0
  stands : Bits 8 s → Stands s at end (body_bytes e.command.action (list_of e.target))

body_read : (g n kind : ℕ) (s : List ℕ) (at : ℕ) (e : Entry) (end : ℕ) → body_at kind g n s at ≡ got e end → BodyRead s kind g n at e end
unfolding count_at rewrite_at store_at change_at kind_of targeted body_bytes target_number
body_read g n =
    by_kind (λ kind body. (s : List ℕ) (at : ℕ) (e : Entry) (end : ℕ) → body s at ≡ got e end → BodyRead s kind g n at e end) g n
    (λ s at e end r. (
    let k = after_got (number 4 s at) _ r in
    is_got (BodyRead s 1 g n at) k.3 (record {
      group_is = refl;
      kind_is = refl;
      same = refl;
      taken = refl;
      stands = λ bytes. number_spells s bytes 4 at k.0 k.1 k.2;
    })))
    (λ s at e end r. (
    let row = after_got (many n (number 1 s) at) _ r in
    let names = row.0 in
    let long : length names ≡ n = many_length (number 1 s) n at names row.1 row.2 in
    let front : list_of (record_of names) ≡ names = take-append_seam names _ in
    is_got (BodyRead s 2 g n at) row.3 (record {
      group_is = refl;
      kind_is = refl;
      same = ap (entry g Rewrite) front;
      taken = rw (eq-eqb (length names) n long, drop_at names _ n long, zeros_all (20 - length names));
      stands = λ bytes. rw front (many_spells s (number 1 s) (bytes_of 1) (number_spells s bytes 1) n at names row.1 row.2);
    })))
    (λ s at e end r. (
    let m = after_got (number 8 s at) _ r in
    let symbol = after_got (number 8 s m.1) _ m.3 in
    is_got (BodyRead s 3 g n at) symbol.3 (record {
      group_is = refl;
      kind_is = refl;
      same = refl;
      taken = refl;
      stands = λ bytes.
          stands_then (number_spells s bytes 8 at m.0 m.1 m.2) (number_spells s bytes 8 m.1 symbol.0 symbol.1 symbol.2);
    })))
    (λ s at e end r.
    is_got (BodyRead s 4 g n at) r (record { group_is = refl; kind_is = refl; same = refl; taken = refl; stands = λ bytes. record { is = refl } }))
    (λ kind s at e end r. never r)

-- a command that is held as it says, is not refused where groups have these sizes, and is spelled by what stands there
record CommandRead (sizes s : List ℕ) (at : ℕ) (e : Entry) (end : ℕ) : Type 0 where
  same : entry_said e ≡ e
  named : e.command.group < length sizes
  taken : action_number (get_or sizes e.command.group 0) e.command.action e.target ≡ 0
  stands : Bits 8 s → Stands s at end (entry_bytes e)

command_read : (sizes s : List ℕ) (at : ℕ) (e : Entry) (end : ℕ) → command sizes s at ≡ got e end → CommandRead sizes s at e end
unfolding command head_bytes
command_read sizes s at e end r =
    let kind = after_got (number 1 s at) _ r in
    let g = after_got (number 1 s kind.1) _ kind.3 in
    let judged = check_got (ltb g.0 (length sizes)) _ _ g.3 in
    let body = body_read g.0 (get_or sizes g.0 0) kind.0 s g.1 e end judged.1 in
    record {
      same = body.same;
      named = rw body.group_is (ltb-true g.0 (length sizes) judged.0);
      taken = rw body.group_is body.taken;
      stands = λ bytes. rw (body.group_is, body.kind_is)
          (stands_then (stands_then (number_spells s bytes 1 at kind.0 kind.1 kind.2) (number_spells s bytes 1 kind.1 g.0 g.1 g.2))
          (body.stands bytes));
    }

-- ---- the zeros

-- bytes of a section that is there
some_bytes : (ns : List ℕ) → 1 ≤ length ns → section_bytes ns ≡ bytes_of 1 (length ns) ++ flat_map (bytes_of 1) ns
unfolding section_bytes
some_bytes [] h = absurd (omega arith)
some_bytes (g ∷ gs) h = refl

-- what is known of the numbers of a section, or of none
record SectionRead (G : ℕ) (s : List ℕ) (at : ℕ) (ns : List ℕ) (end : ℕ) : Type 0 where
  rise : rising G 0 ns ≡ true
  stands : Bits 8 s → Stands s at end (section_bytes ns)

section_read : (G : ℕ) (s : List ℕ) (at : ℕ) (ns : List ℕ) (end : ℕ) → section G s at ≡ got ns end → SectionRead G s at ns end
unfolding section named_groups rising section_bytes
section_read G s at ns end =
    by_name at (length s)
    (λ is t. rw t (λ e. is_got (SectionRead G s at) e (record { rise = refl; stands = λ bytes. record { is = refl } })))
    (λ ne t. rw t (λ e. (
    let one = after_got (number 1 s at) _ e in
    let range = check_got (leb 1 one.0 && leb one.0 G) _ _ one.3 in
    let row = after_got (many one.0 (number 1 s) one.1) _ range.1 in
    let rise = check_got (rising G 0 row.0) _ _ row.3 in
    let long : length row.0 ≡ one.0 = many_length (number 1 s) one.0 one.1 row.0 row.1 row.2 in
    let some = leb-true 1 one.0 ((and-eq-true_iff (leb 1 one.0) (leb one.0 G)).0 range.0).0 in
    is_got (SectionRead G s at) rise.1 (record {
      rise = rise.0;
      stands = λ bytes. (
          let count : Stands s at one.1 (bytes_of 1 (length row.0)) = rw long (number_spells s bytes 1 at one.0 one.1 one.2) in
          rw (some_bytes row.0 (omega arith))
          (stands_then count (many_spells s (number 1 s) (bytes_of 1) (number_spells s bytes 1) one.0 one.1 row.0 row.1 row.2)));
    }))))

-- ---- the sheet

every_said : (es : List Entry) → Every (λ e. entry_said e ≡ e) es → map entry_said es ≡ es
every_said [] h = refl
every_said (e ∷ es) h = rw (h.0, every_said es h.1)

flat_map_map : {A B : Type 0} (w : B → List ℕ) (f : A → B) (xs : List A) → flat_map w (map f xs) ≡ flat_map (λ x. w (f x)) xs
unfolding flat_map
flat_map_map w f [] = refl
flat_map_map w f (x ∷ xs) = rw (flat_map_map w f xs)

module _ (s : List ℕ) (c : Contents) (end : ℕ) (read : sheet s ≡ got c end) where
  abbrev sizes : List ℕ
  sizes = map length c.groups

  parts : Sections s c end
  parts = sections s c end read

  -- each command that was read
  each : (P : Entry → Type 0) → ((at : ℕ) (e : Entry) (end : ℕ) → CommandRead sizes s at e end → P e) → Every P c.entries
  each P so =
      every_nth P no_entry c.entries
      (many_each (command sizes s) P (λ at e end r. so at e end (command_read sizes s at e end r)) no_entry (length c.entries) parts.second c.entries parts.third parts.entries)

  groups_front : take (length c.groups) (groups_of c.groups).list ≡ map group_of c.groups
  groups_front = take_at (map group_of c.groups) _ _ (length-map c.groups group_of)

  entries_front : take (length c.entries) (held_of c).entries ≡ c.entries
  unfolding held_of
  entries_front = take-append_seam c.entries _

  zeros_front : take (length c.groups) (held_of c).zeros ≡ c.zeros
  unfolding held_of
  zeros_front = take_at c.zeros _ _ (valid s c end read).0.zeros

  pub says : said (held_of c) ≡ c
  unfolding said held_of
  says = rw (groups_back c.groups, zeros_front, entries_front, every_said c.entries (each (λ e. entry_said e ≡ e) (λ at e end r. r.same)))

  entry_none : (at : ℕ) (e : Entry) (end : ℕ) → CommandRead sizes s at e end → entry_number (groups_of c.groups) e ≡ 0
  unfolding entry_number
  entry_none at e end r =
      let g = e.command.group in
      let below : g < length c.groups = omega (arith, r.named, length-map c.groups length) in
      let held : get_or (groups_of c.groups).list g no_group ≡ group_of (get_or c.groups g []) = groups_at c.groups g below no_group in
      let size : get_or sizes g 0 ≡ length (get_or c.groups g []) = get_or-map length c.groups g [] in
      rw (lt-ltb g (length c.groups) below, held) (rw size at r.taken)

  pub not_refused : sheet_number (held_of c) ≡ 0
  unfolding sheet_number groups_number commands_number held_of
  not_refused =
      let v = (valid s c end read).0 in
      let groups = every_map (λ L. read_number L ≡ 0) (λ g. group_number g ≡ 0) group_of group_none c.groups (every_nth (λ L. read_number L ≡ 0) [] c.groups v.readable) in
      let entries = each (λ e. entry_number (groups_of c.groups) e ≡ 0) entry_none in
      rw (
        le-leb 1 (length c.groups) v.some,
        le-leb (length c.groups) 64 v.few,
        groups_front,
        none_first group_number (map group_of c.groups) groups,
        le-leb (length c.entries) 1000 v.short,
        entries_front,
        none_first (entry_number (groups_of c.groups)) c.entries entries,
      )

  pub written_again : Bits 8 s → sheet_bytes (held_of c) ≡ s
  unfolding sheet_bytes groups_bytes commands_bytes held_of
  written_again bytes =
      let p = parts in
      let groups =
      stands_then (number_spells s bytes 1 0 _ p.first p.count)
      (many_spells s (group s) (λ L. group_bytes (group_of L)) (group_spells s bytes) _ p.first c.groups p.middle p.groups) in
      let entries =
      stands_then (number_spells s bytes 2 p.middle _ p.second p.commands)
      (many_spells s (command sizes s) entry_bytes (λ at e end r. (command_read sizes s at e end r).stands bytes) _ p.second c.entries p.third p.entries) in
      let zeros = section_read (length c.groups) s p.third p.numbers end p.named in
      let numbers : numbers_on_new 0 c.zeros ≡ p.numbers = ap (numbers_on_new 0) p.zeros ∙ numbers_back (length c.groups) p.numbers zeros.rise in
      let nothing : drop end s ≡ [] = rw p.last (drop-length s) in
      rw (groups_front, flat_map_map group_bytes group_of c.groups, entries_front, zeros_front, numbers)
      (sym ((stands_then groups (stands_then entries (zeros.stands bytes))).is ∙ rw (nothing, append-nil)))
