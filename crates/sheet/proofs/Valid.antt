-- What is known of a sheet that was read without fault. Assumes nothing.
use mathlib.Core.Path.{◌≡◌, refl, sym, ap, ◌∙◌}
use mathlib.Core.Bool.{not, ◌&&◌, and-eq-true_iff}
use mathlib.Core.List.{List, [], map}
use Prim.Native.Nat.{ℕ, ◌≤◌, ◌<◌}
use native.Mathlib.Omega.{arith}
use borrow.Author.Tests.{leb-true, ltb-true, eqb-true, not-true}
use lib.Dec.{leb, ltb, eqb}
use lib.ListN.{length, length-map, get_or-eq_default, get_or-map}
use Rattle.theory.specs.Reasons.{sized}
use Rattle.theory.specs.Levels.{tied, read_number}
use Rattle.theory.proofs.Cases.{by_le}
use Rattle.theory.proofs.Refusal.{readable}
use Rattle.ranking.specs.declared.zero.Zero.{Zero}
use Rattle.sheet.specs.declared.held.Entry.{Entry}
use Rattle.sheet.specs.Bytes.{got, many, number}
use Rattle.sheet.specs.ZeroSection.{section, zeros_of, zeros_at}
use Rattle.sheet.specs.Sheet.{group, count_at, rewrite_at, store_at, change_at, body_at, command, Contents, command_row, commands, sheet}
use Rattle.sheet.specs.Held.{no_entry}
use Rattle.sheet.specs.Claims.{Each, Valid}
use Rattle.sheet.specs.Parts.{Small}
use Rattle.sheet.proofs.Inversion.{never, is_got, after_got, check_got, many_length, many_each}
use Rattle.sheet.proofs.ByKind.{by_kind}
use Rattle.sheet.proofs.ZeroSection.{zeros_length}

-- ---- a group, and the groups

module _ (s : List ℕ) where
  group_readable : (at : ℕ) (L : List ℕ) (end : ℕ) → group s at ≡ got L end → read_number L ≡ 0
  unfolding group read_number
  group_readable at L end e =
      let one = after_got (number 1 s at) _ e in
      let judged = check_got (sized one.0) _ _ one.3 in
      let more = after_got (many one.0 (number 2 s) one.1) _ judged.1 in
      let untied = check_got (not (tied more.0)) _ _ more.3 in
      let last = untied.1 in
      let is : more.0 ≡ L = cc in
      let long : one.0 ≡ length L = sym (many_length (number 2 s) one.0 one.1 L more.1 (more.2 ∙ rw is)) in
      rw (rw long at judged.0, not-true (tied L) (rw is at untied.0))

  pub groups_readable : (n at : ℕ) (groups : List (List ℕ)) (end : ℕ) → many n (group s) at ≡ got groups end
      → Each groups
  groups_readable = many_each (group s) (λ L. read_number L ≡ 0) group_readable []

-- ---- a command

body_group : (g n kind : ℕ) (s : List ℕ) (at : ℕ) (e : Entry) (end : ℕ) → body_at kind g n s at ≡ got e end → e.command.group ≡ g
unfolding count_at rewrite_at store_at change_at
body_group g n =
    by_kind (λ kind body. (s : List ℕ) (at : ℕ) (e : Entry) (end : ℕ) → body s at ≡ got e end → e.command.group ≡ g) g n
    (λ s at e end r. is_got (λ e end. e.command.group ≡ g) (after_got (number 4 s at) _ r).3 refl)
    (λ s at e end r. is_got (λ e end. e.command.group ≡ g) (after_got (many n (number 1 s) at) _ r).3 refl)
    (λ s at e end r. (
    let m = after_got (number 8 s at) _ r in
    is_got (λ e end. e.command.group ≡ g) (after_got (number 8 s m.1) _ m.3).3 refl))
    (λ s at e end r. is_got (λ e end. e.command.group ≡ g) r refl)
    (λ kind s at e end r. never r)

command_named : (sizes s : List ℕ) (at : ℕ) (e : Entry) (end : ℕ) → command sizes s at ≡ got e end → e.command.group < length sizes
unfolding command
command_named sizes s at e end r =
    let kind = after_got (number 1 s at) _ r in
    let g = after_got (number 1 s kind.1) _ kind.3 in
    let judged = check_got (ltb g.0 (length sizes)) _ _ g.3 in
    rw (body_group g.0 _ kind.0 s g.1 e end judged.1) (ltb-true g.0 (length sizes) judged.0)

-- ---- the zeros

zeros_parts : (G : ℕ) (s : List ℕ) (at : ℕ) (zeros : List Zero) (end : ℕ) → zeros_at G s at ≡ got zeros end
    → (numbers : List ℕ) × (section G s at ≡ got numbers end) × (zeros ≡ zeros_of G numbers) × (end ≡ length s)
unfolding zeros_at
zeros_parts G s at zeros end r =
    let found = after_got (section G s at) _ r in
    let whole = check_got (eqb found.1 (length s)) _ _ found.3 in
    is_got (λ zeros end. (numbers : List ℕ) × (section G s at ≡ got numbers end) × (zeros ≡ zeros_of G numbers) × (end ≡ length s)) whole.1
    (found.0, found.2, refl, eqb-true found.1 (length s) whole.0)

-- ---- the sheet

-- the counts, the groups, the commands and the zeros of a sheet, each read where the part before it ends
pub record Sections (s : List ℕ) (c : Contents) (end : ℕ) : Type 0 where
  pub first : ℕ
  pub middle : ℕ
  pub second : ℕ
  pub third : ℕ
  pub numbers : List ℕ
  pub count : number 1 s 0 ≡ got (length c.groups) first
  pub some : 1 ≤ length c.groups
  pub few : length c.groups ≤ 64
  pub groups : many (length c.groups) (group s) first ≡ got c.groups middle
  pub commands : number 2 s middle ≡ got (length c.entries) second
  pub short : length c.entries ≤ 1000
  pub entries : many (length c.entries) (command (map length c.groups) s) second ≡ got c.entries third
  pub named : section (length c.groups) s third ≡ got numbers end
  pub zeros : c.zeros ≡ zeros_of (length c.groups) numbers
  pub last : end ≡ length s

pub sections : (s : List ℕ) (c : Contents) (end : ℕ) → sheet s ≡ got c end → Sections s c end
unfolding sheet commands command_row
sections s c end r =
    let one = after_got (number 1 s 0) _ r in
    let range = check_got (leb 1 one.0 && leb one.0 64) _ _ one.3 in
    let bounds = (and-eq-true_iff (leb 1 one.0) (leb one.0 64)).0 range.0 in
    let row = after_got (many one.0 (group s) one.1) _ range.1 in
    let two = after_got (number 2 s row.1) _ row.3 in
    let few = check_got (leb two.0 1000) _ _ two.3 in
    let list = after_got (many two.0 (command (map length row.0) s) two.1) _ few.1 in
    let zeros = after_got (zeros_at (length row.0) s list.1) _ list.3 in
    let named = zeros_parts (length row.0) s list.1 zeros.0 zeros.1 zeros.2 in
    let groups : length row.0 ≡ one.0 = many_length (group s) one.0 one.1 row.0 row.1 row.2 in
    let entries : length list.0 ≡ two.0 = many_length (command (map length row.0) s) two.0 two.1 list.0 list.1 list.2 in
    is_got (Sections s) zeros.3 (record {
      first = one.1;
      middle = row.1;
      second = two.1;
      third = list.1;
      numbers = named.0;
      count = rw groups one.2;
      some = omega (arith, leb-true 1 one.0 bounds.0);
      few = omega (arith, leb-true one.0 64 bounds.1);
      groups = rw groups row.2;
      commands = rw entries two.2;
      short = omega (arith, leb-true two.0 1000 few.0);
      entries = rw entries list.2;
      named = named.1;
      zeros = named.2;
      last = named.3;
    })

-- what it says is in its ranges, and nothing follows it
pub valid : (s : List ℕ) (c : Contents) (end : ℕ) → sheet s ≡ got c end → Valid c × (end ≡ length s)
valid s c end r =
    let p = sections s c end r in
    let sizes : length (map length c.groups) ≡ length c.groups = length-map c.groups length in (
      record {
        some = p.some;
        few = p.few;
        readable = groups_readable s _ p.first c.groups p.middle p.groups;
        zeros = ap length p.zeros ∙ zeros_length (length c.groups) p.numbers;
        short = p.short;
        named = rw (← sizes) (
            many_each (command (map length c.groups) s) (λ e. e.command.group < length (map length c.groups)) (command_named (map length c.groups) s) no_entry
            _ p.second c.entries p.third p.entries);
      },
      p.last,
    )

-- no group of a sheet has more than twenty cells, nor has what stands past them
pub small : (groups : List (List ℕ)) → Each groups → Small (map length groups)
small groups all g =
    rw (get_or-map length groups g [])
    (by_le (length groups) g
    (λ h. rw (get_or-eq_default groups [] h) (omega arith))
    (λ h. (readable (all g h)).many))
