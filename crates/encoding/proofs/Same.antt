-- What a held sheet says is the same groups and commands. Assumes nothing.
use mathlib.Core.Path.{◌≡◌, sym, ap, ◌∙◌}
use mathlib.Core.Bool.{true}
use Prim.Native.Nat.{ℕ, ◌≤◌, ◌<◌}
use native.Mathlib.Omega.{arith}
use borrow.Author.Tests.{eqb-true}
use lib.Dec.{eqb}
use lib.ListN.{length, get_or, take, drop, length-map, get_or-append}
use lib.Seq.{length-take-le, get_or-take}
use Rattle.theory.proofs.Padding.{padded_map_at}
use Rattle.permutation.specs.Records.{list_of, record_of, all_zero}
use Rattle.permutation.specs.declared.answers.Permutation.{Permutation}
use Rattle.permutation.proofs.Records.{record_back}
use Rattle.ranking.specs.declared.zero.Zero.TheVariants.{Old}
use Rattle.sheet.specs.Held.{no_entry, no_group, group_of, groups_of, held_of, levels_of, groups_in}
use Rattle.sheet.specs.Typed.{EntryTyped, SheetTyped}
use Rattle.sheet.specs.declared.held.Group.{Group}
use Rattle.sheet.specs.declared.held.Entry.{Entry}
use Rattle.sheet.specs.declared.held.Sheet.{Sheet}
use Rattle.sheet.proofs.InMemory.{group_levels, groups_at}
use Rattle.sheet.proofs.Typed.{groups_there, entries_there}
use Rattle.theory.proofs.Every.{every_at}
use Rattle.encoding.specs.CommandKinds.{targeted}
use Rattle.encoding.specs.Said.{entry_said, said}
use Rattle.encoding.specs.Faults.{target_number, sheet_number}
use Rattle.encoding.specs.Claims.{Same}
use Rattle.encoding.proofs.Judged.{passed}
use Rattle.encoding.proofs.Accepted.{accepted, group_at_lem, levels_at, levels_long, entry_taken, entry_at}

-- a target that is not refused is the record of its names
target_back : (n : ℕ) (t : Permutation) → n ≤ 20 → length t.cells ≡ 20 → target_number n t ≡ 0 → record_of (list_of t) ≡ t
unfolding target_number
target_back n t few long z =
    let fits = passed (eqb t.n n) (λ e. omega arith) z in
    let clear = passed (all_zero (drop n t.cells)) (λ e. omega arith) fits.1 in
    let same : t.n ≡ n = eqb-true t.n n fits.0 in
    sym (record_back t (omega arith) long (rw same clear.0))

module _ (h : Sheet) (typed : SheetTyped h) (none : sheet_number h ≡ 0) where
  counted : length (take h.count h.entries) ≡ h.count
  counted = entries_there h typed (accepted h none).short

  group_said : (g : ℕ) → g < h.groups.count → get_or (groups_of (groups_in h.groups)).list g no_group ≡ group_of (levels_of (get_or h.groups.list g no_group))
  group_said g below =
      let t = (accepted h none).groups in
      let there : length (groups_in h.groups) ≡ h.groups.count =
      length-map (take h.groups.count h.groups.list) levels_of ∙ groups_there h.groups typed.groups_long t.few in
      groups_at (groups_in h.groups) g (omega arith) no_group ∙ ap group_of (levels_at h.groups typed.groups_long t g below)

  said_at : (i : ℕ) → i < h.count → get_or (held_of (said h)).entries i no_entry ≡ entry_said (get_or h.entries i no_entry)
  unfolding held_of said
  said_at i more =
      padded_map_at 1000 no_entry entry_said (take h.count h.entries) i no_entry no_entry (omega (arith, counted))
      ∙ ap entry_said (get_or-take h.count h.entries i no_entry more)

  target_said : (i : ℕ) → i < h.count → let e = get_or h.entries i no_entry in targeted e.command.action ≡ true → (entry_said e).target ≡ e.target
  target_said i more has =
      let e = get_or h.entries i no_entry in
      let a = accepted h none in
      let t = entry_taken h.groups e (entry_at h typed a i more) in
      let few = (group_at_lem h.groups typed.groups_long a.groups e.command.group t.0).few in
      let long = (every_at EntryTyped no_entry h.entries typed.entries i (omega (arith, typed.entries_long, a.short))).long in
      rw has (target_back (get_or h.groups.list e.command.group no_group).n e.target few long (rw has at t.1))

  pub same : Same h (held_of (said h))
  unfolding held_of said
  same =
      let t = (accepted h none).groups in
      let gs = h.groups in
      let zeros_there = length-take-le gs.count h.zeros (omega (arith, t.few, typed.zeros_long)) in
      record {
        groups = length-map (take gs.count gs.list) levels_of ∙ groups_there gs typed.groups_long t.few;
        sizes = λ g below. ap (λ (x : Group). x.n) (group_said g below) ∙ levels_long gs typed.groups_long t typed.groups g below;
        levels = λ g below. ap levels_of (group_said g below) ∙ group_levels _;
        zeros = λ g below. get_or-append (take gs.count h.zeros) _ Old g (omega (arith, zeros_there)) ∙ get_or-take gs.count h.zeros g Old below;
        count = length-map (take h.count h.entries) entry_said ∙ counted;
        commands = λ i more. ap (λ (e : Entry). e.command) (said_at i more);
        targets = λ i more has. ap (λ (e : Entry). e.target) (said_at i more) ∙ target_said i more has;
      }
