-- The number of a held sheet depends on nothing but its groups and commands: what a sheet of bytes holds is not refused. Assumes nothing.
use mathlib.Core.Path.{◌≡◌, refl, sym, ◌∙◌}
use mathlib.Core.Bool.{◌&&◌, and-eq-true_iff}
use mathlib.Core.List.{List, [], ◌∷◌, map}
use Prim.Native.Nat.{ℕ, zero, suc, ◌≤◌, ◌<◌}
use native.Mathlib.Omega.{arith}
use borrow.Author.Tests.{leb-true, ltb-true}
use lib.Dec.{leb, ltb}
use lib.ListN.{length, get_or, take, length-map}
use Rattle.theory.proofs.Cases.{by_test}
use Rattle.theory.proofs.Padding.{padded_length}
use Rattle.sheet.specs.Bytes.{got}
use Rattle.sheet.specs.Sheet.{Contents, sheet}
use Rattle.sheet.specs.Held.{group_of, no_group, no_entry, held_of}
use Rattle.sheet.specs.Typed.{SheetTyped}
use Rattle.sheet.specs.declared.held.Sheet.{Sheet}
use Rattle.sheet.proofs.Valid.{valid}
use Rattle.encoding.specs.CommandKinds.{targeted}
use Rattle.encoding.specs.Faults.{first, group_number, groups_number, entry_number, commands_number, sheet_number}
use Rattle.encoding.specs.Claims.{Same}
use Rattle.encoding.proofs.WrittenAgain.{not_refused}

-- lists of which the first n entries have the same numbers
first_same : {A : Type 0} (f g : A → ℕ) (d : A) (n : ℕ) (xs ys : List A) → n ≤ length xs → n ≤ length ys
    → ((i : ℕ) → i < n → f (get_or xs i d) ≡ g (get_or ys i d)) → first f (take n xs) ≡ first g (take n ys)
unfolding first
first_same f g d zero xs ys a b h = refl
first_same f g d (suc n) [] ys a b h = absurd (omega arith)
first_same f g d (suc n) (x ∷ xs) [] a b h = absurd (omega arith)
first_same f g d (suc n) (x ∷ xs) (y ∷ ys) a b h =
    let one : f x ≡ g y = h 0 (omega arith) in
    rw (one, first_same f g d n xs ys (omega arith) (omega arith) (λ i l. h (suc i) (omega arith)))

-- rows as long as their types say
abbrev Long : Sheet → Type 0
Long h = (length h.groups.list ≡ 64) × (length h.entries ≡ 1000)

module _ (h k : Sheet) (lh : Long h) (lk : Long k) (s : Same h k) where
  groups_same : groups_number k.groups ≡ groups_number h.groups
  unfolding groups_number group_number
  groups_same =
      let c = h.groups.count in
      rw s.groups (by_test (leb 1 c && leb c 64)
      (λ t.
      let few = leb-true c 64 ((and-eq-true_iff (leb 1 c) (leb c 64)).0 t).1 in
      rw t (first_same group_number group_number no_group c k.groups.list h.groups.list (omega (arith, lk.0)) (omega (arith, lh.0))
      (λ g below. rw (s.levels g below, s.sizes g below))))
      (λ t. rw t))

  entry_same : (i : ℕ) → i < h.count → entry_number k.groups (get_or k.entries i no_entry) ≡ entry_number h.groups (get_or h.entries i no_entry)
  unfolding entry_number
  entry_same i more =
      let e = get_or h.entries i no_entry in
      let g = e.command.group in
      rw (s.commands i more, s.groups) (by_test (ltb g h.groups.count)
      (λ t. rw (t, s.sizes g (ltb-true g h.groups.count t)) (by_test (targeted e.command.action)
      (λ has. rw (has, s.targets i more has))
      (λ none. rw none)))
      (λ t. rw t))

  commands_same : commands_number k ≡ commands_number h
  unfolding commands_number
  commands_same =
      let c = h.count in
      rw s.count (by_test (leb c 1000)
      (λ t.
      let few = leb-true c 1000 t in
      rw t (first_same (entry_number k.groups) (entry_number h.groups) no_entry c k.entries h.entries
      (omega (arith, lk.1)) (omega (arith, lh.1)) entry_same))
      (λ t. rw t))

  number_same : sheet_number k ≡ sheet_number h
  unfolding sheet_number
  number_same = rw (groups_same, commands_same)

typed_long : {h : Sheet} → SheetTyped h → Long h
typed_long typed = (typed.groups_long, typed.entries_long)

pub unsaid : (h k : Sheet) → SheetTyped h → SheetTyped k → Same h k → sheet_number k ≡ sheet_number h
unsaid h k th tk s = number_same h k (typed_long th) (typed_long tk) s

-- so a sheet that has the groups and commands of one that was read is not refused
held_long : (s : List ℕ) (c : Contents) (end : ℕ) → sheet s ≡ got c end → Long (held_of c)
unfolding held_of
held_long s c end e =
    let v = (valid s c end e).0 in (
      padded_length 64 no_group (map group_of c.groups) (omega (arith, length-map c.groups group_of, v.few)),
      padded_length 1000 no_entry c.entries v.short,
    )

pub only : (h : Sheet) → SheetTyped h → (s : List ℕ) (c : Contents) (end : ℕ) → sheet s ≡ got c end → Same h (held_of c) → sheet_number h ≡ 0
only h typed s c end e same = sym (number_same h (held_of c) (typed_long typed) (held_long s c end e) same) ∙ not_refused s c end e
