-- Rows of groups and of commands in memory, and what they say. Assumes nothing.
use mathlib.Core.Path.{◌≡◌, refl, ap, sym, ◌∙◌}
use mathlib.Core.List.{List, [], ◌∷◌, map}
use Prim.Native.Nat.{ℕ, ◌-◌, ◌≤◌, ◌<◌}
use native.Mathlib.Omega.{arith}
use lib.ListN.{length, get_or, take, replicate, length-map}
use lib.Seq.{take_at, take-append_seam}
use Rattle.theory.specs.Lists.{padded}
use Rattle.theory.proofs.Padding.{padded_map_at}
use Rattle.sheet.specs.Bytes.{got, many}
use Rattle.ranking.specs.declared.zero.Zero.TheVariants.{Old}
use Rattle.sheet.specs.Sheet.{group, Contents}
use Rattle.sheet.specs.Held.{group_of, no_group, groups_of, no_entry, held_of, levels_of, groups_in, contents_of}
use Rattle.sheet.specs.Claims.{Each}
use Rattle.sheet.specs.Standing.{GroupsHeld}
use Rattle.sheet.specs.declared.held.Group.{Group}
use Rattle.sheet.specs.declared.held.Groups.{Groups}
use Rattle.ranking.specs.declared.zero.Zero.{Zero}
use Rattle.sheet.specs.declared.held.Entry.{Entry}
use Rattle.sheet.specs.declared.held.Sheet.{Sheet}
use Rattle.sheet.proofs.Inversion.{many_length}
use Rattle.sheet.proofs.Valid.{groups_readable}

-- ---- what was held is what is read back

pub group_levels : (L : List ℕ) → levels_of (group_of L) ≡ L
group_levels L = take-append_seam L (replicate (20 - length L) 0)

levels_back : (Ls : List (List ℕ)) → map levels_of (map group_of Ls) ≡ Ls
levels_back [] = refl
levels_back (L ∷ Ls) = rw (group_levels L, levels_back Ls)

pub groups_back : (Ls : List (List ℕ)) → groups_in (groups_of Ls) ≡ Ls
groups_back Ls = rw (take_at (map group_of Ls) _ (length Ls) (length-map Ls group_of)) (levels_back Ls)

pub contents_back : (c : Contents) → length c.zeros ≡ length c.groups → contents_of (held_of c) ≡ c
unfolding held_of
contents_back c long = rw (groups_back c.groups, take_at c.zeros _ _ long, take-append_seam c.entries _)

-- ---- groups in their row

pub groups_at : (Ls : List (List ℕ)) (g : ℕ) → g < length Ls → (d : Group) → get_or (groups_of Ls).list g d ≡ group_of (get_or Ls g [])
groups_at Ls g h d = padded_map_at 64 no_group group_of Ls g d [] h

-- in it are held groups that each have a permutation
pub groups_held : (Ls : List (List ℕ)) → length Ls ≤ 64 → Each Ls → GroupsHeld (groups_of Ls)
groups_held Ls few each =
    let back = groups_back Ls in
    record { held = ap groups_of (sym back); few = few; readable = rw back each }

-- such as those of a sheet
pub read_hold : (s : List ℕ) (n at : ℕ) (Ls : List (List ℕ)) (end : ℕ) → many n (group s) at ≡ got Ls end → n ≤ 64 → GroupsHeld (groups_of Ls)
read_hold s n at Ls end e few = groups_held Ls (omega (arith, many_length (group s) n at Ls end e)) (groups_readable s n at Ls end e)

module _ {groups : Groups} (h : GroupsHeld groups) where
  pub held_count : groups.count ≡ length (groups_in groups)
  held_count = ap (λ (x : Groups). x.count) h.held

  pub map_count : (f : List ℕ → ℕ) → length (map f (groups_in groups)) ≡ groups.count
  map_count f = length-map (groups_in groups) f ∙ sym held_count

  module _ (g : ℕ) (below : g < groups.count) (d : Group) where
    pub held_at : get_or groups.list g d ≡ group_of (get_or (groups_in groups) g [])
    held_at = ap (λ (x : Groups). get_or x.list g d) h.held ∙ groups_at (groups_in groups) g (omega (arith, held_count)) d

    pub held_levels : levels_of (get_or groups.list g d) ≡ get_or (groups_in groups) g []
    held_levels = ap levels_of held_at ∙ group_levels _

  -- the numbers of cells at the front of a row
  pub sizes_front : take groups.count (padded 64 0 (map length (groups_in groups))) ≡ map length (groups_in groups)
  sizes_front = take_at (map length (groups_in groups)) _ groups.count (map_count length)

  -- the sheet that is held, from its parts
  pub sheet_held : (zs zeros : List Zero) → zs ≡ padded 64 Old zeros → (n : ℕ) (row es : List Entry) → length es ≡ n → row ≡ padded 1000 no_entry es
      → ◌≡◌ {A = Sheet} (record { groups = groups; zeros = zs; count = n; entries = row }) (held_of (record { groups = groups_in groups; zeros = zeros; entries = es }))
  unfolding held_of
  sheet_held zs zeros are n row es long front = λ i. record { groups = h.held i; zeros = are i; count = sym long i; entries = front i }
