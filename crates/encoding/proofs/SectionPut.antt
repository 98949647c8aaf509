-- The section of the zeros, put: the numbers in a row, and their count before them. Assumes nothing.
use mathlib.Core.Path.{◌≡◌, refl, sym, ap, ◌∙◌}
use mathlib.Core.List.{List, [], ◌∷◌, ◌++◌, append_assoc, append-nil, flat_map}
use Prim.Native.Nat.{ℕ, suc, ◌+◌, ◌-◌, ◌%◌, ◌≤◌, ◌<◌}
use native.Mathlib.Nat.{mod-eq_of_lt}
use native.Mathlib.Numerals.{add-one}
use native.Mathlib.Omega.{arith}
use lib.ListN.{length, get_or, take, set, length-set}
use lib.Seq.{length-take-le, take-take, take-suc, take-set-lt, set_at}
use Rattle.ranking.specs.declared.zero.Zero.{Zero}
use Rattle.ranking.specs.declared.zero.Zero.TheVariants.{Old, New}
use Rattle.sheet.specs.Bytes.{bytes_of}
use Rattle.sheet.specs.Putting.{Puts}
use Rattle.sheet.proofs.Putting.{Grows, grows}
use Rattle.encoding.specs.SheetBytes.{number_on_new, numbers_on_new, section_bytes}
use Rattle.encoding.proofs.Numbers.{flat_map_length, flat_map_append}

-- the bytes of the numbers of zeros in a row
abbrev pub numbers_bytes : List Zero → List ℕ
numbers_bytes zs = flat_map (bytes_of 1) (numbers_on_new 0 zs)

pub numbers_grow : Grows numbers_bytes (λ g z. flat_map (bytes_of 1) (number_on_new (g + 0) z))
unfolding numbers_on_new flat_map
numbers_grow =
    grows (λ g z. flat_map (bytes_of 1) (number_on_new g z)) (λ g zs. flat_map (bytes_of 1) (numbers_on_new g zs))
    (λ g. refl)
    (λ g z zs. flat_map_append (bytes_of 1) (number_on_new g z) (numbers_on_new (suc g) zs))
    0

-- one byte, or none
number_most : (g : ℕ) (w : Zero) → length (flat_map (bytes_of 1) (number_on_new g w)) ≤ 1
unfolding number_on_new flat_map bytes_of
number_most g Old = omega arith
number_most g New = omega arith

module _ {before after : List ℕ} {at end : ℕ} where
  pub number_near : (g : ℕ) (w : Zero) → Puts before at after end (flat_map (bytes_of 1) (number_on_new g w)) → end ≤ at + 1
  number_near g w p = omega (arith, p.end_is, number_most g w)

  -- a byte before what was put
  byte_before : {xs : List ℕ} (b : ℕ) → Puts before (at + 1) after end xs → at < length before → Puts before at (set after at b) end (b ∷ xs)
  byte_before {xs} b p room =
      let first : take (at + 1) before ≡ take at before ++ get_or before at 0 ∷ [] = rw (add-one at) (take-suc before at 0 room) in
      let parts : take end after ≡ take at before ++ get_or before at 0 ∷ xs =
      p.front ∙ ap (λ (l : List ℕ). l ++ xs) first ∙ append_assoc (take at before) (get_or before at 0 ∷ []) xs in
      record {
        end_is = omega (arith, p.end_is);
        long = length-set after at b ∙ p.long;
        front =
            take-set-lt end after at b (omega (arith, p.end_is))
            ∙ ap (λ (l : List ℕ). set l at b) parts
            ∙ set_at (take at before) (get_or before at 0) xs b at (length-take-le at before (omega arith));
      }

  pub none_put : (ns : List ℕ) → Puts before (at + 1) after end (flat_map (bytes_of 1) ns) → end ≡ at + 1 → Puts before at after at (section_bytes ns)
  unfolding section_bytes flat_map
  none_put [] p e =
      let same : take (at + 1) after ≡ take (at + 1) before = rw e at p.front ∙ append-nil (take (at + 1) before) in
      record {
        end_is = omega arith;
        long = p.long;
        front =
            sym (take-take at (at + 1) after (omega arith))
            ∙ ap (take at) same
            ∙ take-take at (at + 1) before (omega arith)
            ∙ sym (append-nil (take at before));
      }
  none_put (g ∷ gs) p e = absurd (omega (arith, p.end_is, flat_map_length 1 (g ∷ gs)))

  pub some_put : (ns : List ℕ) → Puts before (at + 1) after end (flat_map (bytes_of 1) ns) → (end ≡ at + 1 → ⊥) → length ns < 256 → at < length before
      → Puts before at (set after at (end - (at + 1))) end (section_bytes ns)
  unfolding section_bytes bytes_of
  some_put [] p ne small room = absurd (ne (omega (arith, p.end_is, flat_map_length 1 [])))
  some_put (g ∷ gs) p ne small room =
      let count : end - (at + 1) ≡ length (g ∷ gs) % 256 = omega (arith, p.end_is, flat_map_length 1 (g ∷ gs)) ∙ sym (mod-eq_of_lt small) in
      rw count (byte_before (length (g ∷ gs) % 256) p room)
