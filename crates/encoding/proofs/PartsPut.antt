-- A loop that judges and puts the parts of a section one after the other. Assumes nothing.
use mathlib.Core.Path.{◌≡◌, refl, sym, ◌∙◌}
use mathlib.Core.List.{List, flat_map}
use Prim.Native.Nat.{ℕ, ◌+◌, ◌≤◌, ◌<◌}
use native.Mathlib.Numerals.{add-one}
use lib.ListN.{length, get_or, drop, drop_of_length-le}
use lib.Seq.{drop-cons}
use Rattle.theory.proofs.Refusal.{or_else_refused}
use Rattle.encoding.specs.Faults.{first}
use Rattle.sheet.specs.Putting.{Puts}
use Rattle.encoding.specs.Lays.{Laid, Lays}
use Rattle.sheet.proofs.Putting.{Row, row_start, row_next, row_end}
use Rattle.encoding.proofs.Pieces.{flat_map_grows}

module _ {A : Type 0} (number : A → ℕ) (piece : A → List ℕ) (xs : List A) (most : ℕ) (before : List ℕ) (at : ℕ) where
  -- after i parts: none had a fault, and they were put
  pub record PartsPut (after : List ℕ) (end i : ℕ) : Type 0 where
    pub row : Row (flat_map piece) xs most before at after end i
    pub clear : first number xs ≡ first number (drop i xs)

  pub parts_none : PartsPut before at 0
  parts_none = record { row = row_start (flat_map_grows piece) xs most before at; clear = refl }

module _ {A : Type 0} {number : A → ℕ} {piece : A → List ℕ} {xs : List A} {most : ℕ} {before : List ℕ} {at : ℕ} {after : List ℕ} {end i : ℕ}
    (p : PartsPut number piece xs most before at after end i) where
  module _ (more : i < length xs) (d : A) where
    pub parts_stop : {k : ℕ} → k ≡ number (get_or xs i d) → (k ≡ 0 → ⊥) → k ≡ first number xs
    unfolding first
    parts_stop {k} e ne = rw (p.clear, drop-cons xs i d more) (or_else_refused (number (get_or xs i d)) _ e ne)

    pub parts_next : {c : List ℕ} {r : Laid} → Lays (number (get_or xs i d)) most after end c r (piece (get_or xs i d)) → r.number ≡ 0
        → PartsPut number piece xs most before at c r.end (i + 1)
    unfolding first
    parts_next l z =
        let none : number (get_or xs i d) ≡ 0 = sym l.numbered ∙ z in
        let left : first number (drop i xs) ≡ first number (drop (i + 1) xs) = rw (drop-cons xs i d more, none, add-one) in
        record { row = row_next (flat_map_grows piece) xs most before at p.row more d (l.put z) (l.short z); clear = p.clear ∙ left }

  module _ (done : length xs ≤ i) where
    pub parts_clear : 0 ≡ first number xs
    unfolding first
    parts_clear = sym (p.clear ∙ rw (drop_of_length-le xs done))

    pub parts_all : Puts before at after end (flat_map piece xs)
    parts_all = row_end (flat_map_grows piece) xs most before at p.row done
