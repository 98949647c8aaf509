-- A row of numbers by cell name, the value of a function at each of the names 1 to n: reading one, and raising one. Assumes nothing.
use Rattle.std.proofs.Common.{◌≡◌, ℕ, zero, suc, ◌+◌, ◌-◌, ◌<◌, ◌≤◌, List, ◌∷◌, ◌++◌, map, length, get_or, set, replicate, sym, refl, ap, ◌∙◌, ap₂, arith}
use lib.ListN.{replicate-append-replicate, length-map}
use lib.Seq.{set-append_left}
use Rattle.theory.specs.Lists.{names_from, names}
use Rattle.theory.specs.Permutation.{row}
use Rattle.theory.proofs.Padding.{row_at_lem}
use Rattle.theory.proofs.Cases.{by_name}
use Rattle.theory.proofs.Names.{names_length, names_map_at}

map_long : (f : ℕ → ℕ) (n : ℕ) → length (map f (names n)) ≡ n
map_long f n = length-map (names n) f ∙ names_length 1 n

map_agree : (f g : ℕ → ℕ) (a n : ℕ) → ((c : ℕ) → a ≤ c → f c ≡ g c) → map f (names_from a n) ≡ map g (names_from a n)
map_agree f g a zero h = refl
map_agree f g a (suc n) h =
    ap₂ (λ (x : ℕ) (l : List ℕ). x ∷ l) (h a (omega arith)) (map_agree f g (suc a) n (λ c l. h c (omega arith)))

map_zero : (f : ℕ → ℕ) (a n : ℕ) → ((c : ℕ) → f c ≡ 0) → map f (names_from a n) ≡ replicate n 0
map_zero f a zero h = refl
map_zero f a (suc n) h = ap₂ (λ (x : ℕ) (l : List ℕ). x ∷ l) (h a) (map_zero f (suc a) n h)

set_name : (f g : ℕ → ℕ) (a n c : ℕ) → a ≤ c → c < a + n → ((d : ℕ) → (d ≡ c → ⊥) → f d ≡ g d)
    → set (map f (names_from a n)) (c - a) (g c) ≡ map g (names_from a n)
set_name f g a zero c low high h = absurd (omega arith)
set_name f g a (suc n) c low high h =
    by_name c a
    (λ e t.
    let z : c - a ≡ 0 = omega arith in
    rw z (ap₂ (λ (x : ℕ) (l : List ℕ). x ∷ l) (ap g e) (map_agree f g (suc a) n (λ d l. h d (λ q. omega arith)))))
    (λ ne t.
    let s : c - a ≡ suc (c - suc a) = omega (arith, ne) in
    rw s (ap₂ (λ (x : ℕ) (l : List ℕ). x ∷ l) (h a (λ q. ne (sym q))) (set_name f g (suc a) n c (omega (arith, ne)) (omega arith) h)))

module _ (n : ℕ) (few : n ≤ 20) where
  pub tally_zero : (f : ℕ → ℕ) → ((c : ℕ) → f c ≡ 0) → replicate 20 0 ≡ row (map f (names n))
  tally_zero f h =
      let parts : n + (20 - n) ≡ 20 = omega arith in
      rw (map_long f n, map_zero f 1 n h) (ap (λ (k : ℕ). replicate k 0) (sym parts) ∙ sym (replicate-append-replicate n (20 - n) 0))

  -- the entry of cell c
  pub tally_at : (f : ℕ → ℕ) (c : ℕ) → 1 ≤ c → c ≤ n → get_or (row (map f (names n))) (c - 1) 0 ≡ f c
  tally_at f c low high =
      row_at_lem (map f (names n)) (c - 1) (omega (arith, map_long f n)) ∙ names_map_at 0 f 1 n (c - 1) c (omega arith) (omega arith)

  -- one entry is changed
  pub tally_set : (f g : ℕ → ℕ) (c v : ℕ) → 1 ≤ c → c ≤ n → v ≡ g c → ((d : ℕ) → (d ≡ c → ⊥) → f d ≡ g d)
      → set (row (map f (names n))) (c - 1) v ≡ row (map g (names n))
  tally_set f g c v low high e h =
      let long : length (map f (names n)) ≡ length (map g (names n)) = map_long f n ∙ sym (map_long g n) in
      set-append_left (map f (names n)) _ (c - 1) v (omega (arith, map_long f n))
      ∙ ap₂ (λ (l : List ℕ) (k : ℕ). l ++ replicate (20 - k) 0) (ap (set (map f (names n)) (c - 1)) e ∙ set_name f g 1 n c low (omega arith) h) long
