-- The zeros of groups, from the numbers of those on the new zero, and the loop that goes through these. Assumes nothing.
use mathlib.Core.Path.{◌≡◌, refl, sym, ap, ap₂, ◌∙◌}
use mathlib.Core.Bool.{Bool, true, false, cond, or-false}
use mathlib.Core.List.{List, [], ◌∷◌, ◌++◌, map}
use Prim.Native.Nat.{ℕ, zero, suc, ◌+◌, ◌-◌, ◌≤◌, ◌<◌}
use native.Mathlib.Numerals.{add-one}
use native.Mathlib.Omega.{arith}
use borrow.Author.Tests.{le-leb, lt-leb, lt-ltb, le-ltb, eq-eqb, ne_eqb}
use lib.ListN.{length, get_or, take, drop, set, replicate, length-map, replicate-append-replicate}
use lib.Seq.{drop-cons, take-suc, take_all, drop-length, set-append_left}
use Rattle.theory.specs.Lists.{member, names_from, padded}
use Rattle.theory.proofs.Cases.{by_test}
use Rattle.theory.proofs.Members.{member_append}
use Rattle.theory.proofs.Names.{names_length}
use Rattle.ranking.specs.declared.zero.Zero.TheVariants.{Old, New}
use Rattle.sheet.specs.Bytes.{ill_formed, got, check}
use Rattle.sheet.specs.ZeroSection.{rising, zero_among, zeros_of}
use Rattle.sheet.specs.Parts.{zeros_answer, named_answer}
use Rattle.ranking.specs.declared.zero.Zero.{Zero}

pub zeros_length : (G : ℕ) (numbers : List ℕ) → length (zeros_of G numbers) ≡ G
unfolding zeros_of
zeros_length G numbers = length-map (names_from 0 G) (zero_among numbers) ∙ names_length 0 G

-- ---- one number more

member_last : (c g : ℕ) (ns : List ℕ) → (c ≡ g → ⊥) → member c (ns ++ g ∷ []) ≡ member c ns
member_last c g ns ne = member_append c ns (g ∷ []) ∙ rw (ne_eqb c g ne) (or-false (member c ns))

-- numbers that name the same groups from a on give these the same zeros
pub among_same : (ns ms : List ℕ) (a n : ℕ) → ((c : ℕ) → a ≤ c → member c ns ≡ member c ms)
    → map (zero_among ns) (names_from a n) ≡ map (zero_among ms) (names_from a n)
among_same ns ms a zero h = refl
among_same ns ms a (suc n) h = rw (h a (omega arith), among_same ns ms (suc a) n (λ c low. h c (omega arith)))

set_among : (ns : List ℕ) (a n j g : ℕ) → a + j ≡ g → j < n
    → set (map (zero_among ns) (names_from a n)) j New ≡ map (zero_among (ns ++ g ∷ [])) (names_from a n)
set_among ns a zero j g e h = absurd (omega arith)
set_among ns a (suc n) zero g e h =
    let is : a ≡ g = omega arith in
    let there : member a (ns ++ g ∷ []) ≡ true = member_append a ns (g ∷ []) ∙ rw (eq-eqb a g is) (by_test (member a ns) (λ t. rw t) (λ t. rw t)) in
    let same = among_same (ns ++ g ∷ []) ns (suc a) n (λ c low. member_last c g ns (λ q. omega arith)) in
    ap₂ (λ (t : Bool) (l : List Zero). cond t New Old ∷ l) (sym there) (sym same)
set_among ns a (suc n) (suc j) g e h = rw (member_last a g ns (λ q. omega arith), ← set_among ns (suc a) n j g (omega arith) (omega arith))

same_old : (a n : ℕ) → replicate n Old ≡ map (zero_among []) (names_from a n)
same_old a zero = refl
same_old a (suc n) = rw (← same_old (suc a) n)

named_old : (G : ℕ) → replicate G Old ≡ zeros_of G []
unfolding zeros_of
named_old G = same_old 0 G

named_new : (G : ℕ) (ns : List ℕ) (g : ℕ) → g < G → set (zeros_of G ns) g New ≡ zeros_of G (ns ++ g ∷ [])
unfolding zeros_of
named_new G ns g below = set_among ns 0 G g g (omega arith) below

-- in the row of 64
module _ (G : ℕ) (few : G ≤ 64) where
  pub held_old : replicate 64 Old ≡ padded 64 Old (zeros_of G [])
  held_old =
      let all : 64 ≡ G + (64 - G) = omega arith in
      ap (λ (k : ℕ). replicate k Old) all
      ∙ sym (replicate-append-replicate G (64 - G) Old)
      ∙ ap₂ (λ (l : List Zero) (n : ℕ). l ++ replicate (64 - n) Old) (named_old G) (sym (zeros_length G []))

  held_new : (ns : List ℕ) (g : ℕ) → g < G → set (padded 64 Old (zeros_of G ns)) g New ≡ padded 64 Old (zeros_of G (ns ++ g ∷ []))
  held_new ns g below =
      let long = zeros_length G in
      set-append_left (zeros_of G ns) _ g New (omega (arith, long ns))
      ∙ ap₂ (λ (l : List Zero) (n : ℕ). l ++ replicate (64 - n) Old) (named_new G ns g below) (long ns ∙ sym (long (ns ++ g ∷ [])))

-- ---- the loop

-- after i of the numbers: they rise so far, from `low` on the others are to, and the groups that they name are on the new zero
pub record NamedSoFar (G : ℕ) (ns : List ℕ) (zeros : List Zero) (low i : ℕ) : Type 0 where
  pub within : i ≤ length ns
  pub left : rising G 0 ns ≡ rising G low (drop i ns)
  pub held : zeros ≡ padded 64 Old (zeros_of G (take i ns))

pub named_none : (G : ℕ) (ns : List ℕ) → G ≤ 64 → NamedSoFar G ns (replicate 64 Old) 0 0
named_none G ns few = record { within = omega arith; left = refl; held = held_old G few }

module _ {G : ℕ} {ns : List ℕ} {zeros : List Zero} {low i : ℕ} (p : NamedSoFar G ns zeros low i) where
  module _ (g : ℕ) (more : i < length ns) (is : g ≡ get_or ns i 0) where
    pub named_more : G ≤ 64 → low ≤ g → g < G → NamedSoFar G ns (set zeros g New) (g + 1) (i + 1)
    unfolding rising
    named_more few rises below = record {
      within = omega arith;
      left = p.left ∙ rw (drop-cons ns i 0 more, ← is, le-leb low g rises, lt-ltb g G below, add-one g, add-one i);
      held = rw (p.held, add-one, take-suc ns i 0 more, ← is) (held_new G few (take i ns) g below);
    }

    pub named_low : g < low → rising G 0 ns ≡ false
    unfolding rising
    named_low falls = p.left ∙ rw (drop-cons ns i 0 more, ← is, lt-leb low g falls)

    pub named_high : low ≤ g → G ≤ g → rising G 0 ns ≡ false
    unfolding rising
    named_high rises none = p.left ∙ rw (drop-cons ns i 0 more, ← is, le-leb low g rises, le-ltb g G none)

  module _ (done : length ns ≤ i) where
    pub named_all : rising G 0 ns ≡ true
    unfolding rising
    named_all = let all : i ≡ length ns = omega (arith, p.within) in p.left ∙ rw (all, drop-length)

    pub named_held : zeros ≡ padded 64 Old (zeros_of G ns)
    named_held = rw (take_all i ns done) at p.held

-- ---- what is answered

module _ (G : ℕ) (ns : List ℕ) where
  pub named_fault : rising G 0 ns ≡ false → named_answer G ns ≡ record { number = 8; zeros = replicate 64 Old }
  unfolding named_answer zeros_answer check
  named_fault t = rw t

  pub named_got : rising G 0 ns ≡ true → named_answer G ns ≡ record { number = 0; zeros = padded 64 Old (zeros_of G ns) }
  unfolding named_answer zeros_answer check
  named_got t = rw t

  -- wherever the section ends
  pub named_anywhere : (end : ℕ) → named_answer G ns ≡ zeros_answer (check (rising G 0 ns) ill_formed (got (zeros_of G ns) end))
  unfolding named_answer zeros_answer check
  named_anywhere end = by_test (rising G 0 ns) (λ t. rw t) (λ t. rw t)
