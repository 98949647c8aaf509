-- The numbers of the groups on the new zero, from the zeros; and back. Assumes nothing.
use mathlib.Core.Path.{◌≡◌, refl, sym, ap, ◌∙◌}
use mathlib.Core.Bool.{true, false, ◌&&◌, and-eq-true_iff, false≢true}
use mathlib.Core.List.{List, [], ◌∷◌, ◌++◌, map}
use Prim.Native.Nat.{ℕ, zero, suc, ◌+◌, ◌≤◌, ◌<◌}
use native.Mathlib.Omega.{arith}
use borrow.Author.Tests.{leb-true, ltb-true, le-leb, lt-ltb, eq-eqb, ne_eqb}
use lib.Dec.{leb, ltb}
use lib.ListN.{length}
use Rattle.theory.specs.Lists.{member, names_from, Every}
use Rattle.theory.proofs.Cases.{by_test, by_name}
use Rattle.ranking.specs.declared.zero.Zero.{Zero}
use Rattle.ranking.specs.declared.zero.Zero.TheVariants.{Old, New}
use Rattle.sheet.specs.ZeroSection.{rising, zero_among, zeros_of}
use Rattle.sheet.proofs.ZeroSection.{among_same}
use Rattle.encoding.specs.SheetBytes.{number_on_new, numbers_on_new}

-- ---- numbers that rise

-- the first of them, and the others
rising_parts : (G low g : ℕ) (gs : List ℕ) → rising G low (g ∷ gs) ≡ true → (low ≤ g) × (g < G) × (rising G (suc g) gs ≡ true)
unfolding rising
rising_parts G low g gs t =
    let more = (and-eq-true_iff (leb low g && ltb g G) (rising G (suc g) gs)).0 t in
    let first = (and-eq-true_iff (leb low g) (ltb g G)).0 more.0 in
    (leb-true low g first.0, ltb-true g G first.1, more.1)

-- none is below the bound
rising_low : (G low : ℕ) (ns : List ℕ) → rising G low ns ≡ true → (c : ℕ) → member c ns ≡ true → low ≤ c
rising_low G low [] t c m = absurd (false≢true m)
rising_low G low (g ∷ gs) t c m =
    let p = rising_parts G low g gs t in
    by_name c g (λ q e. omega (arith, p.0)) (λ q e. omega (arith, p.0, rising_low G (suc g) gs p.2 c (rw e at m)))

not_below : (G low : ℕ) (ns : List ℕ) → rising G low ns ≡ true → (c : ℕ) → c < low → member c ns ≡ false
not_below G low ns t c h = by_test (member c ns) (λ m. absurd (omega (arith, rising_low G low ns t c m))) (λ m. m)

pub rising_below : (G low : ℕ) (ns : List ℕ) → rising G low ns ≡ true → Every (λ g. g < G) ns
rising_below G low [] t = tt
rising_below G low (g ∷ gs) t = let p = rising_parts G low g gs t in (p.1, rising_below G (suc g) gs p.2)

-- a first number plays no part above it
among_later : (g : ℕ) (gs : List ℕ) (a n : ℕ) → g < a → map (zero_among (g ∷ gs)) (names_from a n) ≡ map (zero_among gs) (names_from a n)
among_later g gs a n h = among_same (g ∷ gs) gs a n (λ c low. rw (ne_eqb c g (λ e. omega arith)))

-- ---- the numbers of zeros

by_zero : (P : Zero → Type 0) → P Old → P New → (w : Zero) → P w
by_zero P old new Old = old
by_zero P old new New = new

pub numbers_rise : (G low a : ℕ) (zs : List Zero) → low ≤ a → a + length zs ≡ G → rising G low (numbers_on_new a zs) ≡ true
unfolding rising numbers_on_new number_on_new
numbers_rise G low a [] h e = refl
numbers_rise G low a (z ∷ zs) h e =
    by_zero (λ w. rising G low (number_on_new a w ++ numbers_on_new (suc a) zs) ≡ true)
    (numbers_rise G low (suc a) zs (omega arith) (omega arith))
    (rw (le-leb low a h, lt-ltb a G (omega arith), numbers_rise G (suc a) (suc a) zs (omega arith) (omega arith)))
    z

pub numbers_few : (a : ℕ) (zs : List Zero) → length (numbers_on_new a zs) ≤ length zs
unfolding numbers_on_new number_on_new
numbers_few a [] = omega arith
numbers_few a (z ∷ zs) =
    let rest = numbers_few (suc a) zs in
    by_zero (λ w. length (number_on_new a w ++ numbers_on_new (suc a) zs) ≤ suc (length zs)) (omega arith) (omega arith) z

-- they tell the zeros
among_back : (a : ℕ) (zs : List Zero) → map (zero_among (numbers_on_new a zs)) (names_from a (length zs)) ≡ zs
unfolding numbers_on_new number_on_new
among_back a [] = refl
among_back a (z ∷ zs) =
    let ns = numbers_on_new (suc a) zs in
    let G = suc a + length zs in
    let above = not_below G (suc a) ns (numbers_rise G (suc a) (suc a) zs (omega arith) refl) a (omega arith) in
    let rest = among_back (suc a) zs in
    by_zero (λ w. map (zero_among (number_on_new a w ++ ns)) (names_from a (suc (length zs))) ≡ w ∷ zs)
    (rw (above, rest))
    (rw (eq-eqb a a refl, among_later a ns (suc a) (length zs) (omega arith), rest))
    z

pub zeros_back : (G : ℕ) (zs : List Zero) → length zs ≡ G → zeros_of G (numbers_on_new 0 zs) ≡ zs
unfolding zeros_of
zeros_back G zs long = ap (λ (n : ℕ). map (zero_among (numbers_on_new 0 zs)) (names_from 0 n)) (sym long) ∙ among_back 0 zs

-- ---- the zeros of numbers

numbers_among : (G a n : ℕ) (ns : List ℕ) → a + n ≡ G → rising G a ns ≡ true → numbers_on_new a (map (zero_among ns) (names_from a n)) ≡ ns
unfolding numbers_on_new number_on_new rising
numbers_among G a zero [] e t = refl
numbers_among G a zero (g ∷ gs) e t = let p = rising_parts G a g gs t in absurd (omega (arith, p.0, p.1))
numbers_among G a (suc n) [] e t = numbers_among G (suc a) n [] (omega arith) refl
numbers_among G a (suc n) (g ∷ gs) e t =
    let p = rising_parts G a g gs t in
    by_name a g
    (λ q m. rw (m, among_later g gs (suc a) n (omega arith), numbers_among G (suc a) n gs (omega arith) (rw (← q) at p.2), q))
    (λ q m.
    let none = not_below G (suc g) gs p.2 a (omega (arith, p.0)) in
    let later : rising G (suc a) (g ∷ gs) ≡ true = rw (le-leb (suc a) g (omega (arith, p.0)), lt-ltb g G p.1, p.2) in
    rw (m, none, numbers_among G (suc a) n (g ∷ gs) (omega arith) later))

pub numbers_back : (G : ℕ) (ns : List ℕ) → rising G 0 ns ≡ true → numbers_on_new 0 (zeros_of G ns) ≡ ns
unfolding zeros_of
numbers_back G ns t = numbers_among G 0 G ns (omega arith) t
