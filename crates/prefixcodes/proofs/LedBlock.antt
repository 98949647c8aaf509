-- The permutations that a prefix leads are a block of all permutations in lexicographic sequence. Assumes nothing.
use Prim.Native.Nat.{ℕ, suc, ◌+◌, ◌-◌, ◌*◌, ◌≤◌, ◌<◌}
use mathlib.Core.Path.{◌≡◌, refl, sym, ap, ◌∙◌}
use mathlib.Core.Bool.{true, false, false≢true}
use mathlib.Core.Logic.{◌⊎◌, inl, inr, ⊎_elim}
use mathlib.Core.List.{List, [], ◌∷◌}
use native.Mathlib.Omega.{arith}
use native.Mathlib.Nat.{mul-le-mul_right, add-mul, mul_assoc}
use lib.ListN.{length, get_or}
use Rattle.theory.specs.Lists.{member, without, begins}
use Rattle.theory.specs.Factorial.{factorial, falling}
use Rattle.theory.proofs.Cases.{by_name, by_order, eqb_sym}
use Rattle.theory.proofs.Factorials.{factorial_pred, falling_factorial}
use Rattle.theory.proofs.Members.{Distinct, member_first, member_length, distinct_without, without_one_length}
use Rattle.theory.proofs.Numbering.{number_of, Over, over_tail}
use Rattle.prefixcodes.specs.Construction.{index_of}
use Rattle.prefixcodes.proofs.Index.{index_of_lt, get_or_index_of}

-- the number of the first permutation that p leads, and how many it leads
abbrev pub first_led : List ℕ → List ℕ → ℕ
first_led free [] = 0
first_led free (c ∷ p) = index_of c free * factorial (length free - 1) + first_led (without (c ∷ []) free) p

abbrev pub many_led : List ℕ → List ℕ → ℕ
many_led free p = factorial (length free - length p)

-- what the first cell of a prefix leaves
record Head (free : List ℕ) (c : ℕ) (p : List ℕ) : Type 0 where
  mem : member c free ≡ true
  some : 0 < length free
  rest : factorial (length (without (c ∷ []) free)) ≡ factorial (length free - 1)
  distinct : Distinct (without (c ∷ []) free)
  tail : Over (without (c ∷ []) free) p
  block : suc (index_of c free) * factorial (length free - 1) ≤ factorial (length free)
  span_tail : many_led (without (c ∷ []) free) p ≡ many_led free (c ∷ p)

head : (free : List ℕ) (c : ℕ) (p : List ℕ) → Distinct free → Over free (c ∷ p) → Head free c p
head free c p d h =
    let m : member c free ≡ true = h.named c (member_first c p) in
    let less : length (without (c ∷ []) free) ≡ length free - 1 = without_one_length c free d m in
    let q : length (without (c ∷ []) free) - length p ≡ length free - suc (length p) = omega arith in
    record {
      mem = m;
      some = member_length c free m;
      rest = ap factorial less;
      distinct = distinct_without (c ∷ []) free d;
      tail = over_tail c free p h;
      block = rw (factorial_pred (length free) (member_length c free m)) (mul-le-mul_right (factorial (length free - 1)) (index_of_lt c free m));
      span_tail = ap factorial q;
    }

over_length : (free p : List ℕ) → Distinct free → Over free p → length p ≤ length free
over_length free [] d h = omega arith
over_length free (c ∷ p) d h =
    let g : Head free c p = head free c p d h in
    omega (arith, over_length (without (c ∷ []) free) p g.distinct g.tail, without_one_length c free d g.mem, g.some)

pub led_within : (free p : List ℕ) → Distinct free → Over free p → first_led free p + many_led free p ≤ factorial (length free)
led_within free [] d h = let z : length free - 0 ≡ length free = omega arith in rw z (omega arith)
led_within free (c ∷ p) d h =
    let g : Head free c p = head free c p d h in
    omega (arith, led_within (without (c ∷ []) free) p g.distinct g.tail)

-- where p is the start of q, p's block holds q's
pub led_nested : (free p q : List ℕ) → Distinct free → Over free p → Over free q → begins p q ≡ true
    → (first_led free p ≤ first_led free q) × (first_led free q + many_led free q ≤ first_led free p + many_led free p)
led_nested free [] q d hp hq b = let z : length free - 0 ≡ length free = omega arith in rw z (omega (arith, led_within free q d hq))
led_nested free (c ∷ p) [] d hp hq b = absurd (false≢true b)
led_nested free (c ∷ p) (e ∷ q) d hp hq b =
    by_name c e
    (λ same t.
    let g : Head free c p = head free c p d hp in
    let k : Head free c q = head free c q d (rw (← same) at hq) in
    let deeper = led_nested (without (c ∷ []) free) p q g.distinct g.tail k.tail (rw t at b) in
    rw (← same) (omega (arith, g.span_tail, k.span_tail, deeper.0, deeper.1)))
    (λ other t. absurd (false≢true (rw t at b)))

-- where neither is the start of the other, the blocks have no permutation in common
pub led_apart : (free p q : List ℕ) → Distinct free → Over free p → Over free q → begins p q ≡ false → begins q p ≡ false
    → (first_led free p + many_led free p ≤ first_led free q) ⊎ (first_led free q + many_led free q ≤ first_led free p)
led_apart free [] q d hp hq b r = absurd (false≢true (sym b))
led_apart free (c ∷ p) [] d hp hq b r = absurd (false≢true (sym r))
led_apart free (c ∷ p) (e ∷ q) d hp hq b r =
    let g : Head free c p = head free c p d hp in
    let k : Head free e q = head free e q d hq in
    by_name c e
    (λ same t.
    let j : Head free c q = head free c q d (rw (← same) at hq) in
    rw (← same)
    (⊎_elim
    (λ h. inl (omega (arith, h, g.span_tail, j.span_tail)))
    (λ h. inr (omega (arith, h, g.span_tail, j.span_tail)))
    (led_apart (without (c ∷ []) free) p q g.distinct g.tail j.tail (rw t at b) (rw (eqb_sym e c, t) at r))))
    (λ other t.
    by_order (index_of c free) (index_of e free)
    (λ less. inl (omega (arith, mul-le-mul_right (factorial (length free - 1)) less, led_within (without (c ∷ []) free) p g.distinct g.tail)))
    (λ more. inr (omega (arith, mul-le-mul_right (factorial (length free - 1)) more, led_within (without (e ∷ []) free) q k.distinct k.tail)))
    (λ same. absurd (other (sym (get_or_index_of c free g.mem) ∙ ap (λ (i : ℕ). get_or free i 0) same ∙ get_or_index_of e free k.mem))))

-- a prefix's block starts at its number among the prefixes of its length, times the size of their blocks
pub first_number_lem : (free p : List ℕ) → Distinct free → Over free p → first_led free p ≡ number_of free p * many_led free p
unfolding number_of
first_number_lem free [] d h = omega arith
first_number_lem free (c ∷ p) d h =
    let g : Head free c p = head free c p d h in
    let left : List ℕ = without (c ∷ []) free in
    let w : ℕ = falling (length free - 1) (length p) in
    let less : length left ≡ length free - 1 = without_one_length c free d g.mem in
    let short : length p ≤ length left = omega (arith, over_length left p g.distinct g.tail) in
    let q : length free - 1 - length p ≡ length free - suc (length p) = omega arith in
    let whole : w * many_led free (c ∷ p) ≡ factorial (length free - 1) = rw q at (falling_factorial (length free - 1) (length p) (omega arith)) in
    let rest : first_led left p ≡ number_of left p * many_led free (c ∷ p) = rw g.span_tail at (first_number_lem left p g.distinct g.tail) in
    cc (add-mul (index_of c free * w) (number_of left p) (many_led free (c ∷ p)), mul_assoc (index_of c free) w (many_led free (c ∷ p)))

-- where q, no shorter than p, is a start of p, the two are one
pub begins_back : (q p : List ℕ) → begins q p ≡ true → length p ≤ length q → begins p q ≡ true
begins_back [] [] b h = refl
begins_back [] (c ∷ p) b h = absurd (omega arith)
begins_back (e ∷ q) [] b h = refl
begins_back (e ∷ q) (c ∷ p) b h =
    by_name e c
    (λ same t. cc (eqb_sym c e, begins_back q p (rw t at b) (omega arith)))
    (λ other t. absurd (false≢true (rw t at b)))
