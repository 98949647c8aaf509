-- The enumeration of prefixes in mixed radix: the digits of a number choose the names of its prefix one after another. Assumes nothing.
use mathlib.Core.Path.{◌≡◌, refl, ap, ◌∙◌}
use mathlib.Core.Bool.{true, false, false≢true}
use mathlib.Core.List.{List, [], ◌∷◌, map, flat_map, Lexᴰ}
use Prim.Native.Nat.{ℕ, zero, suc, ◌+◌, ◌-◌, ◌*◌, ◌/◌, ◌%◌, ◌≤◌, ◌<◌}
use native.Mathlib.Nat.{le_of_suc-le-suc, div-lt_iff_lt-mul, mod-lt, div-eq_of_lt, mod-eq_of_lt, div-add-mod', add-div_left, add-mod_left, mul-le-mul_right}
use native.Mathlib.Numerals.{add-one}
use native.Mathlib.Omega.{arith}
use lib.Arith.{digits_lt, digits_div, digits_mod}
use lib.ListN.{length, get_or, length-append, length-map, get_or-append}
use lib.Seq.{get_or-append-add}
use borrow.Author.Tests.{eq-eqb}
use Rattle.theory.specs.Lists.{member, without}
use Rattle.theory.specs.Factorial.{falling}
use Rattle.theory.specs.Permutation.{place_of}
use Rattle.theory.specs.Prefix.{prefixes}
use Rattle.theory.proofs.Cases.{by_test, by_name, by_le, by_order}
use Rattle.theory.proofs.Members.{Distinct, Among, distinct_head, distinct_tail, distinct_cons, distinct_without, member_first, member_later, member_differs, member_get_or, member_without, without_among, without_one_length}
use Rattle.theory.proofs.Names.{Ascending, ascending_distinct, ascending_without}
use Rattle.theory.proofs.Places.{place_of_low, place_of_high, cell_at_place_of, place_of_get_or}

-- how many prefixes go on with p names after a first one
abbrev pub weight : ℕ → List ℕ → ℕ
weight p free = falling (length free - 1) p

-- the first name of prefix number s of length p + 1 over the names of `free`
abbrev pub first_name : ℕ → List ℕ → ℕ → ℕ
first_name p free s = get_or free (s / weight p free) 0

-- prefix number s of length p over the names of `free`, by the digits of s: code computes it so, without the whole enumeration
unfoldable pub prefix_of : ℕ → List ℕ → ℕ → List ℕ
prefix_of zero free s = []
prefix_of (suc p) free s = first_name p free s ∷ prefix_of p (without (first_name p free s ∷ []) free) (s % weight p free)

-- the number of a prefix, by the same digits
unfoldable pub number_of : List ℕ → List ℕ → ℕ
number_of free [] = 0
number_of free (c ∷ q) = (place_of c free - 1) * weight (length q) free + number_of (without (c ∷ []) free) q

-- q has names of `free` only, and none twice
pub record Over (free q : List ℕ) : Type 0 where
  pub distinct : Distinct q
  pub named : Among q free

-- a first name taken, the weight is the number of prefixes over those left
weight_left :
    (p : ℕ) (free : List ℕ) → Distinct free → (c : ℕ) → member c free ≡ true
    → falling (length (without (c ∷ []) free)) p ≡ weight p free
weight_left p free d c m = ap (λ (n : ℕ). falling n p) (without_one_length c free d m)

-- lists of w entries each, one for each name, put one after another
module _ (f : ℕ → List (List ℕ)) (w : ℕ) where
  pub flat_map_length : (cs : List ℕ) → ((c : ℕ) → member c cs ≡ true → length (f c) ≡ w) → length (flat_map f cs) ≡ length cs * w
  unfolding flat_map
  flat_map_length [] h = omega arith
  flat_map_length (c ∷ cs) h =
      omega (
        arith,
        length-append (f c) (flat_map f cs),
        h c (member_first c cs),
        flat_map_length cs (λ b m. h b (member_later b c cs m)),
      )

  -- entry s is entry s % w of list s / w
  flat_map_at :
      (cs : List ℕ) (s : ℕ) → ((c : ℕ) → member c cs ≡ true → length (f c) ≡ w) → 0 < w → s < length cs * w
      → get_or (flat_map f cs) s [] ≡ get_or (f (get_or cs (s / w) 0)) (s % w) []
  unfolding flat_map
  flat_map_at [] s h pos l = absurd (omega arith)
  flat_map_at (c ∷ cs) s h pos l =
      let size : length (f c) ≡ w = h c (member_first c cs) in
      by_le w s
      (λ (far : w ≤ s).
      let t : ℕ = s - w in
      let whole : s ≡ w + t = omega arith in
      let block : s / w ≡ suc (t / w) = ap (λ (n : ℕ). n / w) whole ∙ add-div_left t pos ∙ add-one (t / w) in
      let entry : s % w ≡ t % w = ap (λ (n : ℕ). n % w) whole ∙ add-mod_left w t in
      cc (get_or-append-add (f c) (flat_map f cs) t [], flat_map_at cs t (λ b m. h b (member_later b c cs m)) pos (omega arith)))
      (λ (near : s < w).
      cc (div-eq_of_lt near, mod-eq_of_lt near, get_or-append (f c) (flat_map f cs) [] s (omega arith)))

-- the prefixes that begin with c
abbrev block : ℕ → List ℕ → ℕ → List (List ℕ)
block p free c = map (λ q. c ∷ q) (prefixes p (without (c ∷ []) free))

block_length :
    (p : ℕ) → ((free : List ℕ) → Distinct free → length (prefixes p free) ≡ falling (length free) p)
    → (free : List ℕ) → Distinct free → (c : ℕ) → member c free ≡ true → length (block p free c) ≡ weight p free
block_length p many free d c m =
    length-map (prefixes p (without (c ∷ []) free)) (λ q. c ∷ q)
    ∙ many (without (c ∷ []) free) (distinct_without (c ∷ []) free d)
    ∙ weight_left p free d c m

-- over n names there are n!/(n - p)! prefixes of length p
pub prefixes_length : (p : ℕ) (free : List ℕ) → Distinct free → length (prefixes p free) ≡ falling (length free) p
unfolding flat_map prefixes
prefixes_length zero free d = refl
prefixes_length (suc p) free d = flat_map_length (block p free) (weight p free) free (block_length p (prefixes_length p) free d)

-- what the first digit of s chooses: a name of `free`; and what is left of s is a number for the names left
pub record First (p : ℕ) (free : List ℕ) (s : ℕ) : Type 0 where
  pub index : s / weight p free < length free
  pub here : member (first_name p free s) free ≡ true
  pub digit : s % weight p free < weight p free
  pub fits : s % weight p free < falling (length (without (first_name p free s ∷ []) free)) p
  pub left : Distinct (without (first_name p free s ∷ []) free)

weight_positive : (n w s : ℕ) → s < n * w → 0 < w
weight_positive n zero s l = absurd (omega arith)
weight_positive n (suc w) s l = omega arith

pub first : (p : ℕ) (free : List ℕ) (s : ℕ) → Distinct free → s < falling (length free) (suc p) → First p free s
first p free s d l =
    let w : ℕ = weight p free in
    let pos : 0 < w = weight_positive (length free) w s l in
    let index : s / w < length free = (div-lt_iff_lt-mul pos).1 l in
    let here : member (first_name p free s) free ≡ true = member_get_or free (s / w) index in
    record {
      index = index;
      here = here;
      digit = mod-lt s pos;
      fits = rw (weight_left p free d (first_name p free s) here) (mod-lt s pos);
      left = distinct_without (first_name p free s ∷ []) free d;
    }

-- entry j of the prefixes that begin with c
get_or_map_cons : (c : ℕ) (qs : List (List ℕ)) (j : ℕ) → j < length qs → get_or (map (λ q. c ∷ q) qs) j [] ≡ c ∷ get_or qs j []
get_or_map_cons c [] j l = absurd (omega arith)
get_or_map_cons c (q ∷ qs) zero l = refl
get_or_map_cons c (q ∷ qs) (suc j) l = get_or_map_cons c qs j (le_of_suc-le-suc l)

-- entry s of the enumeration is the prefix that the digits of s choose
pub prefixes_at : (p : ℕ) (free : List ℕ) (s : ℕ) → Distinct free → s < falling (length free) p → get_or (prefixes p free) s [] ≡ prefix_of p free s
unfolding flat_map prefixes prefix_of
prefixes_at zero free zero d l = refl
prefixes_at zero free (suc s) d l = absurd (omega arith)
prefixes_at (suc p) free s d l =
    let w : ℕ = weight p free in
    let g : First p free s = first p free s d l in
    let c : ℕ = first_name p free s in
    let left : List ℕ = without (c ∷ []) free in
    flat_map_at (block p free) w free s (block_length p (prefixes_length p) free d) (omega (arith, g.digit)) l
    ∙ get_or_map_cons c (prefixes p left) (s % w) (omega (arith, g.fits, prefixes_length p left g.left))
    ∙ ap (λ (q : List ℕ). c ∷ q) (prefixes_at p left (s % w) g.left g.fits)

pub prefix_of_length : (p : ℕ) (free : List ℕ) (s : ℕ) → length (prefix_of p free s) ≡ p
unfolding prefix_of
prefix_of_length zero free s = refl
prefix_of_length (suc p) free s = ap suc (prefix_of_length p (without (first_name p free s ∷ []) free) (s % weight p free))

-- a first name, and then names of those left, are names of `free`; and the other way round
over_cons : (c : ℕ) (free q : List ℕ) → member c free ≡ true → Over (without (c ∷ []) free) q → Over free (c ∷ q)
over_cons c free q m h =
    let out : member c q ≡ false =
    by_test (member c q) (λ e. cc (h.named c e, member_without c (c ∷ []) free, eq-eqb c c refl)) (λ e. e) in
    record {
      distinct = distinct_cons c q out h.distinct;
      named = λ b k. by_name b c (λ r e. cc) (λ r e. without_among (c ∷ []) free b (h.named b (rw e at k)));
    }

pub over_tail : (c : ℕ) (free q : List ℕ) → Over free (c ∷ q) → Over (without (c ∷ []) free) q
over_tail c free q h = record {
  distinct = distinct_tail c q h.distinct;
  named = λ b m. cc (
    member_without b (c ∷ []) free,
    member_differs b c q (distinct_head c q h.distinct) m,
    h.named b (member_later b c q m),
  );
}

pub prefix_of_over : (p : ℕ) (free : List ℕ) (s : ℕ) → Distinct free → s < falling (length free) p → Over free (prefix_of p free s)
unfolding prefix_of
prefix_of_over zero free s d l = record { distinct = refl; named = λ c m. absurd (false≢true m) }
prefix_of_over (suc p) free s d l =
    let g : First p free s = first p free s d l in
    let left : List ℕ = without (first_name p free s ∷ []) free in
    over_cons (first_name p free s) free (prefix_of p left (s % weight p free)) g.here
    (prefix_of_over p left (s % weight p free) g.left g.fits)

-- the number of prefix number s is s
pub number_of_prefix_of : (p : ℕ) (free : List ℕ) (s : ℕ) → Distinct free → s < falling (length free) p → number_of free (prefix_of p free s) ≡ s
unfolding prefix_of number_of
number_of_prefix_of zero free s d l = omega arith
number_of_prefix_of (suc p) free s d l =
    let w : ℕ = weight p free in
    let g : First p free s = first p free s d l in
    let left : List ℕ = without (first_name p free s ∷ []) free in
    let at : place_of (first_name p free s) free - 1 ≡ s / w = omega (arith, place_of_get_or free (s / w) d g.index) in
    cc (prefix_of_length p left (s % w), number_of_prefix_of p left (s % w) g.left g.fits, div-add-mod' s w)

pub number_of_below : (free q : List ℕ) → Distinct free → Over free q → number_of free q < falling (length free) (length q)
unfolding number_of
number_of_below free [] d h = omega arith
number_of_below free (c ∷ q) d h =
    let m : member c free ≡ true = h.named c (member_first c q) in
    let w : ℕ = weight (length q) free in
    let left : List ℕ = without (c ∷ []) free in
    let below : number_of left q < w =
    rw (weight_left (length q) free d c m) at (number_of_below left q (distinct_without (c ∷ []) free d) (over_tail c free q h)) in
    digits_lt (omega (arith, place_of_low c free, place_of_high c free m)) below

-- the prefix that has a prefix's number is that prefix
pub prefix_of_number_of : (free q : List ℕ) → Distinct free → Over free q → prefix_of (length q) free (number_of free q) ≡ q
unfolding prefix_of number_of
prefix_of_number_of free [] d h = refl
prefix_of_number_of free (c ∷ q) d h =
    let m : member c free ≡ true = h.named c (member_first c q) in
    let w : ℕ = weight (length q) free in
    let left : List ℕ = without (c ∷ []) free in
    let dl : Distinct left = distinct_without (c ∷ []) free d in
    let tail : Over left q = over_tail c free q h in
    let i : ℕ = place_of c free - 1 in
    let r : ℕ = number_of left q in
    let below : r < w = rw (weight_left (length q) free d c m) at (number_of_below left q dl tail) in
    cc (digits_div i below, digits_mod i below, cell_at_place_of c free m, prefix_of_number_of left q dl tail)

get_or_ascends : (xs : List ℕ) (i j : ℕ) → Ascending xs → i < j → j < length xs → get_or xs i 0 < get_or xs j 0
get_or_ascends [] i j a l h = absurd (omega arith)
get_or_ascends (x ∷ xs) i zero a l h = absurd (omega arith)
get_or_ascends (x ∷ xs) zero (suc j) a l h = a.0 (get_or xs j 0) (member_get_or xs j (le_of_suc-le-suc h))
get_or_ascends (x ∷ xs) (suc i) (suc j) a l h = get_or_ascends xs i j a.1 (le_of_suc-le-suc l) (le_of_suc-le-suc h)

-- over names that ascend, the prefix of the lower number comes first: by its first digit, or by the rest where that is the same
pub prefix_of_before :
    (p : ℕ) (free : List ℕ) (s t : ℕ) → Ascending free → s < t → t < falling (length free) p → Lexᴰ ◌<◌ (prefix_of p free s) (prefix_of p free t)
unfolding prefix_of
prefix_of_before zero free s t a l u = absurd (omega arith)
prefix_of_before (suc p) free s t a l u =
    let w : ℕ = weight p free in
    let d : Distinct free = ascending_distinct free a in
    let f : First p free s = first p free s d (omega arith) in
    let g : First p free t = first p free t d u in
    let es : s / w * w + s % w ≡ s = div-add-mod' s w in
    let et : t / w * w + t % w ≡ t = div-add-mod' t w in
    by_order (s / w) (t / w)
    (λ less. Lexᴰ.rel (get_or_ascends free (s / w) (t / w) a less g.index))
    (λ more. absurd (omega (arith, mul-le-mul_right w more, g.digit)))
    (λ same.
    let c : first_name p free s ≡ first_name p free t = ap (λ (i : ℕ). get_or free i 0) same in
    let rest : s % w < t % w = omega (arith, ap (λ (i : ℕ). i * w) same) in
    Lexᴰ.cons c (rw c (prefix_of_before p (without (first_name p free t ∷ []) free) (s % w) (t % w) (ascending_without (first_name p free t ∷ []) free a) rest g.fits)))
