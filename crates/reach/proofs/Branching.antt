-- What is d pushes away, by the cell that it starts with: the cells themselves where d is 0, and else, for each name in turn, that cell before what is d - 1 pushes
-- away from the others, but for the cell on top where d is 1. So it is counted. Assumes nothing.
use mathlib.Core.Path.{◌≡◌, refl, ap, sym, ◌∙◌}
use mathlib.Core.Bool.{Bool, true, false, cond, not, ◌&&◌, false≢true, and-true, and-false}
use mathlib.Core.List.{List, [], ◌∷◌, map, flat_map, append-nil}
use Prim.Native.Nat.{ℕ, zero, suc, ◌-◌, ◌*◌, ◌<◌}
use native.Mathlib.Nat.{mul_assoc}
use native.Mathlib.Omega.{arith}
use lib.Dec.{eqb}
use lib.ListN.{length, length-append, length-map}
use borrow.Author.Tests.{eq-eqb, ne_eqb}
use Rattle.theory.specs.Lists.{member, without}
use Rattle.theory.specs.Factorial.{falling}
use Rattle.theory.specs.Rewrite.{rewrite_count}
use Rattle.theory.specs.Prefix.{prefixes}
use Rattle.theory.proofs.Cases.{by_test, by_name, eqb_sym}
use Rattle.theory.proofs.Members.{Distinct, distinct_head, distinct_tail, distinct_without, member_first, member_later, member_differs, member_length, member_without, without_absent, without_one_length}
use Rattle.theory.proofs.Rows.{Rearranged}
use Rattle.theory.proofs.Numbering.{Over, prefixes_length, prefixes_at, prefix_of_length, prefix_of_over, flat_map_length}
use Rattle.reach.specs.Reach.{keep, at_distance}
use Rattle.reach.specs.Led.{starting_with}
use Rattle.reach.proofs.Entries.{In, At, in_at, keep_none, keep_same, keep_under, keep_flat_map, flat_map_same, flat_map_none}
use Rattle.reach.proofs.Nearing.{none_test, more_test}

-- cells xs, and their names
pub record Named (free xs : List ℕ) : Type 0 where
  pub names : Distinct free
  pub cells : Rearranged free xs

-- one cell less
named_less : {free xs : List ℕ} → Named free xs → (c : ℕ) → member c free ≡ true → Named (without (c ∷ []) free) (without (c ∷ []) xs)
named_less {free} {xs} v c m =
    let k : Rearranged free xs = v.cells in
    record {
      names = distinct_without (c ∷ []) free v.names;
      cells = record {
        distinct = distinct_without (c ∷ []) xs k.distinct;
        same = λ b. cc (member_without b (c ∷ []) free, member_without b (c ∷ []) xs, k.same b);
        long = cc (without_one_length c free v.names m, without_one_length c xs k.distinct (sym (k.same c) ∙ m), k.long);
      };
    }

-- a prefix of length p over the names of `free` has that length, and names of `free` only
pub in_prefixes : (p : ℕ) (free : List ℕ) → Distinct free → (t : List ℕ) → In t (prefixes p free) → (length t ≡ p) × Over free t
in_prefixes p free d t m =
    let f : At t (prefixes p free) = in_at (prefixes p free) m in
    let below : f.index < falling (length free) p = omega (arith, f.within, prefixes_length p free d) in
    let is = sym f.here ∙ prefixes_at p free f.index d below in
    (rw is (prefix_of_length p free f.index), rw is (prefix_of_over p free f.index d below))

-- a test of all prefixes is one of those under each name in turn
keep_prefixes :
    (test : List ℕ → Bool) (p : ℕ) (free : List ℕ)
    → keep test (prefixes (suc p) free) ≡ flat_map (λ c. map (λ t. c ∷ t) (keep (λ t. test (c ∷ t)) (prefixes p (without (c ∷ []) free)))) free
unfolding prefixes flat_map
keep_prefixes test p free =
    keep_flat_map test (λ c. map (λ t. c ∷ t) (prefixes p (without (c ∷ []) free))) free
    ∙ flat_map_same _ _ free (λ c m. keep_under test c (prefixes p (without (c ∷ []) free)))

-- the cells x ∷ xs, with the names of `free`, and one of them taken out
module _ {x : ℕ} {xs free : List ℕ} (v : Named free (x ∷ xs)) (c : ℕ) (m : member c free ≡ true) where
  cell_in : member c (x ∷ xs) ≡ true
  cell_in = sym (v.cells.same c) ∙ m

  others : Named (without (c ∷ []) free) (without (c ∷ []) (x ∷ xs))
  others = named_less v c m

  others_fewer : length (without (c ∷ []) (x ∷ xs)) ≡ length xs
  others_fewer = without_one_length c (x ∷ xs) v.cells.distinct cell_in ∙ omega arith

  names_fewer : length (without (c ∷ []) free) ≡ length xs
  names_fewer = sym others.cells.long ∙ others_fewer

  module _ (t : List ℕ) (i : In t (prefixes (length xs) (without (c ∷ []) free))) where
    is_prefix : (length t ≡ length xs) × Over (without (c ∷ []) free) t
    is_prefix = in_prefixes (length xs) (without (c ∷ []) free) others.names t i

    cell_out : member c t ≡ false
    cell_out =
        by_test (member c t)
        (λ e. absurd (false≢true (sym (cc (member_without c (c ∷ []) free, eq-eqb c c refl)) ∙ is_prefix.1.named c e)))
        (λ e. e)

    named_none_test : eqb (rewrite_count (x ∷ xs) (c ∷ t)) 0 ≡ (eqb (rewrite_count (without (c ∷ []) (x ∷ xs)) t) 0 && eqb c x)
    named_none_test = none_test c t (x ∷ xs) cell_in cell_out (ap suc is_prefix.0)

    named_more_test : (d : ℕ) → eqb (rewrite_count (x ∷ xs) (c ∷ t)) (suc d)
        ≡ (not (eqb d 0 && eqb c x) && eqb (rewrite_count (without (c ∷ []) (x ∷ xs)) t) d)
    named_more_test d = more_test c t (x ∷ xs) cell_in cell_out (ap suc is_prefix.0) d

-- ---- 0 pushes away

-- of lists put one after another all but one are empty
flat_map_one : (a : ℕ) (ts : List (List ℕ)) (cs : List ℕ) → Distinct cs → member a cs ≡ true → flat_map (λ c. cond (eqb c a) ts []) cs ≡ ts
unfolding flat_map
flat_map_one a ts [] d m = absurd (false≢true m)
flat_map_one a ts (b ∷ cs) d m =
    by_name a b
    (λ q e.
    let none : flat_map (λ c. cond (eqb c a) ts []) cs ≡ [] =
    flat_map_none _ cs (λ c k. cc (member_differs c b cs (distinct_head b cs d) k)) in
    cc (eqb_sym b a, append-nil ts))
    (λ q e. cc (eqb_sym b a, flat_map_one a ts cs (distinct_tail b cs d) (rw e at m)))

module _ {x : ℕ} {xs free : List ℕ} (v : Named free (x ∷ xs)) where
  -- what the cell on top has under it: the others as they stand
  without_top : without (x ∷ []) (x ∷ xs) ≡ xs
  without_top = cc (eq-eqb x x refl, without_absent x xs (distinct_head x xs v.cells.distinct))

  top_in : member x free ≡ true
  top_in = v.cells.same x ∙ member_first x xs

  under_top : Named (without (x ∷ []) free) xs
  under_top = rw without_top at (named_less v x top_in)

  top_kept :
      at_distance (without (x ∷ []) free) xs 0 ≡ xs ∷ []
      → keep (λ t. eqb (rewrite_count (x ∷ xs) (x ∷ t)) 0) (prefixes (length xs) (without (x ∷ []) free)) ≡ xs ∷ []
  unfolding at_distance
  top_kept ih =
      keep_same _ (λ t. eqb (rewrite_count xs t) 0) (prefixes (length xs) (without (x ∷ []) free))
      (λ t i. named_none_test v x top_in t i ∙ rw (without_top, eq-eqb x x refl) (and-true _))
      ∙ rw (names_fewer v x top_in) at ih

  none_more : at_distance (without (x ∷ []) free) xs 0 ≡ xs ∷ [] → at_distance free (x ∷ xs) 0 ≡ (x ∷ xs) ∷ []
  unfolding at_distance
  none_more ih =
      rw (sym v.cells.long) (
      keep_prefixes (λ t. eqb (rewrite_count (x ∷ xs) t) 0) (length xs) free
      ∙ flat_map_same _ (λ c. cond (eqb c x) ((x ∷ xs) ∷ []) []) free (λ c m.
      by_name c x
      (λ q e. rw (e, q) (ap (map (λ t. x ∷ t)) (top_kept ih)))
      (λ q e. rw e (ap (map (λ t. c ∷ t)) (keep_none _ (prefixes (length xs) (without (c ∷ []) free)) (λ t i. named_none_test v c m t i ∙ rw e (and-false (eqb (rewrite_count (without (c ∷ []) (x ∷ xs)) t) 0)))))))
      ∙ flat_map_one x ((x ∷ xs) ∷ []) free v.names top_in
      )

pub distance_none : {free : List ℕ} (xs : List ℕ) → Named free xs → at_distance free xs 0 ≡ xs ∷ []
unfolding at_distance prefixes rewrite_count
distance_none [] v = rw (sym v.cells.long)
distance_none {free} (x ∷ xs) v = none_more v (distance_none {free = without (x ∷ []) free} xs (under_top v))

-- ---- more pushes away

one_more : (d : ℕ) → eqb (suc d) 1 ≡ eqb d 0
one_more d = by_name d 0 (λ q e. eq-eqb (suc d) 1 (ap suc q) ∙ sym e) (λ q e. ne_eqb (suc d) 1 (λ r. q (omega arith)) ∙ sym e)

-- no cells are 0 pushes away from themselves
distance_empty : {free : List ℕ} → Named free [] → (d : ℕ) → at_distance free [] (suc d) ≡ []
unfolding at_distance prefixes rewrite_count
distance_empty v d = rw (sym v.cells.long, ne_eqb 0 (suc d) (λ q. omega arith))

pub distance_more : (free xs : List ℕ) (d : ℕ) → Named free xs → at_distance free xs (suc d) ≡ flat_map (starting_with free xs (suc d)) free
unfolding at_distance starting_with flat_map
distance_more [] [] d v = distance_empty v d
distance_more (a ∷ free) [] d v = absurd (omega (arith, v.cells.long))
distance_more free (x ∷ xs) d v =
    rw (sym v.cells.long) (
    keep_prefixes (λ t. eqb (rewrite_count (x ∷ xs) t) (suc d)) (length xs) free
    ∙ flat_map_same _ _ free (λ c m.
    let one : eqb (suc d) 1 ≡ eqb d 0 = one_more d in
    let pred : suc d - 1 ≡ d = omega arith in
    by_test (eqb d 0 && eqb c x)
    (λ f. rw (one, f) (ap (map (λ t. c ∷ t)) (keep_none _ (prefixes (length xs) (without (c ∷ []) free)) (λ t i. named_more_test v c m t i d ∙ rw f))))
    (λ f. rw (one, f, pred, names_fewer v c m) (ap (map (λ t. c ∷ t)) (keep_same _ _ (prefixes (length xs) (without (c ∷ []) free)) (λ t i. named_more_test v c m t i d ∙ rw f)))))
    )

-- ---- how many

-- lists of one entry each, but for one that is empty
flat_map_but_one :
    (f : ℕ → List (List ℕ)) (a : ℕ) (cs : List ℕ) → Distinct cs → member a cs ≡ true → f a ≡ []
    → ((c : ℕ) → member c cs ≡ true → eqb c a ≡ false → length (f c) ≡ 1) → length (flat_map f cs) ≡ length cs - 1
unfolding flat_map
flat_map_but_one f a [] d m none one = absurd (false≢true m)
flat_map_but_one f a (b ∷ cs) d m none one =
    by_name a b
    (λ q e.
    let ones : length (flat_map f cs) ≡ length cs * 1 =
    flat_map_length f 1 cs (λ c k. one c (member_later c b cs k) (rw q (member_differs c b cs (distinct_head b cs d) k))) in
    rw (← q, none) (omega (arith, ones)))
    (λ q e.
    let later : member a cs ≡ true = rw e at m in
    omega (
      arith,
      length-append (f b) (flat_map f cs),
      one b (member_first b cs) (eqb_sym b a ∙ e),
      flat_map_but_one f a cs (distinct_tail b cs d) later none (λ c k. one c (member_later c b cs k)),
      member_length a cs later,
    ))

pub distance_many : (d : ℕ) (free xs : List ℕ) → Named free xs → length (at_distance free xs (suc d)) ≡ falling (length xs) d * (length xs - suc d)
unfolding starting_with flat_map
distance_many zero free [] v = ap length (distance_empty v 0)
distance_many (suc d) free [] v = ap length (distance_empty v (suc d)) ∙ omega arith
distance_many zero free (x ∷ xs) v =
    ap length (distance_more free (x ∷ xs) 0 v)
    ∙ flat_map_but_one (starting_with free (x ∷ xs) 1) x free v.names (top_in v)
    (rw (eq-eqb x x refl))
    (λ c m e. rw (e, distance_none _ (named_less v c m)))
    ∙ omega (arith, v.cells.long)
distance_many (suc d) free (x ∷ xs) v =
    let w : ℕ = falling (length xs) d * (length xs - suc d) in
    let pred : suc (suc d) - 1 ≡ suc d = omega arith in
    let one : suc (length xs) - 1 ≡ length xs = omega arith in
    let two : suc (length xs) - suc (suc d) ≡ length xs - suc d = omega arith in
    ap length (distance_more free (x ∷ xs) (suc d) v)
    ∙ flat_map_length (starting_with free (x ∷ xs) (suc (suc d))) w free (λ c m.
    rw (ne_eqb (suc (suc d)) 1 (λ q. omega arith), pred) (
    length-map (at_distance (without (c ∷ []) free) (without (c ∷ []) (x ∷ xs)) (suc d)) (λ t. c ∷ t)
    ∙ distance_many d (without (c ∷ []) free) (without (c ∷ []) (x ∷ xs)) (named_less v c m)
    ∙ rw (others_fewer v c m)))
    ∙ rw (one, two, sym v.cells.long) (sym (mul_assoc (suc (length xs)) (falling (length xs) d) (length xs - suc d)))
