-- The permutations within reach of r pushes: exactly those, each once, in sequence, n!/(n-r)! of them. Assumes nothing.
use mathlib.Core.Path.{◌≡◌, refl, ap, sym, ◌∙◌}
use mathlib.Core.Bool.{Bool}
use mathlib.Core.Logic.{◌⊎◌, inl, inr, ⊎_elim}
use mathlib.Core.List.Memᴰ
use mathlib.Core.List.Lexᴰ
use mathlib.Core.List.{List, [], ◌++◌, append-nil, flat_map, Lexᴰ}
use Prim.Native.Nat.{ℕ, zero, suc, ◌+◌, ◌-◌, ◌*◌, ◌/◌, ◌≤◌, ◌<◌}
use native.Mathlib.Omega.{arith}
use lib.Dec.{eqb}
use lib.ListN.{length, get_or, take, length-append, drop_of_length-le}
use lib.Seq.{take_all}
use borrow.Author.Tests.{eq-eqb, eqb-true}
use Rattle.theory.specs.Lists.{without, names_from, names}
use Rattle.theory.specs.Factorial.{factorial, falling}
use Rattle.theory.specs.Permutation.{IsPermutation}
use Rattle.theory.specs.Push.{pushes, cell_places}
use Rattle.theory.specs.Rewrite.{rewrite_count, rewrite_pushes}
use Rattle.theory.specs.Prefix.{prefixes, prefix_at}
use Rattle.theory.specs.Claims.{Rewriting}
use Rattle.theory.proofs.Cases.{by_order}
use Rattle.theory.proofs.Factorials.{falling_quotient, falling_last}
use Rattle.theory.proofs.Members.{permutation_distinct}
use Rattle.theory.proofs.Names.{names_length, names_high, names_member, names_ascending, names_permutation, permutation_member}
use Rattle.theory.proofs.Rows.{Rearranged, cell_places_length, pushes_cells, pushes_permutation}
use Rattle.theory.proofs.Rewriting.{rewriting}
use Rattle.theory.proofs.Prefixes.{names_distinct, permutation_prefix, numbering}
use Rattle.theory.proofs.Storing.{others_below}
use Rattle.reach.specs.Reach.{keep, all_permutations, at_distance, within_reach}
use Rattle.reach.specs.Claims.{LeastPushes, Reaching, ReachClaims}
use Rattle.reach.proofs.Entries.{In, at_in, in_at, keep_in, in_keep, flat_map_in, in_flat_map}
use Rattle.reach.proofs.Sorted.{Sorted, sorted_at, at_sorted, sorted_keep, sorted_flat_map, sorted_as}
use Rattle.reach.proofs.Branching.{Named, in_prefixes, distance_none, distance_many}

-- ---- all permutations

all_prefixes : (n : ℕ) → all_permutations (names n) ≡ prefixes n (names n)
all_prefixes n = rw (names_length 1 n)

in_permutation : {n : ℕ} {t : List ℕ} → In t (all_permutations (names n)) → IsPermutation n t
in_permutation {n} {t} m =
    let over = in_prefixes n (names n) (names_distinct n) t (rw (all_prefixes n) at m) in
    let k : Rearranged (names n) (t ++ without t (names n)) = others_below (names n) (names_distinct n) t over.1.distinct over.1.named in
    let none : without t (names n) ≡ [] =
    drop_of_length-le (without t (names n)) {i = 0} (omega (arith, over.0, length-append t (without t (names n)), k.long, names_length 1 n)) in
    let all : Rearranged (names n) t = rw (none, append-nil t) at k in
    names_permutation over.0 all.distinct (λ c. sym (all.same c))

permutation_in : {n : ℕ} {t : List ℕ} → IsPermutation n t → In t (all_permutations (names n))
unfolding prefix_at
permutation_in {n} {t} o =
    let whole : take n t ≡ t = take_all n t (omega (arith, o.long)) in
    let w = (numbering n n (omega arith)).prefix_number_lem t (permutation_prefix n t (omega arith) o) in
    rw (all_prefixes n) (Memᴰ.cast (sym (w.1 ∙ whole)) (at_in (prefixes n (names n)) _ w.0))

permutations_rise : (n : ℕ) → Sorted (Lexᴰ ◌<◌) (all_permutations (names n))
unfolding prefix_at
permutations_rise n = rw (all_prefixes n) (at_sorted (Lexᴰ ◌<◌) (prefixes n (names n)) (numbering n n (omega arith)).lexicographic)

-- ---- the least number of pushes

module _ {n : ℕ} {xs : List ℕ} (pos : 1 ≤ n) (o : IsPermutation n xs) where
  module _ {t : List ℕ} (p : IsPermutation n t) where
    to : Rewriting n xs t
    to = rewriting n xs t pos o p

    -- it is that of a rewrite
    rewrite_least_pushes : LeastPushes n xs t (rewrite_count xs t)
    rewrite_least_pushes = record {
      row = cell_places (rewrite_pushes xs t) xs;
      places = to.places;
      many = cell_places_length (rewrite_pushes xs t) xs ∙ to.many;
      leads = pushes_cells (rewrite_pushes xs t) xs ∙ to.reaches;
      fewest = to.fewest;
    }

    least_is : {k : ℕ} → LeastPushes n xs t k → rewrite_count xs t ≡ k
    least_is l =
        let r : LeastPushes n xs t (rewrite_count xs t) = rewrite_least_pushes in
        omega (arith, to.fewest l.row l.places l.leads, l.many, l.fewest r.row r.places r.leads, r.many)

-- ---- what is within reach

module _ (n : ℕ) (xs : List ℕ) where
  in_distance : {t : List ℕ} (d : ℕ) → In t (at_distance (names n) xs d) → In t (all_permutations (names n)) × (rewrite_count xs t ≡ d)
  unfolding at_distance
  in_distance {t} d m =
      let k = in_keep (λ u. eqb (rewrite_count xs u) d) (all_permutations (names n)) m in
      (k.0, eqb-true (rewrite_count xs t) d k.1)

  pub in_within : {t : List ℕ} (r : ℕ) → In t (within_reach n xs r) → IsPermutation n t × (rewrite_count xs t ≤ r)
  unfolding within_reach
  in_within r m =
      let k = in_flat_map (at_distance (names n) xs) (names_from 0 (r + 1)) m in
      let u = in_distance k.0 k.2 in
      (in_permutation u.0, omega (arith, u.1, names_high 0 (r + 1) k.0 k.1))

  within_in : {t : List ℕ} (r : ℕ) → IsPermutation n t → rewrite_count xs t ≤ r → In t (within_reach n xs r)
  unfolding within_reach at_distance
  within_in {t} r p l =
      flat_map_in (at_distance (names n) xs) (names_from 0 (r + 1)) (rewrite_count xs t) (names_member 0 (r + 1) (rewrite_count xs t) (omega arith) (omega arith))
      (keep_in (λ u. eqb (rewrite_count xs u) (rewrite_count xs t)) (all_permutations (names n)) (permutation_in p) (eq-eqb (rewrite_count xs t) (rewrite_count xs t) refl))

  -- u comes before t
  abbrev Earlier : List ℕ → List ℕ → Type 0
  Earlier u t = (rewrite_count xs u < rewrite_count xs t) ⊎ ((rewrite_count xs u ≡ rewrite_count xs t) × Lexᴰ ◌<◌ u t)

  distance_sorted : (d : ℕ) → Sorted Earlier (at_distance (names n) xs d)
  unfolding at_distance
  distance_sorted d =
      let test : List ℕ → Bool = λ t. eqb (rewrite_count xs t) d in
      sorted_as (Lexᴰ ◌<◌) Earlier (keep test (all_permutations (names n)))
      (λ a b i j k. inr (
        eqb-true (rewrite_count xs a) d (in_keep test (all_permutations (names n)) i).1
            ∙ sym (eqb-true (rewrite_count xs b) d (in_keep test (all_permutations (names n)) j).1),
        k,
      ))
      (sorted_keep (Lexᴰ ◌<◌) test (all_permutations (names n)) (permutations_rise n))

  within_sorted : (r : ℕ) → Sorted Earlier (within_reach n xs r)
  unfolding within_reach
  within_sorted r =
      sorted_flat_map Earlier (at_distance (names n) xs) (names_from 0 (r + 1)) (names_ascending 0 (r + 1)) distance_sorted
      (λ b c l t u i j. inl (omega (arith, (in_distance b i).1, (in_distance c j).1)))

-- ---- how many

module _ {n : ℕ} {xs : List ℕ} (o : IsPermutation n xs) where
  cells_named : Named (names n) xs
  cells_named = record {
    names = names_distinct n;
    cells = record { distinct = permutation_distinct o; same = λ c. sym (permutation_member o c); long = o.long ∙ sym (names_length 1 n) };
  }

  -- past those up to a pushes away
  further_many : (a k : ℕ) → a + k ≤ n → falling n a + length (flat_map (at_distance (names n) xs) (names_from (suc a) k)) ≡ falling n (a + k)
  unfolding flat_map
  further_many a zero l = let q : a + 0 ≡ a = omega arith in rw q (omega arith)
  further_many a (suc k) l =
      let here : List (List ℕ) = at_distance (names n) xs (suc a) in
      let more : List (List ℕ) = flat_map (at_distance (names n) xs) (names_from (suc (suc a)) k) in
      let many : length here ≡ falling n a * (n - suc a) =
      rw o.long at (distance_many a (names n) xs cells_named) in
      let split : n - a ≡ suc (n - suc a) = omega arith in
      let sum : falling n a + length here ≡ falling n (suc a) = omega (arith, rw split at (falling_last n a)) in
      let q : suc a + k ≡ a + suc k = omega arith in
      omega (arith, length-append here more, rw q at (further_many (suc a) k (omega arith)))

  pub within_many : (r : ℕ) → r ≤ n → length (within_reach n xs r) ≡ factorial n / factorial (n - r)
  unfolding within_reach flat_map
  within_many r l =
      let one : r + 1 ≡ suc r = omega arith in
      let all : 0 + r ≡ r = omega arith in
      let sum : 1 + length (flat_map (at_distance (names n) xs) (names_from 1 r)) ≡ falling n r = rw all at (further_many 0 r (omega arith)) in
      rw (one, distance_none xs cells_named) (omega (arith, sum, falling_quotient n r l))

pub reaching : {n : ℕ} {xs : List ℕ} → IsPermutation n xs → (r : ℕ) → r < n
    → Reaching n xs r (length (within_reach n xs r)) (λ i. get_or (within_reach n xs r) i [])
reaching {n} {xs} o r l =
    let ts : List (List ℕ) = within_reach n xs r in
    let entry : (i : ℕ) → i < length ts → IsPermutation n (get_or ts i []) × (rewrite_count xs (get_or ts i []) ≤ r) =
    λ i h. in_within n xs r (at_in ts i h) in
    let order : (i j : ℕ) → i < j → j < length ts → Earlier n xs (get_or ts i []) (get_or ts j []) = sorted_at (Earlier n xs) ts (within_sorted n xs r) in
    let apart : (i j : ℕ) → i < j → j < length ts → get_or ts i [] ≡ get_or ts j [] → ⊥ =
    λ i j less h e.
    ⊎_elim (λ k. omega (arith, ap (rewrite_count xs) e)) (λ k. Lexᴰ.irrefl (λ x s. omega arith) (get_or ts j []) (rw e at k.1)) (order i j less h) in
    let pos : 1 ≤ n = omega arith in
    record {
      counted = within_many o r (omega arith);
      permutation = λ i h. (entry i h).0;
      near = λ i h. record { distance = rewrite_count xs (get_or ts i []); least = rewrite_least_pushes pos o (entry i h).0; within = (entry i h).1 };
      every = λ is p s.
          let q : IsPermutation n (pushes is xs) = pushes_permutation o is p in
          in_at ts (within_in n xs r q (omega (arith, (rewriting n xs (pushes is xs) pos o q).fewest is p refl)));
      once = λ i j h k e. by_order i j (λ s. absurd (apart i j s k e)) (λ s. absurd (apart j i s h (sym e))) (λ s. s);
      sequence = λ i j less h a b u v.
          let eu : rewrite_count xs (get_or ts i []) ≡ a = least_is pos o (entry i (omega arith)).0 u in
          let ev : rewrite_count xs (get_or ts j []) ≡ b = least_is pos o (entry j h).0 v in
          ⊎_elim (λ k. inl (omega arith)) (λ k. inr (sym eu ∙ k.0 ∙ ev, k.1)) (order i j less h);
    }

pub reach_claims : ReachClaims
reach_claims = record { reaching = λ n xs o r l. reaching o r l }
