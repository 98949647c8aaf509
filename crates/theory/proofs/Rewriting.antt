-- Rewriting to a target permutation: the pushes give it, each at a place 2 to n, and no shorter row of pushes does. Assumes nothing.
use mathlib.Core.Path.{◌≡◌, refl, ap, sym, ◌∙◌}
use mathlib.Core.Bool.{true, false, false≢true}
use mathlib.Core.List.Sublistᴰ as ListSublistᴰ
use mathlib.Core.List.{List, [], ◌∷◌, ◌++◌, reverse, Sublistᴰ}
use Prim.Native.Nat.{ℕ, zero, suc, ◌-◌, ◌≤◌, ◌<◌}
use native.Mathlib.Omega.{arith}
use lib.Dec.{eqb}
use lib.ListN.{length, get_or, take, drop, take-append-drop, length-drop, length-reverse}
use lib.Seq.{take-suc, drop-cons, drop-length, drop-append_seam, length-take-le}
use Rattle.theory.specs.Lists.{count, member, without}
use Rattle.theory.specs.Permutation.{IsPermutation, top}
use Rattle.theory.specs.Push.{pushes, Places, push_cells, cell_places}
use Rattle.theory.specs.Rewrite.{in_sequence, rewrite_count, rewrite_pushes}
use Rattle.theory.specs.Claims.{Rewriting}
use Rattle.theory.proofs.Cases.{by_test, by_name, by_le}
use Rattle.theory.proofs.Counts.{count_append, count_reverse}
use Rattle.theory.proofs.Permutations.{inside}
use Rattle.theory.proofs.Members.{member_count, Distinct, Same, Among, permutation_distinct, distinct_head, distinct_left, distinct_drop, distinct_apart, member_first, member_append, member_take, member_get_or}
use Rattle.theory.proofs.Names.{permutation_member}
use Rattle.theory.proofs.Least.{least_holds, least_bound, least_min}
use Rattle.theory.proofs.Splits.{drop_last}
use Rattle.theory.proofs.Sublists.{sequence_sublist, rest_sublist, skip_sublist, sublist_sequence, without_sublist, sublist_one, without_others}
use Rattle.theory.proofs.Rows.{upward_split, upward_places, bring_all, bring_all_split, bring_all_length, moved_cells, moved_cells_length, pushes_bring_all}

rewrite_high : (xs t : List ℕ) → rewrite_count xs t ≤ length t
unfolding rewrite_count
rewrite_high xs t = least_bound (λ r. in_sequence xs (drop r t)) (length t)

-- the last cells of the target, after the first r, do stand in sequence
pub rewrite_sublist : (xs t : List ℕ) → Sublistᴰ (drop (rewrite_count xs t) t) xs
unfolding rewrite_count
rewrite_sublist xs t =
    sequence_sublist xs (drop (rewrite_count xs t) t)
    (least_holds (λ r. in_sequence xs (drop r t)) (length t) (length t) (omega arith) (rw drop-length refl))

-- and r is least with that
pub rewrite_least : (xs t : List ℕ) (k : ℕ) → Sublistᴰ (drop k t) xs → rewrite_count xs t ≤ k
unfolding rewrite_count
rewrite_least xs t k h = least_min (λ r. in_sequence xs (drop r t)) (length t) k (sublist_sequence xs (drop k t) h)

-- ---- going up the permutation, cell by cell

pub rewrite_none : (t : List ℕ) → rewrite_count [] t ≡ length t
rewrite_none t =
    let r : ℕ = rewrite_count [] t in
    omega (arith, rewrite_high [] t, length-drop r t, ap length (ListSublistᴰ.eq-nil (rewrite_sublist [] t)))

-- above the cells v, which leave j of the target's, comes one more cell x
module _ (x : ℕ) (v t : List ℕ) (j : ℕ) (is : j ≡ rewrite_count v t) (pos : 0 < j) where
  crossed : Sublistᴰ (drop j t) v
  crossed = rw is (rewrite_sublist v t)

  last_left : drop (j - 1) t ≡ get_or t (j - 1) 0 ∷ drop j t
  last_left =
      let q : suc (j - 1) ≡ j = omega arith in
      rw q at (drop-cons t (j - 1) 0 (omega (arith, rewrite_high v t)))

  -- x crosses off one at most
  fewer_by_one : rewrite_count (x ∷ v) t < j → j ≤ suc (rewrite_count (x ∷ v) t)
  fewer_by_one h =
      let m : ℕ = rewrite_count (x ∷ v) t in
      let parts : drop m t ≡ get_or t m 0 ∷ drop (suc m) t = drop-cons t m 0 (omega (arith, rewrite_high v t)) in
      omega (arith, rewrite_least v t (suc m) (rest_sublist (rw parts at (rewrite_sublist (x ∷ v) t))))

  pub rewrite_crossed : x ≡ get_or t (j - 1) 0 → rewrite_count (x ∷ v) t ≡ j - 1
  rewrite_crossed e =
      let more : Sublistᴰ (drop (j - 1) t) (x ∷ v) = rw last_left (ListSublistᴰ.cons-cons (sym e) crossed) in
      let high : rewrite_count (x ∷ v) t ≤ j - 1 = rewrite_least (x ∷ v) t (j - 1) more in
      omega (arith, fewer_by_one (omega arith))

  pub rewrite_passed : (x ≡ get_or t (j - 1) 0 → ⊥) → rewrite_count (x ∷ v) t ≡ j
  rewrite_passed ne =
      let m : ℕ = rewrite_count (x ∷ v) t in
      let high : m ≤ j = rewrite_least (x ∷ v) t j (ListSublistᴰ.cons crossed) in
      by_le j m
      (λ l. omega arith)
      (λ l.
      let q : m ≡ j - 1 = omega (arith, fewer_by_one l) in
      let same : Sublistᴰ (get_or t (j - 1) 0 ∷ drop j t) (x ∷ v) = rw (q, last_left) at (rewrite_sublist (x ∷ v) t) in
      absurd (omega (arith, rewrite_least v t (j - 1) (rw last_left (skip_sublist (λ e. ne (sym e)) same)))))

-- ---- the pushes

pub rewrite_many : (xs t : List ℕ) → length (rewrite_pushes xs t) ≡ rewrite_count xs t
unfolding rewrite_pushes
rewrite_many xs t = length-reverse (take (rewrite_count xs t) t) ∙ length-take-le (rewrite_count xs t) t (rewrite_high xs t)

rewrite_cells : (xs t : List ℕ) (c : ℕ) → member c (rewrite_pushes xs t) ≡ true → 1 ≤ count c t
unfolding rewrite_pushes
rewrite_cells xs t c m =
    let r : ℕ = rewrite_count xs t in
    omega (
      arith,
      member_count c (reverse (take r t)) m,
      count_reverse c (take r t),
      count_append c (take r t) (drop r t),
      ap (count c) (take-append-drop r t),
    )

-- the cell on top comes before every sublist that does not have it
pub top_sublist : (c : ℕ) (s xs : List ℕ) → member c xs ≡ true → top xs ≡ c → member c s ≡ false → Sublistᴰ s xs → Sublistᴰ (c ∷ s) xs
top_sublist c s [] m q out k = absurd (false≢true m)
top_sublist c [] (x ∷ xs) m q out k = ListSublistᴰ.cons-cons (sym q) (ListSublistᴰ.nil-sublist xs)
top_sublist c (b ∷ s) (x ∷ xs) m q out k =
    ListSublistᴰ.cons-cons (sym q) (skip_sublist (λ e. false≢true (sym out ∙ ap (λ (d : ℕ). member d (b ∷ s)) (sym q ∙ sym e) ∙ member_first b s)) k)

module _ (xs t : List ℕ) (dx : Distinct xs) (dt : Distinct t) (same : Same xs t) where
  -- the first cell to push is not on top: else it would stand in sequence before the others
  first_lower : (k : ℕ) → rewrite_count xs t ≡ suc k → eqb (top xs) (get_or t k 0) ≡ false
  first_lower k e =
      let c : ℕ = get_or t k 0 in
      let s : List ℕ = drop (suc k) t in
      let high : suc k ≤ length t = omega (arith, rewrite_high xs t) in
      let parts : drop k t ≡ c ∷ s = drop-cons t k 0 high in
      let out : member c s ≡ false = distinct_head c s (rw parts at (distinct_drop k t dt)) in
      by_name (top xs) c
      (λ q f.
      let more : Sublistᴰ (drop k t) xs = rw parts (top_sublist c s xs (same c ∙ member_get_or t k high) q out (rw e at (rewrite_sublist xs t))) in
      absurd (omega (arith, rewrite_least xs t k more)))
      (λ q f. f)

  first_distinct : (r : ℕ) → Distinct (take r t)
  first_distinct r = distinct_left (take r t) (drop r t) (rw (take-append-drop r t) dt)

  first_among : (r : ℕ) → Among (take r t) xs
  first_among r c m = same c ∙ member_take c r t m

  -- where the cells after the first r stand in sequence, they are what the first r leave
  pub rest_left : (r : ℕ) → Sublistᴰ (drop r t) xs → without (take r t) xs ≡ drop r t
  rest_left r k =
      let a : List ℕ = take r t in
      let s : List ℕ = drop r t in
      let whole : a ++ s ≡ t = take-append-drop r t in
      without_others a k dx (λ c m.
      by_test (member c a)
      (λ e. cc (distinct_apart a s (rw whole dt) c e))
      (λ e. cc (same c, member_append c a s)))

  pub rewrite_reaches : push_cells (rewrite_pushes xs t) xs ≡ t
  unfolding rewrite_pushes
  rewrite_reaches =
      let r : ℕ = rewrite_count xs t in
      cc (upward_split xs dx (take r t) (first_distinct r) (first_among r), rest_left r (rewrite_sublist xs t), take-append-drop r t)

  pub rewrite_places : Places (length xs) (cell_places (rewrite_pushes xs t) xs)
  unfolding rewrite_pushes
  rewrite_places = row (rewrite_count xs t) refl
    where
      row : (r : ℕ) → rewrite_count xs t ≡ r → Places (length xs) (cell_places (reverse (take r t)) xs)
      row zero e = tt
      row (suc k) e =
          let parts : take (suc k) t ≡ take k t ++ get_or t k 0 ∷ [] = take-suc t k 0 (omega (arith, rewrite_high xs t)) in
          rw parts (upward_places xs dx (take k t) (get_or t k 0)
          (rw parts at (first_distinct (suc k)))
          (rw parts at (first_among (suc k)))
          (first_lower k e))

  -- the target's last cell alone always stands in sequence
  rewrite_bound : 1 ≤ length t → rewrite_count xs t ≤ length t - 1
  rewrite_bound pos =
      let k : ℕ = length t - 1 in
      let c : ℕ = get_or t k 0 in
      let one : drop k t ≡ c ∷ [] = drop_last (length t) t pos refl in
      rewrite_least xs t k (rw one (sublist_one c xs (same c ∙ member_get_or t k (omega arith))))

  -- after any row of pushes that gives the target, the cells below the pushed ones stand as they did
  pub rewrite_fewest : (is : List ℕ) → Places (length xs) is → pushes is xs ≡ t → rewrite_count xs t ≤ length is
  rewrite_fewest is p e =
      let cs : List ℕ = moved_cells is xs in
      let u : ℕ = length (bring_all cs []) in
      let rest : drop u t ≡ without cs xs =
      ap (drop u) (sym e ∙ pushes_bring_all is xs dx p ∙ bring_all_split cs xs) ∙ drop-append_seam (bring_all cs []) (without cs xs) in
      omega (arith, rewrite_least xs t u (rw rest (without_sublist cs xs)), bring_all_length cs [], moved_cells_length is xs)

pub rewriting : (n : ℕ) (xs target : List ℕ) → 1 ≤ n → IsPermutation n xs → IsPermutation n target → Rewriting n xs target
rewriting n xs target pos o q =
    let d : Distinct xs = permutation_distinct o in
    let dt : Distinct target = permutation_distinct q in
    let same : Same xs target = λ c. permutation_member o c ∙ sym (permutation_member q c) in
    record {
      reaches = rewrite_reaches xs target d dt same;
      many = rewrite_many xs target;
      cells = λ c m. inside n target q c (rewrite_cells xs target c m);
      places = rw o.long at (rewrite_places xs target d dt same);
      at_most = omega (arith, rewrite_bound xs target d dt same (omega (arith, q.long)), q.long);
      fewest = λ is p. rewrite_fewest xs target d dt same is (rw o.long p);
    }
