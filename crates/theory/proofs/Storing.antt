-- Storing a prefix in a permutation is the rewrite to the prefix with the other cells below it; no shorter row of pushes leads to any permutation with that
-- prefix, and its symbol is read. Assumes nothing.
use mathlib.Core.Path.{◌≡◌, refl, ap, sym, ◌∙◌}
use mathlib.Core.Bool.{true, false≢true}
use mathlib.Core.List.{List, [], ◌∷◌, ◌++◌, reverse, Sublistᴰ}
use Prim.Native.Nat.{ℕ, ◌≤◌, ◌<◌}
use native.Mathlib.Omega.{arith}
use lib.ListN.{length, take, drop, take-append-drop, length-append, length-take}
use lib.Seq.{drop-length, drop-append_seam, take-append_seam, take-append-le, drop-append-le, take-take, length-take-le}
use Rattle.theory.specs.Lists.{member, without, names}
use Rattle.theory.specs.Factorial.{factorial}
use Rattle.theory.specs.Permutation.{IsPermutation}
use Rattle.theory.specs.Push.{pushes, Places}
use Rattle.theory.specs.Rewrite.{rewrite_count, rewrite_pushes}
use Rattle.theory.specs.Prefix.{IsPrefix, prefixes, prefix_length, symbol_prefix, symbol_of}
use Rattle.theory.specs.Store.{rest_leads, store_count, store_pushes}
use Rattle.theory.specs.Claims.{Numbering, Coding, Storing, SymbolStoring}
use Rattle.theory.proofs.Cases.{by_test, by_le}
use Rattle.theory.proofs.Counts.{count_reverse}
use Rattle.theory.proofs.Members.{Distinct, Same, Among, permutation_distinct, distinct_apart, distinct_without, member_first, member_later, member_take, member_count, count_member, without_none, without_append, without_without}
use Rattle.theory.proofs.Least.{least_holds, least_bound, least_min}
use Rattle.theory.proofs.Sublists.{without_sublist}
use Rattle.theory.proofs.Rows.{Rearranged, upward_split, upward_rearranged, pushes_rearranged}
use Rattle.theory.proofs.Rewriting.{rewrite_many, rewrite_sublist, rewrite_least, rewrite_reaches, rewrite_places, rewrite_fewest, rest_left}
use Rattle.theory.proofs.Prefixes.{begins_take, begins_append, prefix_among, numbering, coding}

-- ---- the least r

store_count_most : (q xs : List ℕ) → store_count q xs ≤ length q
unfolding store_count
store_count_most q xs = least_bound (rest_leads q xs) (length q)

store_count_leads : (q xs : List ℕ) → rest_leads q xs (store_count q xs) ≡ true
unfolding store_count
store_count_leads q xs = least_holds (rest_leads q xs) (length q) (length q) (omega arith) (rw drop-length refl)

store_count_least : (q xs : List ℕ) (r : ℕ) → rest_leads q xs r ≡ true → store_count q xs ≤ r
unfolding store_count
store_count_least q xs r h = least_min (rest_leads q xs) (length q) r h

pushed_member : (q xs : List ℕ) → Among (store_pushes q xs) q
unfolding store_pushes
pushed_member q xs c m =
    let first : List ℕ = take (store_count q xs) q in
    member_take c (store_count q xs) q (count_member c first (omega (arith, member_count c (reverse first) m, count_reverse c first)))

-- ---- the rest of a prefix

-- names taken out of themselves, and off the front of a list
without_all : (a l : List ℕ) → Among l a → without a l ≡ []
without_all a [] h = refl
without_all a (x ∷ l) h = cc (h x (member_first x l), without_all a l (λ c m. h c (member_later c x l m)))

without_front : (s t : List ℕ) → Distinct (s ++ t) → without s (s ++ t) ≡ t
without_front s t d =
    let none : without s t ≡ t =
    without_none s t (λ c m. by_test (member c s) (λ e. absurd (false≢true (sym (distinct_apart s t d c e) ∙ m))) (λ e. e)) in
    cc (without_append s s t, without_all s s (λ c m. m))

-- where the rest of q leads, the others follow it
leads_others : (q xs : List ℕ) (r : ℕ) → Distinct xs → rest_leads q xs r ≡ true → without (take r q) xs ≡ drop r q ++ without q xs
leads_others q xs r d h =
    let a : List ℕ = take r q in
    let s : List ℕ = drop r q in
    let w : List ℕ = without a xs in
    let t : List ℕ = drop (length s) w in
    let parts : s ++ t ≡ w = ap (λ (l : List ℕ). l ++ t) (sym (begins_take s w h)) ∙ take-append-drop (length s) w in
    let rest : without s (s ++ t) ≡ t = without_front s t (rw parts (distinct_without a xs d)) in
    cc (without_without s a xs, take-append-drop r q)

-- where the cells of t after the first r stand in sequence, the rest of each longer prefix of t leads
sequence_leads : (xs t : List ℕ) → Distinct xs → Distinct t → Same xs t → (p r : ℕ) → r ≤ p → p ≤ length t → Sublistᴰ (drop r t) xs
    → rest_leads (take p t) xs r ≡ true
sequence_leads xs t dx dt same p r h within k =
    let rest : drop r t ≡ drop r (take p t) ++ drop p t =
    ap (drop r) (sym (take-append-drop p t)) ∙ drop-append-le r (take p t) (drop p t) (omega (arith, length-take-le p t within)) in
    rw (take-take r p t h, rest_left xs t dx dt same r k, rest) (begins_append (drop r (take p t)) (drop p t))

-- ---- the pushes

module _ (xs : List ℕ) (d : Distinct xs) (q : List ℕ) (dq : Distinct q) (h : Among q xs) where
  -- the prefix with the other cells below it
  pub others_below : Rearranged xs (q ++ without q xs)
  others_below = rw (upward_split xs d q dq h) at (upward_rearranged xs d q h)

  count_rewrites : store_count q xs ≡ rewrite_count xs (q ++ without q xs)
  count_rewrites =
      let t : List ℕ = q ++ without q xs in
      let r : ℕ = store_count q xs in
      let k : ℕ = rewrite_count xs t in
      let high : k ≤ length q = rewrite_least xs t (length q) (rw (drop-append_seam q (without q xs)) (without_sublist q xs)) in
      let down : k ≤ r =
      rewrite_least xs t r
      (rw (drop-append-le r q (without q xs) (store_count_most q xs), ← leads_others q xs r d (store_count_leads q xs)) (without_sublist (take r q) xs)) in
      let up : r ≤ k =
      store_count_least q xs k
      (rw (take-append_seam q (without q xs)) at
      (sequence_leads xs t d others_below.distinct others_below.same (length q) k high (omega (arith, length-append q (without q xs))) (rewrite_sublist xs t))) in
      omega arith

  pushes_rewrite : store_pushes q xs ≡ rewrite_pushes xs (q ++ without q xs)
  unfolding store_pushes rewrite_pushes
  pushes_rewrite = rw (← count_rewrites, take-append-le (store_count q xs) q (without q xs) (store_count_most q xs))

  -- a shorter row of pushes would be a shorter rewrite to what it leaves
  count_fewest : (is : List ℕ) → Places (length xs) is → take (length q) (pushes is xs) ≡ q → store_count q xs ≤ length is
  count_fewest is places e =
      let t : List ℕ = pushes is xs in
      let k : Rearranged xs t = pushes_rearranged is xs d places in
      let r : ℕ = rewrite_count xs t in
      let within : length q ≤ length t = omega (arith, ap length e, length-take (length q) t) in
      let few : r ≤ length is = rewrite_fewest xs t d k.distinct k.same is places refl in
      by_le r (length q)
      (λ l. omega (
        arith,
        store_count_least q xs r (rw e at (sequence_leads xs t d k.distinct k.same (length q) r l within (rewrite_sublist xs t))),
      ))
      (λ l. omega (arith, store_count_most q xs))

-- ---- any prefix

pub storing : (n p : ℕ) (q xs : List ℕ) → IsPrefix n p q → IsPermutation n xs → Storing n p q xs
storing n p q xs prefix o =
    let d : Distinct xs = permutation_distinct o in
    let cells : Among q xs = prefix_among prefix o in
    let t : List ℕ = q ++ without q xs in
    let below : Rearranged xs t = others_below xs d q prefix.distinct cells in
    let pushed : store_pushes q xs ≡ rewrite_pushes xs t = pushes_rewrite xs d q prefix.distinct cells in
    let fewest : (is : List ℕ) → Places n is → take p (pushes is xs) ≡ q → store_count q xs ≤ length is =
    λ is places e. count_fewest xs d q prefix.distinct cells is (rw o.long places) (rw prefix.long e) in
    record {
      leads = store_count_leads q xs;
      smallest = store_count_least q xs;
      reaches = rw pushed (rewrite_reaches xs t d below.distinct below.same);
      counted = count_rewrites xs d q prefix.distinct cells ∙ sym (ap length pushed ∙ rewrite_many xs t);
      cells = λ c m. prefix.named c (pushed_member q xs c m);
      places = rw (pushed, ← o.long) (rewrite_places xs t d below.distinct below.same);
      fewest = fewest;
      standing = λ e. omega (arith, fewest [] tt e);
      rewrites = count_rewrites xs d q prefix.distinct cells;
    }

-- ---- a symbol's

pub symbol_storing : (n m s : ℕ) (xs : List ℕ) → m ≤ factorial n → s < m → IsPermutation n xs → SymbolStoring n m s xs
unfolding symbol_prefix symbol_of
symbol_storing n m s xs codes symbol o =
    let code : Coding n m = coding n m codes in
    let q : List ℕ = symbol_prefix n m s in
    let number : Numbering n (prefix_length n m) = numbering n (prefix_length n m) code.at_most in
    let fits : s < length (prefixes (prefix_length n m) (names n)) = omega (arith, code.enough, number.many) in
    let prefix : IsPrefix n (prefix_length n m) q = number.prefix s fits in
    record {
      prefix = prefix;
      one = λ e. omega (arith, store_count_most q xs, code.one e, prefix.long);
      read = ap (symbol_of n m) (storing n (prefix_length n m) q xs prefix o).reaches ∙ number.number_prefix s (without q xs) fits;
    }
