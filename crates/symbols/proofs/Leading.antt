-- The storing rule by the levels along a row: the cells from the p-th up that are above all that come after them need no push. Assumes nothing.
use mathlib.Core.Path.{◌≡◌, ap, sym, ◌∙◌}
use mathlib.Core.Bool.{true, false, false≢true}
use mathlib.Core.List.Sublistᴰ
use mathlib.Core.List.{List, [], ◌∷◌, ◌++◌, map, Sublistᴰ}
use Prim.Native.Nat.{ℕ, zero, suc, ◌+◌, ◌-◌, ◌≤◌, ◌<◌}
use native.Mathlib.Omega.{arith}
use lib.ListN.{length, get_or, take, drop, take-append-drop, length-append, length-drop, get_or-append}
use lib.Seq.{drop-cons, drop-append-le, length-take-le, get_or-drop, get_or-take, get_or-append-add, append_snoc, drop-drop}
use Rattle.theory.specs.Lists.{member, without}
use Rattle.theory.specs.Permutation.{IsPermutation}
use Rattle.theory.specs.Levels.{level, highest, tied, permutation_of, Falls}
use Rattle.theory.specs.Rewrite.{rewrite_count}
use Rattle.theory.specs.Store.{store_count}
use Rattle.theory.proofs.Cases.{by_test, by_name, by_le}
use Rattle.theory.proofs.Members.{Among, permutation_distinct, member_count, count_member, member_first, member_later, member_append, member_drop, member_without, distinct_apart}
use Rattle.theory.proofs.Names.{permutation_member}
use Rattle.theory.proofs.Sorting.{reads_permutation_of, permutation_of_permutation}
use Rattle.theory.proofs.Sublists.{sublist_member, without_sublist}
use Rattle.theory.proofs.Rewriting.{rewrite_sublist, rewrite_least}
use Rattle.theory.proofs.Prefixes.{permutation_prefix}
use Rattle.theory.proofs.Storing.{storing}
use Rattle.symbols.specs.AnyPrefix.{FallsFrom}
use Rattle.symbols.proofs.Along.{along_at, along_drop, along_highest, along_below}

-- ---- going up the first p

-- those from index r on are above all that come after them
pub record Rising (along : List ℕ) (p bound r : ℕ) : Type 0 where
  pub short : p < length along
  pub within : r ≤ p
  pub bound_is : bound ≡ highest (drop r along)
  pub above : (j : ℕ) → r ≤ j → j < p → highest (drop (suc j) along) < get_or along j 0

pub start : {along : List ℕ} {p bound : ℕ} → p < length along → bound ≡ highest (drop p along) → Rising along p bound p
start short e = record { short = short; within = omega arith; bound_is = e; above = λ j low high. absurd (omega arith) }

module _ {along : List ℕ} {p bound r : ℕ} (v : Rising along p bound r) where
  pub end : (0 < r → get_or along (r - 1) 0 ≤ bound) → FallsFrom along p r
  end h = record { short = v.short; within = v.within; above = v.above; smallest = λ pos. rw (← v.bound_is) (h pos) }

  pub step : 0 < r → bound < get_or along (r - 1) 0 → Rising along p (get_or along (r - 1) 0) (r - 1)
  step pos h =
      let next : suc (r - 1) ≡ r = omega arith in
      let parts : drop (r - 1) along ≡ get_or along (r - 1) 0 ∷ drop r along =
      rw next at (drop-cons along (r - 1) 0 (omega (arith, v.short, v.within))) in
      record {
        short = v.short;
        within = omega (arith, v.within);
        bound_is = omega (arith, ap highest parts, v.bound_is);
        above = λ j low high.
            by_name j (r - 1)
            (λ q e. rw (q, next, ← v.bound_is) h)
            (λ ne e. v.above j (omega (arith, ne)) high);
      }

-- the same, by the levels that are left to go up
pub record Going (along : List ℕ) (p bound : ℕ) (rest : List ℕ) : Type 0 where
  pub behind : List ℕ
  pub is : along ≡ rest ++ behind
  pub rising : Rising along p bound (length rest)

pub going : {along rest : List ℕ} {p bound : ℕ} → p < length along → rest ≡ take p along → bound ≡ highest (drop p along) → Going along p bound rest
going {along} {rest} {p} short is e =
    let long : length rest ≡ p = rw is (length-take-le p along (omega arith)) in
    record { behind = drop p along; is = rw is (sym (take-append-drop p along)); rising = rw long (start short e) }

module _ {along rest : List ℕ} {p bound : ℕ} (v : Going along p bound rest) (left : List ℕ) (x : ℕ) (next : rest ≡ left ++ x ∷ []) where
  left_long : length rest - 1 ≡ length left
  left_long = rw (next, length-append) (omega arith)

  some : 0 < length rest
  some = rw (next, length-append) (omega arith)

  parts : along ≡ left ++ x ∷ v.behind
  parts = v.is ∙ rw next (append_snoc left x v.behind)

  level_is : get_or along (length rest - 1) 0 ≡ x
  level_is =
      let here : length left + 0 ≡ length left = omega arith in
      rw (left_long, parts) (rw here at (get_or-append-add left (x ∷ v.behind) 0 0))

  -- it is not above all behind it
  pub going_end : x ≤ bound → FallsFrom along p (length left + 1)
  going_end h =
      let long : length rest ≡ length left + 1 = omega (arith, left_long, some) in
      rw long at (end v.rising (λ pos. rw level_is h))

  -- it is
  pub going_on : bound < x → Going along p x left
  going_on h = record {
    behind = x ∷ v.behind;
    is = parts;
    rising = rw (level_is, left_long) at (step v.rising some (rw level_is h));
  }

-- all are
pub gone : {along rest : List ℕ} {p bound : ℕ} → Going along p bound rest → length rest ≡ 0 → FallsFrom along p 0
gone v none = rw none at (end v.rising (λ pos. absurd (omega arith)))

-- ---- cells along which the levels fall

module _ (L : List ℕ) where
  -- they stand in that sequence in every such row that has them
  falls_sublist : (xs s : List ℕ) → Falls L xs → Falls L s → Among s xs → Sublistᴰ s xs
  falls_sublist xs [] f g h = Sublistᴰ.nil-sublist xs
  falls_sublist [] (c ∷ s) f g h = absurd (false≢true (h c (member_first c s)))
  falls_sublist (x ∷ xs) (c ∷ s) f g h =
      by_name c x
      (λ q e. Sublistᴰ.cons-cons q (falls_sublist xs s f.1 g.1 (λ d m. later d (h d (member_later d c s m)) (lower d m q))))
      (λ ne e.
      let here : member c xs ≡ true = rw e at (h c (member_first c s)) in
      Sublistᴰ.cons (falls_sublist xs (c ∷ s) f.1 g (λ d m. later d (h d m) (under d m (f.0 c (member_count c xs here))))))
    where
      later : (d : ℕ) → member d (x ∷ xs) ≡ true → level L d < level L x → member d xs ≡ true
      later d m l = by_name d x (λ q e. absurd (omega (arith, ap (level L) q))) (λ ne e. rw e at m)

      lower : (d : ℕ) → member d s ≡ true → c ≡ x → level L d < level L x
      lower d m q = omega (arith, g.0 d (member_count d s m), ap (level L) q)

      under : (d : ℕ) → member d (c ∷ s) ≡ true → level L c < level L x → level L d < level L x
      under d m l = by_name d c (λ q e. omega (arith, ap (level L) q)) (λ ne e. omega (arith, g.0 d (member_count d s (rw e at m))))

  -- and cells that stand in sequence in such a row are such cells
  sublist_falls : {s xs : List ℕ} → Sublistᴰ s xs → Falls L xs → Falls L s
  sublist_falls Sublistᴰ.slnil f = tt
  sublist_falls (Sublistᴰ.cons k) f = sublist_falls k f.1
  sublist_falls (Sublistᴰ.cons-cons {b = x} {l₁ = s} {l₂ = xs} q k) f =
      rw q (λ d h. f.0 d (member_count d xs (sublist_member d k (count_member d s h))), sublist_falls k f.1)

  -- a front whose cells are each above all that come after them
  front_falls : (s w : List ℕ) → Falls L w
      → ((j : ℕ) → j < length s → (d : ℕ) → member d (drop (suc j) (s ++ w)) ≡ true → level L d < level L (get_or s j 0)) → Falls L (s ++ w)
  front_falls [] w f h = f
  front_falls (c ∷ s) w f h = (
    λ d m. h 0 (omega arith) d (count_member d (s ++ w) m),
    front_falls s w f (λ j l. h (suc j) (omega arith)),
  )

  falls_drop : (k : ℕ) (xs : List ℕ) → Falls L xs → Falls L (drop k xs)
  falls_drop zero xs f = f
  falls_drop (suc k) [] f = tt
  falls_drop (suc k) (x ∷ xs) f = falls_drop k xs f.1

-- ---- a row that has the cells of L, each once, with its first p and others behind them

module _ (L ys : List ℕ) (p : ℕ) (o : IsPermutation (length L) ys) (short : p < length L) where
  abbrev xs : List ℕ
  xs = permutation_of L

  abbrev q : List ℕ
  q = take p ys

  -- the first p, and below them the other cells as they stand now
  abbrev led : List ℕ
  led = q ++ without q xs

  q_long : length q ≡ p
  q_long = length-take-le p ys (omega (arith, o.long))

  led_drop : (k : ℕ) → k ≤ p → drop k led ≡ drop k q ++ without q xs
  led_drop k h = drop-append-le k q (without q xs) (omega (arith, q_long))

  all_same : (d : ℕ) → member d xs ≡ member d ys
  all_same d = permutation_member (permutation_of_permutation L) d ∙ sym (permutation_member o d)

  -- after the first k the two rows have the same cells, if in another sequence
  after_same : (k : ℕ) → k ≤ p → (d : ℕ) → member d (drop k led) ≡ member d (drop k ys)
  after_same k h d =
      let whole : q ++ drop p ys ≡ ys = take-append-drop p ys in
      let rest : drop k ys ≡ drop k q ++ drop p ys = ap (drop k) (sym whole) ∙ drop-append-le k q (drop p ys) (omega (arith, q_long)) in
      let others : member d (without q xs) ≡ member d (drop p ys) =
      by_test (member d q)
      (λ e. cc (member_without d q xs, distinct_apart q (drop p ys) (rw whole (permutation_distinct o)) d e))
      (λ e. cc (member_without d q xs, all_same d, member_append d q (drop p ys))) in
      cc (led_drop k h, member_append d (drop k q) (without q xs), member_append d (drop k q) (drop p ys))

  module _ {r : ℕ} (untied : tied L ≡ false) (v : FallsFrom (map (level L) ys) p r) where
    now_falls : Falls L xs
    now_falls = (reads_permutation_of L untied).falls

    -- after the first r, each is above all that come after it
    rest_falls : Falls L (drop r led)
    rest_falls =
        rw (led_drop r v.within)
        (front_falls L (drop r q) (without q xs) (sublist_falls L (without_sublist q xs) now_falls)
        (λ j l d m.
        let i : ℕ = r + j in
        let inside : i < p = omega (arith, length-drop r q, q_long) in
        let next : r + suc j ≡ suc i = omega arith in
        let later : member d (drop (suc i) ys) ≡ true =
        sym (after_same (suc i) inside d) ∙ rw (← next, ← drop-drop (suc j) r led, led_drop r v.within) m in
        let here : level L (get_or (drop r q) j 0) ≡ get_or (map (level L) ys) i 0 =
        ap (level L) (get_or-drop r q j 0 ∙ get_or-take p ys i 0 inside) ∙ sym (along_at L ys i (omega (arith, o.long))) in
        omega (arith, here, along_highest L d (drop (suc i) ys) later, ap highest (along_drop L (suc i) ys), v.above i (omega arith) inside)))

    -- so r is what the rewrite to that row takes
    rewrite_is : r ≡ rewrite_count xs led
    rewrite_is =
        let k : ℕ = rewrite_count xs led in
        let low : k ≤ r =
        rewrite_least xs led r
        (falls_sublist L xs (drop r led) now_falls rest_falls
        (λ d m. all_same d ∙ member_drop d r ys (sym (after_same r v.within d) ∙ m))) in
        by_le r k
        (λ l. omega arith)
        (λ l.
        let c : ℕ = get_or ys (r - 1) 0 in
        let next : suc (r - 1) ≡ r = omega arith in
        let within : r - 1 < p = omega (arith, v.within) in
        let down : k + (r - 1 - k) ≡ r - 1 = omega arith in
        let first : drop (r - 1) led ≡ c ∷ drop r led =
        rw next at (drop-cons led (r - 1) 0 (omega (arith, length-append q (without q xs), q_long)))
        ∙ ap (λ (b : ℕ). b ∷ drop r led) (get_or-append q (without q xs) 0 (r - 1) (omega (arith, q_long)) ∙ get_or-take p ys (r - 1) 0 within) in
        let falls : Falls L (c ∷ drop r led) =
        rw (drop-drop (r - 1 - k) k led, down, first) at (falls_drop L (r - 1 - k) (drop k led) (sublist_falls L (rewrite_sublist xs led) now_falls)) in
        let above : (d : ℕ) → member d (drop r ys) ≡ true → level L d < level L c =
        λ d m. falls.0 d (member_count d (drop r led) (after_same r v.within d ∙ m)) in
        absurd (omega (
          arith,
          v.smallest (omega arith),
          along_at L ys (r - 1) (omega (arith, v.within, o.long)),
          ap highest (along_drop L r ys),
          along_below L (level L c) (drop r ys) (omega (arith, length-drop r ys, v.within, o.long)) above,
        )))

    pub count_is : r ≡ store_count q xs
    count_is =
        let rewrites = (storing (length L) p q xs (permutation_prefix p ys (omega arith) o) (permutation_of_permutation L)).rewrites in
        omega (arith, rewrite_is, rewrites)
