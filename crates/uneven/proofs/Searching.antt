-- The search for the best lengths, step by step, with the rows and sums that it gives. Assumes nothing.
use mathlib.Core.Path.{◌≡◌, refl, sym, ap, ◌∙◌}
use mathlib.Core.List.{List, [], ◌∷◌}
use Prim.Native.Nat.{ℕ, zero, suc, ◌+◌, ◌-◌, ◌*◌, ◌≤◌, ◌<◌}
use native.Mathlib.Omega.{arith}
use native.Mathlib.Nat.{mul-le-mul_left, mul-le-mul_right, le_of_suc-le-suc, add-mul}
use native.Mathlib.Numerals.{add-one}
use borrow.Author.Tests.{le-leb, lt-leb}
use lib.ListN.{length, take, drop, get_or, set, replicate, length-set, length-drop}
use lib.Seq.{drop-cons, get_or-set_same, drop-set-lt}
use Rattle.theory.specs.Factorial.{factorial}
use Rattle.theory.proofs.Cases.{by_le}
use Rattle.prefixcodes.specs.Construction.{dot, layer, plan}
use Rattle.uneven.specs.Codebook.{sum_of, PlanAsked, PlanGiven}
use Rattle.uneven.specs.declared.lengths.Plan.{Plan}
use Rattle.uneven.proofs.Totals.{factorial_small}

-- ---- one layer, by its tests
module _ (deeper : List ℕ → ℕ → List ℕ) (l u : ℕ) where
  layer_all : (ws : List ℕ) (b : ℕ) → length ws * u ≤ b → layer deeper l u ws b ≡ replicate (length ws) l
  layer_all [] b h = refl
  layer_all (w ∷ ws) b h = rw (le-leb (suc (length ws) * u) b h) refl

  module _ (w : ℕ) (ws : List ℕ) (b : ℕ) (some : b < suc (length ws) * u) where
    abbrev first : List ℕ
    first = l ∷ layer deeper l u ws (b - u)

    layer_none : b < length ws + u → layer deeper l u (w ∷ ws) b ≡ deeper (w ∷ ws) b
    layer_none h = rw (lt-leb (suc (length ws) * u) b some, lt-leb (length ws + u) b h) refl

    module _ (room : length ws + u ≤ b) where
      layer_first : dot (w ∷ ws) first ≤ dot (w ∷ ws) (deeper (w ∷ ws) b) → layer deeper l u (w ∷ ws) b ≡ first
      layer_first c = rw (lt-leb (suc (length ws) * u) b some, le-leb (length ws + u) b room, le-leb (dot (w ∷ ws) first) (dot (w ∷ ws) (deeper (w ∷ ws) b)) c) refl

      layer_deeper : dot (w ∷ ws) (deeper (w ∷ ws) b) < dot (w ∷ ws) first → layer deeper l u (w ∷ ws) b ≡ deeper (w ∷ ws) b
      layer_deeper c = rw (lt-leb (suc (length ws) * u) b some, le-leb (length ws + u) b room, lt-leb (dot (w ∷ ws) first) (dot (w ∷ ws) (deeper (w ∷ ws) b)) c) refl

plan_step : (n h : ℕ) (ws : List ℕ) (b : ℕ) → 1 ≤ h → plan n h ws b ≡ layer (plan n (h - 1)) (n - h) (factorial h) ws b
plan_step n zero ws b h = absurd (omega arith)
plan_step n (suc g) ws b h = let e : suc g - 1 ≡ g = omega arith in rw e refl

-- ---- the weights from index k on
module _ (n h b k : ℕ) (heavy : List ℕ) (some : 1 ≤ h) where
  left : length (drop k heavy) ≡ length heavy - k
  left = length-drop k heavy

  -- all get length n - h
  plan_all : (length heavy - k) * factorial h ≤ b → plan n h (drop k heavy) b ≡ replicate (length heavy - k) (n - h)
  plan_all room =
      plan_step n h (drop k heavy) b some
      ∙ layer_all (plan n (h - 1)) (n - h) (factorial h) (drop k heavy) b (rw left room)
      ∙ ap (λ (x : ℕ). replicate x (n - h)) left

  -- they do not all fit at this length
  module _ (less : b < (length heavy - k) * factorial h) where
    within : k < length heavy
    within =
        by_le (length heavy) k
        (λ l. let none : length heavy - k ≡ 0 = omega arith in absurd (omega (arith, rw none at less)))
        (λ l. l)

    cut : drop k heavy ≡ get_or heavy k 0 ∷ drop (k + 1) heavy
    cut = rw (add-one k) (drop-cons heavy k 0 within)

    count : suc (length (drop (k + 1) heavy)) ≡ length heavy - k
    count = omega (arith, length-drop (k + 1) heavy, within)

    some_over : b < suc (length (drop (k + 1) heavy)) * factorial h
    some_over = rw count less

    abbrev rest : List ℕ
    rest = drop (k + 1) heavy

    step : plan n h (drop k heavy) b ≡ layer (plan n (h - 1)) (n - h) (factorial h) (get_or heavy k 0 ∷ rest) b
    step = ap (λ (ws : List ℕ). plan n h ws b) cut ∙ plan_step n h (get_or heavy k 0 ∷ rest) b some

    back : plan n (h - 1) (get_or heavy k 0 ∷ rest) b ≡ plan n (h - 1) (drop k heavy) b
    back = ap (λ (ws : List ℕ). plan n (h - 1) ws b) (sym cut)

    plan_none : b < length heavy - k - 1 + factorial h → plan n h (drop k heavy) b ≡ plan n (h - 1) (drop k heavy) b
    plan_none l =
        step ∙ layer_none (plan n (h - 1)) (n - h) (factorial h) (get_or heavy k 0) rest b some_over (omega (arith, count)) ∙ back

    -- the first can have it
    module _ (room : length heavy - k - 1 + factorial h ≤ b) where
      abbrev first_plan : List ℕ
      first_plan = plan n h rest (b - factorial h)

      first_is : (n - h) ∷ layer (plan n (h - 1)) (n - h) (factorial h) rest (b - factorial h) ≡ (n - h) ∷ first_plan
      first_is = ap (λ (ls : List ℕ). (n - h) ∷ ls) (sym (plan_step n h rest (b - factorial h) some))

      abbrev first_cost : ℕ
      first_cost = dot rest first_plan + get_or heavy k 0 * (n - h)

      abbrev deep_cost : ℕ
      deep_cost = dot (drop k heavy) (plan n (h - 1) (drop k heavy) b)

      cost_first : dot (get_or heavy k 0 ∷ rest) ((n - h) ∷ layer (plan n (h - 1)) (n - h) (factorial h) rest (b - factorial h)) ≡ first_cost
      cost_first = ap (dot (get_or heavy k 0 ∷ rest)) first_is ∙ omega arith

      cost_deep : dot (get_or heavy k 0 ∷ rest) (plan n (h - 1) (get_or heavy k 0 ∷ rest) b) ≡ deep_cost
      cost_deep = ap (λ (ws : List ℕ). dot ws (plan n (h - 1) ws b)) (sym cut)

      plan_first : first_cost ≤ deep_cost → plan n h (drop k heavy) b ≡ (n - h) ∷ first_plan
      plan_first c =
          step
          ∙ layer_first (plan n (h - 1)) (n - h) (factorial h) (get_or heavy k 0) rest b some_over (omega (arith, count)) (omega (arith, cost_first, cost_deep))
          ∙ first_is

      plan_deeper : deep_cost < first_cost → plan n h (drop k heavy) b ≡ plan n (h - 1) (drop k heavy) b
      plan_deeper c =
          step
          ∙ layer_deeper (plan n (h - 1)) (n - h) (factorial h) (get_or heavy k 0) rest b some_over (omega (arith, count)) (omega (arith, cost_first, cost_deep))
          ∙ back

-- ---- rows and sums

drop_same : (k x l : ℕ) → drop k (replicate x l) ≡ replicate (x - k) l
drop_same zero x l = let e : x - 0 ≡ x = omega arith in rw e refl
drop_same (suc k) zero l = let e : zero - suc k ≡ 0 = omega arith in rw e refl
drop_same (suc k) (suc x) l = let e : suc x - suc k ≡ x - k = omega arith in rw e (drop_same k x l)

take_same : (k x l : ℕ) → k ≤ x → take k (replicate x l) ≡ replicate k l
take_same zero x l h = refl
take_same (suc k) zero l h = absurd (omega arith)
take_same (suc k) (suc x) l h = ap (λ (ls : List ℕ). l ∷ ls) (take_same k x l (le_of_suc-le-suc h))

dot_same : (ws : List ℕ) (l : ℕ) → dot ws (replicate (length ws) l) ≡ sum_of ws * l
dot_same [] l = omega arith
dot_same (w ∷ ws) l = omega (arith, dot_same ws l, add-mul w (sum_of ws) l)

-- a row with l at index k
row_first : (row : List ℕ) (k m l : ℕ) → k < m → k < length row → take (m - k) (drop k (set row k l)) ≡ l ∷ take (m - (k + 1)) (drop (k + 1) row)
row_first row k m l h i =
    let e : m - k ≡ suc (m - (k + 1)) = omega arith in
    let s : k < length (set row k l) = omega (arith, length-set row k l) in
    rw (e, drop-cons (set row k l) k 0 s, get_or-set_same row k l 0 i, drop-set-lt (suc k) row k l (omega arith), add-one k) refl

-- ---- a call of `plan_lengths`

module _ {n h : ℕ} {heavy tails : List ℕ} {k b : ℕ} (v : PlanAsked n h heavy tails k b) where
  -- the sum, where all get one length
  pub tail_small : get_or tails k 0 * (n - h) ≤ 16711425 * (length heavy - k)
  tail_small =
      let x : ℕ = length heavy - k in
      let low : get_or tails k 0 * (n - h) ≤ get_or tails k 0 * 255 = mul-le-mul_left (get_or tails k 0) (omega (arith, v.many)) in
      let high : get_or tails k 0 * 255 ≤ 65535 * x * 255 = mul-le-mul_right 255 (v.tails_are.small k v.within) in
      omega arith

-- u is what one prefix of length n - h takes
module _ {n h : ℕ} {heavy tails : List ℕ} {k b : ℕ} (v : PlanAsked n h heavy tails k b) {u : ℕ} (unit : u ≡ factorial h) where
  pub unit_small : u ≤ 40320
  unit_small = rw unit (factorial_small h (omega (arith, v.below, v.many)))

  pub product_small : (length heavy - k) * u ≤ 2580480
  product_small =
      let few : (length heavy - k) * u ≤ 64 * u = mul-le-mul_right u (omega (arith, v.few)) in
      omega (arith, unit_small)

  pub given_all : (length heavy - k) * u ≤ b → PlanGiven n h heavy k b (record { cost = get_or tails k 0 * (n - h); lengths = replicate 64 (n - h) })
  given_all room =
      let x : ℕ = length heavy - k in
      let all = plan_all n h b k heavy v.some (rw unit at room) in
      record {
        long = refl;
        lengths_are = ap (take x) (drop_same k 64 (n - h)) ∙ take_same x (64 - k) (n - h) (omega (arith, v.few)) ∙ sym all;
        cost_is =
            ap (λ (t : ℕ). t * (n - h)) (v.tails_are.is k v.within)
            ∙ sym (dot_same (drop k heavy) (n - h))
            ∙ ap (λ (y : ℕ). dot (drop k heavy) (replicate y (n - h))) (length-drop k heavy)
            ∙ ap (dot (drop k heavy)) (sym all);
        cost_fits = tail_small v;
      }

  -- they do not all fit at this length
  module _ (less : b < (length heavy - k) * u) where
    over : b < (length heavy - k) * factorial h
    over = rw unit at less

    pub inside : k < length heavy
    inside = within n h b k heavy v.some over

    pub given_none : {d : Plan} → b < length heavy - k - 1 + u → PlanGiven n (h - 1) heavy k b d → PlanGiven n h heavy k b d
    given_none l g =
        let e = plan_none n h b k heavy v.some over (rw unit at l) in
        record { long = g.long; lengths_are = rw e g.lengths_are; cost_is = rw e g.cost_is; cost_fits = g.cost_fits }

    -- the first can have it
    module _ (room : length heavy - k - 1 + u ≤ b) where
      -- in d all have longer ones, and in f those behind the first are planned
      module _ {d f : Plan} {x : ℕ} (deep : PlanGiven n (h - 1) heavy k b d) (next : PlanGiven n h heavy (k + 1) (b - u) f)
          (e : x ≡ get_or heavy k 0 * (n - h)) where
        space : length heavy - k - 1 + factorial h ≤ b
        space = rw unit at room

        after : PlanGiven n h heavy (k + 1) (b - factorial h) f
        after = rw unit at next

        pub given_first : x ≤ 16711425 → f.cost + x ≤ d.cost
            → PlanGiven n h heavy k b (record { cost = f.cost + x; lengths = set f.lengths k (n - h) })
        given_first small c =
            let is = plan_first n h b k heavy v.some over space (omega (arith, deep.cost_is, after.cost_is)) in
            record {
              long = length-set f.lengths k (n - h) ∙ after.long;
              lengths_are =
                  row_first f.lengths k (length heavy) (n - h) inside (omega (arith, inside, v.few, after.long))
                  ∙ ap (λ (ls : List ℕ). (n - h) ∷ ls) after.lengths_are
                  ∙ sym is;
              cost_is =
                  omega (arith, after.cost_is)
                  ∙ sym (ap (dot (drop k heavy)) is
                  ∙ ap (λ (ws : List ℕ). dot ws ((n - h) ∷ plan n h (drop (k + 1) heavy) (b - factorial h))) (cut n h b k heavy v.some over));
              cost_fits = omega (arith, after.cost_fits, inside);
            }

        pub given_deeper : d.cost < f.cost + x → PlanGiven n h heavy k b d
        given_deeper c =
            let is = plan_deeper n h b k heavy v.some over space (omega (arith, deep.cost_is, after.cost_is)) in
            record { long = deep.long; lengths_are = rw is deep.lengths_are; cost_is = rw is deep.cost_is; cost_fits = deep.cost_fits }
