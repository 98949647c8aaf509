-- Lengths from short to long, assigned in turn: each prefix's block of permutations starts where the one before it ends. Assumes nothing.
use Prim.Native.Nat.{ℕ, zero, suc, ◌+◌, ◌-◌, ◌*◌, ◌/◌, ◌≤◌, ◌<◌}
use mathlib.Core.Path.{◌≡◌, refl, sym, ap, ◌∙◌}
use mathlib.Core.Bool.{true, false}
use mathlib.Core.Logic.{⊎_elim}
use mathlib.Core.List.{List, [], ◌∷◌}
use native.Mathlib.Omega.{arith}
use native.Mathlib.Nat.{le_of_suc-le-suc, mul-le-mul_right, mul_assoc, div-eq_of_eq-mul_left}
use lib.ListN.{length, get_or}
use Rattle.theory.specs.Lists.{begins, names}
use Rattle.theory.specs.Factorial.{factorial, falling}
use Rattle.theory.specs.Prefix.{prefixes}
use Rattle.theory.proofs.Cases.{by_test, by_le}
use Rattle.theory.proofs.Factorials.{factorial_pos, falling_factorial}
use Rattle.theory.proofs.Members.{Distinct}
use Rattle.theory.proofs.Names.{names_length}
use Rattle.theory.proofs.Numbering.{prefix_of, Over, prefixes_length, prefixes_at, prefix_of_over, prefix_of_length, number_of_prefix_of}
use Rattle.theory.proofs.Prefixes.{names_distinct}
use Rattle.prefixcodes.specs.Construction.{started, first_free, assign}
use Rattle.prefixcodes.specs.Leaves.{leaves}
use Rattle.prefixcodes.proofs.Better.{ShortToLong}
use Rattle.prefixcodes.proofs.LedBlock.{first_led, many_led, led_nested, led_apart, first_number_lem, begins_back}

-- the prefixes of lengths ls, by running totals from t on
abbrev pub placed : ℕ → ℕ → List ℕ → List (List ℕ)
placed n t [] = []
placed n t (l ∷ ls) = prefix_of l (names n) (t / factorial (n - l)) ∷ placed n (t + factorial (n - l)) ls

-- a prefix of length l, whose block starts at t
pub record Block (n t l : ℕ) (p : List ℕ) : Type 0 where
  pub prefix : Over (names n) p
  pub size : length p ≡ l
  pub at : first_led (names n) p ≡ t

-- the prefixes taken lead the first t permutations: they start just the prefixes, of length `low` or more, whose blocks lie there
record Covered (n low t : ℕ) (taken : List (List ℕ)) : Type 0 where
  before : (q : List ℕ) → Over (names n) q → low ≤ length q → first_led (names n) q < t → started taken q ≡ true
  after : (q : List ℕ) → Over (names n) q → low ≤ length q → t ≤ first_led (names n) q → started taken q ≡ false
  whole : (s : ℕ) × (t ≡ s * factorial (n - low))

first_free_at : (taken ps : List (List ℕ)) (j : ℕ) → j < length ps → ((i : ℕ) → i < j → started taken (get_or ps i []) ≡ true)
    → started taken (get_or ps j []) ≡ false → first_free taken ps ≡ get_or ps j []
first_free_at taken [] j l h e = absurd (omega arith)
first_free_at taken (p ∷ ps) zero l h e = rw e refl
first_free_at taken (p ∷ ps) (suc j) l h e = rw (h 0 (omega arith)) (first_free_at taken ps j (le_of_suc-le-suc l) (λ i k. h (suc i) (omega arith)) e)

module _ (n : ℕ) where
  cells : Distinct (names n)
  cells = names_distinct n

  -- the block of prefix number s of length l
  pub block_at : (l s : ℕ) → s < falling n l → Block n (s * factorial (n - l)) l (prefix_of l (names n) s)
  block_at l s h =
      let fits : s < falling (length (names n)) l = rw (names_length 1 n) h in
      let pr : Over (names n) (prefix_of l (names n) s) = prefix_of_over l (names n) s cells fits in
      record {
        prefix = pr;
        size = prefix_of_length l (names n) s;
        at = cc (first_number_lem (names n) (prefix_of l (names n) s) cells pr, number_of_prefix_of l (names n) s cells fits, prefix_of_length l (names n) s, names_length 1 n);
      }

  module _ (low t : ℕ) (taken : List (List ℕ)) (f : Covered n low t taken) (l : ℕ) (up : low ≤ l) (among : l ≤ n) (room : t + factorial (n - l) ≤ factorial n) where
    -- t is a number of blocks of this size too
    number : (s : ℕ) × (t ≡ s * factorial (n - l)) × (s < falling n l)
    number =
        let r : ℕ = f.whole.0 in
        let u : ℕ = factorial (n - l) in
        let s : ℕ = r * falling (n - low) (l - low) in
        let q : n - low - (l - low) ≡ n - l = omega arith in
        let e : t ≡ s * u = f.whole.1 ∙ ap (λ (x : ℕ). r * x) (sym (rw q at (falling_factorial (n - low) (l - low) (omega arith)))) ∙ sym (mul_assoc r (falling (n - low) (l - low)) u) in
        (s, e, by_le (falling n l) s (λ h. absurd (omega (arith, mul-le-mul_right u h, falling_factorial n l among, factorial_pos (n - l)))) (λ h. h))

    abbrev p : List ℕ
    p = prefix_of l (names n) (t / factorial (n - l))

    p_number : t / factorial (n - l) ≡ number.0
    p_number = div-eq_of_eq-mul_left (factorial_pos (n - l)) number.1

    p_block : Block n t l p
    p_block = rw p_number (rw (← number.1) at (block_at l number.0 number.2))

    spans : (q : List ℕ) → many_led (names n) q ≡ factorial (n - length q)
    spans q = rw (names_length 1 n) refl

    span_p : many_led (names n) p ≡ factorial (n - l)
    span_p = spans p ∙ ap (λ (x : ℕ). factorial (n - x)) p_block.size

    -- the first prefix of length l that none of those taken starts
    first_is : first_free taken (prefixes l (names n)) ≡ p
    first_is =
        let s : ℕ = number.0 in
        let many : length (prefixes l (names n)) ≡ falling n l = prefixes_length l (names n) cells ∙ ap (λ (x : ℕ). falling x l) (names_length 1 n) in
        let entry : (i : ℕ) → i < falling n l → get_or (prefixes l (names n)) i [] ≡ prefix_of l (names n) i =
        λ i h. prefixes_at l (names n) i cells (rw (names_length 1 n) h) in
        let mine : get_or (prefixes l (names n)) s [] ≡ p = rw p_number (entry s number.2) in
        first_free_at taken (prefixes l (names n)) s (omega (arith, number.2))
        (λ i h.
        let b : Block n (i * factorial (n - l)) l (prefix_of l (names n) i) = block_at l i (omega (arith, number.2)) in
        rw (entry i (omega (arith, number.2)))
        (f.before (prefix_of l (names n) i) b.prefix (omega (arith, b.size))
        (omega (arith, b.at, mul-le-mul_right (factorial (n - l)) h, number.1, factorial_pos (n - l)))))
        (rw mine (f.after p p_block.prefix (omega (arith, p_block.size)) (omega (arith, p_block.at))))
        ∙ mine

    -- and with it the prefixes taken lead the first t + (n - l)! permutations
    next_filled : Covered n l (t + factorial (n - l)) (p ∷ taken)
    next_filled =
        let s : ℕ = number.0 in
        record {
          before = λ q h long less.
              by_le t (first_led (names n) q)
              (λ k.
              let mine : begins p q ≡ true =
              by_test (begins p q) (λ e. e) (λ e.
              by_test (begins q p)
              (λ r. begins_back q p r (omega (arith, p_block.size)))
              (λ r. absurd (⊎_elim
              (λ a. omega (arith, a, span_p, p_block.at))
              (λ a. omega (arith, a, p_block.at, factorial_pos (length (names n) - length q)))
              (led_apart (names n) p q cells p_block.prefix h e r)))) in
              rw mine refl)
              (λ k.
              let old : started taken q ≡ true = f.before q h (omega arith) k in
              by_test (begins p q) (λ e. rw e refl) (λ e. rw e old));
          after = λ q h long more.
              let new : begins p q ≡ false =
              by_test (begins p q)
              (λ e. absurd (omega (arith, (led_nested (names n) p q cells p_block.prefix h e).1, span_p, p_block.at, factorial_pos (length (names n) - length q))))
              (λ e. e) in
              rw new (f.after q h (omega arith) (omega arith));
          whole = (suc s, omega (arith, number.1));
        }

  -- Blocks one behind another, from t on
  abbrev pub Blocks : ℕ → List ℕ → List (List ℕ) → Type 0
  Blocks t [] [] = Unit {0}
  Blocks t [] (p ∷ ps) = ⊥
  Blocks t (l ∷ ls) [] = ⊥
  Blocks t (l ∷ ls) (p ∷ ps) = Block n t l p × Blocks (t + factorial (n - l)) ls ps

  assign_from : (low t : ℕ) (taken : List (List ℕ)) → Covered n low t taken → (ls : List ℕ) → ShortToLong n low ls → t + leaves n ls ≤ factorial n
      → (assign n taken ls ≡ placed n t ls) × Blocks t ls (placed n t ls)
  assign_from low t taken f [] r h = (refl, tt)
  assign_from low t taken f (l ∷ ls) r h =
      let among : l ≤ n = omega (arith, r.1) in
      let room : t + factorial (n - l) ≤ factorial n = omega arith in
      let here : first_free taken (prefixes l (names n)) ≡ prefix_of l (names n) (t / factorial (n - l)) = first_is low t taken f l r.0 among room in
      let rest = assign_from l (t + factorial (n - l)) (prefix_of l (names n) (t / factorial (n - l)) ∷ taken) (next_filled low t taken f l r.0 among room) ls r.2 (omega arith) in
      (rw here (ap (λ (ps : List (List ℕ)). prefix_of l (names n) (t / factorial (n - l)) ∷ ps) rest.0), (p_block low t taken f l r.0 among room, rest.1))

  -- Lengths that rise, and lead no more than all permutations, are assigned prefixes by running totals
  pub assign_placed : (ls : List ℕ) → ShortToLong n 1 ls → leaves n ls ≤ factorial n → (assign n [] ls ≡ placed n 0 ls) × Blocks 0 ls (placed n 0 ls)
  assign_placed ls r h =
      assign_from 1 0 []
      (record { before = λ q k long less. absurd (omega arith); after = λ q k long more. refl; whole = (0, omega arith) })
      ls r (omega arith)
