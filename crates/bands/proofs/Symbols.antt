-- The symbol of bands: what each way out answers, and that it is given exactly when its prefix leads in every choice. Assumes nothing.
use mathlib.Core.Path.{◌≡◌, refl, sym, ap, ◌∙◌}
use mathlib.Core.Bool.{Bool, true, false, false≢true}
use mathlib.Core.List.{List, ◌++◌}
use Prim.Native.Nat.{ℕ, ◌-◌, ◌/◌, ◌≤◌, ◌<◌}
use native.Mathlib.Omega.{arith}
use borrow.Author.Tests.{ltb-true, ltb-false}
use lib.Dec.{ltb}
use lib.ListN.{length, take, drop, take-append-drop}
use lib.Seq.{take-take}
use Rattle.theory.specs.Reasons.{idle, unsure}
use Rattle.theory.specs.Refusal.{or_else}
use Rattle.theory.specs.Factorial.{factorial}
use Rattle.theory.specs.Levels.{permutation_of}
use Rattle.theory.specs.Prefix.{prefix_at, prefix_number, prefix_length, symbol_prefix, symbol_of}
use Rattle.theory.specs.Claims.{Numbering, Coding}
use Rattle.theory.proofs.Cases.{by_test}
use Rattle.theory.proofs.Prefixes.{numbering, coding, prefix_length_short}
use Rattle.theory.proofs.Refusal.{refused, or_else_done, or_else_refused, or_else_past, tested, test_failed, test_only}
use Rattle.theory.proofs.Sorting.{permutation_of_permutation}
use Rattle.symbols.specs.Answers.{coded, code_of, idle_of}
use Rattle.symbols.specs.ByCode.{code_read}
use Rattle.symbols.specs.declared.answers.Symbol.{Symbol}
use Rattle.symbols.proofs.Codes.{code_done, code_range}
use Rattle.symbols.proofs.Symbols.{symbol_with, code_read_idle, code_read_done}
use Rattle.bands.specs.LeadTest.{sure_test}
use Rattle.bands.specs.Answers.{bands_number, unsure_of, Banded, BandedCode, sure_symbol_number, sure_symbol_answer, LedSurely, SymbolExactly}
use Rattle.bands.proofs.Judging.{banded, banded_done, bands_only}
use Rattle.bands.proofs.Sure.{above_lead, lead_same, lead_above, tested_above, above_tested}

-- ---- what each way out answers
module _ (low high : List ℕ) (m : ℕ) where
  pub sure_symbol_refused : {number : ℕ} → number ≡ sure_symbol_number low high m → (number ≡ 0 → ⊥) → symbol_with number 0 ≡ sure_symbol_answer low high m
  unfolding sure_symbol_answer
  sure_symbol_refused e ne = refused symbol_with (symbol_of (length low) m (permutation_of low)) 0 e ne

  pub sure_symbol_fault : {number : ℕ} → number ≡ bands_number low high → (number ≡ 0 → ⊥) → number ≡ sure_symbol_number low high m
  unfolding sure_symbol_number
  sure_symbol_fault e ne = or_else_refused (bands_number low high) _ e ne

  pub sure_symbol_code : {number : ℕ} → Banded low high → number ≡ code_of (length low) m → (number ≡ 0 → ⊥) → number ≡ sure_symbol_number low high m
  unfolding sure_symbol_number
  sure_symbol_code b e ne = rw (banded_done b) (or_else_refused (code_of (length low) m) _ e ne)

module _ {low high : List ℕ} {m : ℕ} (k : BandedCode low high m) where
  abbrev n : ℕ
  n = length low

  abbrev xs : List ℕ
  xs = permutation_of low

  abbrev p : ℕ
  p = prefix_length n m

  pub codes : Coding n m
  codes = coding n m k.most

  pub short : p < n
  short = prefix_length_short n m (omega (arith, k.banded.few)) k.most

  code : code_of n m ≡ 0
  code = code_done n m k.one k.most

  pub sure_symbol_unsure : sure_test low high p ≡ false → unsure ≡ sure_symbol_number low high m
  unfolding sure_symbol_number
  sure_symbol_unsure e = rw (banded_done k.banded, code, e)

  pub sure_symbol_given : sure_test low high p ≡ true → code_read n m xs ≡ sure_symbol_answer low high m
  unfolding code_read sure_symbol_answer sure_symbol_number
  sure_symbol_given e = rw (banded_done k.banded, code, e)

  -- ---- the test tells whether cells lead in every choice
  pub sure_led : sure_test low high p ≡ true → LedSurely low high m (take p xs)
  sure_led e = above_lead k.banded.bands p (omega (arith, short)) (tested_above k.banded.bands p short e)

  module _ {q : List ℕ} (l : LedSurely low high m q) where
    led_sure : sure_test low high p ≡ true
    led_sure = above_tested k.banded.bands p short (lead_above k.banded.bands p (omega (arith, short)) l)

    led_same : take p xs ≡ q
    led_same = lead_same k.banded.bands p (omega (arith, short)) l

  -- ---- the number of a prefix goes by its cells alone
  numbers : Numbering n p
  numbers = numbering n p (omega (arith, short))

  pub number_of : (ys : List ℕ) (s : ℕ) → s < factorial n / factorial (n - p) → take p ys ≡ symbol_prefix n m s → prefix_number n p ys ≡ s
  unfolding symbol_prefix
  number_of ys s l e =
      let whole : prefix_at n p s ++ drop p ys ≡ ys = rw (← e) (take-append-drop p ys) in
      rw whole at (numbers.number_prefix s (drop p ys) (omega (arith, numbers.many)))

  -- that of the sorted cells' prefix is the symbol
  pub number_led : (ys : List ℕ) → take p ys ≡ take p xs → prefix_number n p ys ≡ symbol_of n m xs
  number_led ys e = let r = codes.reads xs (permutation_of_permutation low) in number_of ys (symbol_of n m xs) r.0 (e ∙ sym r.1)

  led_symbol : {s : ℕ} → LedSurely low high m (symbol_prefix n m s) → s < factorial n / factorial (n - p) → symbol_of n m xs ≡ s
  unfolding symbol_of
  led_symbol {s} l h = number_of xs s h (led_same l)

-- ---- what the number tells
module _ (low high : List ℕ) (m : ℕ) where
  abbrev test : Bool
  test = sure_test low high (prefix_length (length low) m)

  abbrev later : ℕ
  later = or_else (unsure_of low high (prefix_length (length low) m)) (idle_of (length low) m (permutation_of low))

  -- done, unsure or idle: the tests that come before held
  taken : {k : ℕ} → (k ≡ 1 → ⊥) → (k ≡ 2 → ⊥) → (k ≡ 5 → ⊥) → sure_symbol_number low high m ≡ k → BandedCode low high m × (later ≡ k)
  unfolding sure_symbol_number
  taken size fit value z =
      let a = or_else_past (bands_number low high) (or_else (code_of (length low) m) later) (bands_only low high size fit value) z in
      let b = or_else_past (code_of (length low) m) later (test_only (coded (length low) m) value) a.1 in
      let r = code_range (length low) m b.0 in
      (record { banded = banded low high a.0; one = r.0; most = r.1 }, b.1)

  done_symbol : sure_symbol_number low high m ≡ 0 → BandedCode low high m × (test ≡ true) × (symbol_of (length low) m (permutation_of low) < m)
  done_symbol z =
      let t = taken (λ e. omega arith) (λ e. omega arith) (λ e. omega arith) z in
      let l = or_else_done (unsure_of low high (prefix_length (length low) m)) (idle_of (length low) m (permutation_of low)) t.1 in
      (t.0, tested _ (λ e. omega arith) l.0, ltb-true _ m (tested _ (λ e. omega arith) l.1))

  idle_symbol : sure_symbol_number low high m ≡ 7 → BandedCode low high m × (test ≡ true) × (m ≤ symbol_of (length low) m (permutation_of low))
  idle_symbol z =
      let t = taken (λ e. omega arith) (λ e. omega arith) (λ e. omega arith) z in
      let l = or_else_past (unsure_of low high (prefix_length (length low) m)) (idle_of (length low) m (permutation_of low)) (test_only test {why = 10} {k = 7} (λ e. omega arith)) t.1 in
      (t.0, tested _ (λ e. omega arith) l.0, ltb-false _ m (test_failed _ 7 (λ e. omega arith) l.1))

  pub unsure_symbol : sure_symbol_number low high m ≡ 10 → BandedCode low high m × (test ≡ false)
  unsure_symbol z =
      let t = taken (λ e. omega arith) (λ e. omega arith) (λ e. omega arith) z in
      by_test test
      (λ e. absurd (omega (arith, test_only (ltb (symbol_of (length low) m (permutation_of low)) m) {why = idle} {k = 10} (λ q. omega arith) (rw e at t.1))))
      (λ e. (t.0, e))

pub symbol_exactly : (low high : List ℕ) (m : ℕ) {r : Symbol} → r ≡ sure_symbol_answer low high m → SymbolExactly low high m r
unfolding sure_symbol_answer
symbol_exactly low high m {r} e =
    let number : r.number ≡ sure_symbol_number low high m = ap (λ (a : Symbol). a.number) e in
    let xs : List ℕ = permutation_of low in
    let p : ℕ = prefix_length (length low) m in
    record {
      given_led = λ z.
          let t = done_symbol low high m (sym number ∙ z) in
          let s : r.symbol ≡ symbol_of (length low) m xs = rw (e, sym number ∙ z) in
          (t.0, omega (arith, t.2, s), rw (s, ((codes t.0).reads xs (permutation_of_permutation low)).1) (sure_led t.0 t.1));
      led_given = λ k s less l.
          let is : symbol_of (length low) m xs ≡ s = led_symbol k l (omega (arith, (codes k).enough)) in
          e ∙ sym (sure_symbol_given k (led_sure k l)) ∙ sym (code_read_done (length low) m xs (sym is) less);
      idle_led = λ z.
          let t = idle_symbol low high m (sym number ∙ z) in
          (t.0, record { prefix = take p xs; led = sure_led t.0 t.1; idle = omega (arith, t.2, number_led t.0 (take p xs) (take-take p p xs (omega arith))) });
      led_idle = λ k i.
          let same : take p i.prefix ≡ take p xs = ap (take p) (sym (led_same k i.led)) ∙ take-take p p xs (omega arith) in
          e ∙ sym (sure_symbol_given k (led_sure k i.led)) ∙ sym (code_read_idle (length low) m xs refl (omega (arith, i.idle, number_led k i.prefix same)));
      unsure_none = λ z.
          let t = unsure_symbol low high m (sym number ∙ z) in
          (t.0, λ q l. false≢true (sym t.1 ∙ led_sure t.0 l));
      none_unsure = λ k none.
          by_test (sure_test low high p)
          (λ t. absurd (none (take p xs) (sure_led k t)))
          (λ t. e ∙ sym (sure_symbol_refused low high m (sure_symbol_unsure k t) (λ z. omega arith)));
    }
