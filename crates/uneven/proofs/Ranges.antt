-- The numbers of the jobs with weights, by the tests that the code makes. Assumes nothing.
use mathlib.Core.Path.{◌≡◌, sym}
use mathlib.Core.Bool.{true, cond, ◌&&◌, and-false, and-eq-true_iff}
use mathlib.Core.List.{List}
use Prim.Native.Nat.{ℕ, ◌≤◌, ◌<◌}
use native.Mathlib.Omega.{arith}
use borrow.Author.Tests.{eq-eqb, ne_eqb, le-leb, lt-leb, leb-true, lt-ltb, le-ltb, ltb-true}
use lib.Dec.{eqb, leb, ltb}
use lib.ListN.{length}
use Rattle.theory.specs.Reasons.{done, size, fit, value}
use Rattle.theory.specs.Factorial.{factorial}
use Rattle.theory.proofs.Cases.{by_name, by_le}
use Rattle.theory.proofs.Refusal.{or_else_refused, or_else_only, or_else_done, tested, test_only}
use Rattle.uneven.specs.Answers.{misfit, in_range, range_of, symbol_range}
use Rattle.uneven.specs.Codebook.{HasCode}

-- ---- size and fit

module _ (n entries m : ℕ) where
  pub too_few : n < 2 → size ≡ misfit n entries m
  unfolding misfit
  too_few h = rw (lt-leb 2 n h)

  pub too_many : 8 < n → size ≡ misfit n entries m
  unfolding misfit
  too_many h = rw (lt-leb n 8 h, and-false (leb 2 n))

  pub misfit_out : (2 ≤ n → n ≤ 8 → ⊥) → size ≡ misfit n entries m
  misfit_out h = by_le 2 n (λ few. by_le n 8 (λ many. absurd (h few many)) too_many) too_few

  module _ (few : 2 ≤ n) (many : n ≤ 8) where
    pub no_fit : (entries ≡ m → ⊥) → fit ≡ misfit n entries m
    unfolding misfit
    no_fit ne = rw (le-leb 2 n few, le-leb n 8 many, ne_eqb entries m ne)

    pub all_fit : entries ≡ m → done ≡ misfit n entries m
    unfolding misfit
    all_fit e = rw (le-leb 2 n few, le-leb n 8 many, eq-eqb entries m e)

-- what holds where it is neither
pub record Fitting (n : ℕ) (ws : List ℕ) (m : ℕ) : Type 0 where
  pub few : 2 ≤ n
  pub many : n ≤ 8
  pub entries : length ws ≡ m

pub fitting : {n m : ℕ} {ws : List ℕ} → misfit n (length ws) m ≡ done → Fitting n ws m
fitting {n} {m} {ws} h =
    by_le 2 n
    (λ few. by_le n 8
    (λ many. by_name (length ws) m
    (λ e t. record { few = few; many = many; entries = e })
    (λ ne t. absurd (omega (arith, no_fit n (length ws) m few many ne))))
    (λ l. absurd (omega (arith, too_many n (length ws) m l))))
    (λ l. absurd (omega (arith, too_few n (length ws) m l)))

pub fitting_done : {n m : ℕ} {ws : List ℕ} → Fitting n ws m → misfit n (length ws) m ≡ done
fitting_done {n} {m} {ws} v = sym (all_fit n (length ws) m v.few v.many v.entries)

-- it gives no other number
pub misfit_only : (n entries m : ℕ) {k : ℕ} → (k ≡ size → ⊥) → (k ≡ fit → ⊥) → misfit n entries m ≡ k → k ≡ 0
unfolding misfit
misfit_only n entries m a b h =
    or_else_only (cond (leb 2 n && leb n 8) done size) (cond (eqb entries m) done fit) (test_only (leb 2 n && leb n 8) a) (test_only (eqb entries m) b) h

-- ---- value

module _ (n m : ℕ) where
  pub range_low : m < 2 → value ≡ range_of n m
  unfolding in_range
  range_low h = rw (lt-leb 2 m h)

  module _ (low : 2 ≤ m) where
    pub range_high : 64 < m → value ≡ range_of n m
    unfolding in_range
    range_high h = rw (le-leb 2 m low, lt-leb m 64 h)

    module _ (high : m ≤ 64) where
      pub range_past : factorial n < m → value ≡ range_of n m
      unfolding in_range
      range_past h = rw (le-leb 2 m low, le-leb m 64 high, lt-leb m (factorial n) h)

      pub range_done : m ≤ factorial n → done ≡ range_of n m
      unfolding in_range
      range_done h = rw (le-leb 2 m low, le-leb m 64 high, le-leb m (factorial n) h)

  pub range_out : (2 ≤ m → m ≤ 64 → m ≤ factorial n → ⊥) → value ≡ range_of n m
  range_out h =
      by_le 2 m
      (λ low. by_le m 64 (λ high. by_le m (factorial n) (λ most. absurd (h low high most)) (λ l. range_past low high l)) (λ l. range_high low l))
      range_low

  range_bounds : in_range n m ≡ true → (m ≤ 64) × (m ≤ factorial n)
  unfolding in_range
  range_bounds h =
      let rest = (and-eq-true_iff (leb m 64) (leb m (factorial n))).0 ((and-eq-true_iff (leb 2 m) (leb m 64 && leb m (factorial n))).0 h).1 in
      (leb-true m 64 rest.0, leb-true m (factorial n) rest.1)

  module _ (s : ℕ) where
    pub no_range : {number : ℕ} → number ≡ range_of n m → (number ≡ 0 → ⊥) → number ≡ symbol_range n m s
    unfolding symbol_range
    no_range e ne = or_else_refused (range_of n m) _ e ne

    pub no_such_symbol : range_of n m ≡ done → m ≤ s → value ≡ symbol_range n m s
    unfolding symbol_range
    no_such_symbol e h = rw (e, le-ltb s m h)

    pub symbol_done : range_of n m ≡ done → s < m → symbol_range n m s ≡ done
    unfolding symbol_range
    symbol_done e h = rw (e, lt-ltb s m h)

    pub symbol_range_lem : symbol_range n m s ≡ done → (range_of n m ≡ done) × (s < m)
    unfolding symbol_range
    symbol_range_lem h =
        let past = or_else_done (range_of n m) (cond (ltb s m) done value) h in
        (past.0, ltb-true s m (tested (ltb s m) (λ z. omega arith) past.1))

-- nor do these
pub range_only : (n m : ℕ) {k : ℕ} → (k ≡ value → ⊥) → range_of n m ≡ k → k ≡ 0
range_only n m a h = test_only (in_range n m) a h

pub symbol_only : (n m s : ℕ) {k : ℕ} → (k ≡ value → ⊥) → symbol_range n m s ≡ k → k ≡ 0
unfolding symbol_range
symbol_only n m s a h = or_else_only (range_of n m) (cond (ltb s m) done value) (range_only n m a) (test_only (ltb s m) a) h

-- there is a code for the weights
pub has_code : {n m : ℕ} {ws : List ℕ} → Fitting n ws m → range_of n m ≡ done → HasCode n ws
has_code {n} {m} v h =
    let b = range_bounds n m (tested (in_range n m) (λ z. omega arith) h) in
    record { few = v.few; many = v.many; most = omega (arith, b.0, v.entries); fits = omega (arith, b.1, v.entries) }
