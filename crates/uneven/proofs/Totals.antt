-- Running totals of the permutations that prefixes lead. Assumes nothing.
use mathlib.Core.Path.{◌≡◌, refl}
use mathlib.Core.List.{List, [], ◌∷◌, ◌++◌}
use Prim.Native.Nat.{ℕ, ◌+◌, ◌-◌, ◌*◌, ◌≤◌, ◌<◌}
use native.Mathlib.Omega.{arith}
use native.Mathlib.Numerals.{add-one}
use lib.ListN.{length, take, get_or}
use lib.Seq.{length-take-le, take-suc, take-take}
use Rattle.theory.specs.Factorial.{factorial}
use Rattle.theory.proofs.Factorials.{factorial_grows}
use Rattle.prefixcodes.specs.Leaves.{leaves}
use Rattle.uneven.specs.Codebook.{IndexLed}

pub factorial_small : (h : ℕ) → h ≤ 8 → factorial h ≤ 40320
factorial_small h l = factorial_grows h 8 l

leaves_snoc : (n : ℕ) (ls : List ℕ) (l : ℕ) → leaves n (ls ++ l ∷ []) ≡ leaves n ls + factorial (n - l)
leaves_snoc n [] l = omega arith
leaves_snoc n (k ∷ ls) l = omega (arith, leaves_snoc n ls l)

-- one more length
pub leaves_step : (n : ℕ) (ls : List ℕ) (i : ℕ) → i < length ls → leaves n (take (i + 1) ls) ≡ leaves n (take i ls) + factorial (n - get_or ls i 0)
leaves_step n ls i h = rw (add-one i, take-suc ls i 0 h) (leaves_snoc n (take i ls) (get_or ls i 0))

-- the first i lengths are counted
pub record Led (n : ℕ) (lengths : List ℕ) (k led i : ℕ) : Type 0 where
  pub within : i ≤ k
  pub small : led ≤ 40320 * i
  pub is : led ≡ leaves n (take i lengths)

pub led_none : (n k : ℕ) (lengths : List ℕ) → Led n lengths k 0 0
led_none n k lengths = record { within = omega arith; small = omega arith; is = refl }

-- u more
module _ (n : ℕ) (lengths : List ℕ) {k led i : ℕ} (v : Led n lengths k led i) (many : n ≤ 8) {u : ℕ} (e : u ≡ factorial (n - get_or lengths i 0)) where
  pub unit_small : u ≤ 40320
  unit_small = rw e (factorial_small (n - get_or lengths i 0) (omega arith))

  pub led_more : i < k → k ≤ length lengths → Led n lengths k (led + u) (i + 1)
  led_more h fits = record {
    within = omega arith;
    small = omega (arith, v.small, unit_small);
    is = omega (arith, v.is, leaves_step n lengths i (omega arith));
  }

pub led_all : (n : ℕ) (lengths : List ℕ) {k led i : ℕ} → Led n lengths k led i → k ≤ i → led ≡ leaves n (take k lengths)
led_all n lengths {k} {led} {i} v h = let all : i ≡ k = omega (arith, v.within) in rw all at v.is

-- ---- the index that has a number

module _ (n : ℕ) (lengths : List ℕ) {m : ℕ} (fits : m ≤ length lengths) where
  long : length (take m lengths) ≡ m
  long = length-take-le m lengths fits

  pub index_here : {number led k next : ℕ} → Led n lengths m led k → led ≤ number → Led n lengths m next (k + 1) → number < next → IndexLed n (take m lengths) number k
  index_here {k = k} v low w high =
      record {
        within = omega (arith, v.within, long);
        from = rw (take-take k m lengths v.within) (omega (arith, v.is));
        before = λ h. rw (← add-one k, take-take (k + 1) m lengths w.within) (omega (arith, w.is));
      }

  pub index_none : {number led k : ℕ} → Led n lengths m led k → led ≤ number → m ≤ k → IndexLed n (take m lengths) number k
  index_none {k = k} v low all =
      record {
        within = omega (arith, v.within, long);
        from = rw (take-take k m lengths v.within) (omega (arith, v.is));
        before = λ h. absurd (omega (arith, long));
      }
