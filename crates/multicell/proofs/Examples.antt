-- Document 000's examples, by computing. Assumes nothing.
use mathlib.Core.Path.{◌≡◌, refl}
use mathlib.Core.Bool.{Bool, true, ◌&&◌, ◌||◌, and-eq-true_iff}
use mathlib.Core.List.{List}
use Prim.Native.Nat.{ℕ, zero, suc, ◌<◌}
use native.Mathlib.Omega.{arith}
use borrow.Author.Tests.{leb-true, ltb-true, lt-leb}
use lib.Dec.{leb, ltb}
use lib.ListN.{length, get_or}
use Rattle.theory.proofs.Cases.{by_name}
use Rattle.multicell.specs.Arrangement.{IsRaise}
use Rattle.multicell.specs.Cost.{cost_of}
use Rattle.multicell.specs.Claims.{RaiseExamples}

-- a test of every number below n
abbrev below : (ℕ → Bool) → ℕ → Bool
below f zero = true
below f (suc n) = f n && below f n

below_each : (f : ℕ → Bool) (n : ℕ) → below f n ≡ true → (i : ℕ) → i < n → f i ≡ true
below_each f zero h i l = absurd (omega arith)
below_each f (suc n) h i l =
    let both = (and-eq-true_iff (f n) (below f n)).0 h in
    by_name i n (λ e _. rw e both.0) (λ ne _. below_each f n both.1 i (omega arith))

-- a raise, by a test of each cell and of each two
tested_raise :
    (old new raised : List ℕ) → length raised ≡ length old → below (λ i. leb (get_or old i 0) (get_or raised i 0)) (length old) ≡ true
    → below (λ i. below (λ j. leb (get_or new j 0) (get_or new i 0) || ltb (get_or raised i 0) (get_or raised j 0)) (length old)) (length old) ≡ true
    → IsRaise old new raised
tested_raise old new raised long one two = record {
  long = long;
  rise = λ i l. leb-true (get_or old i 0) (get_or raised i 0) (below_each (λ i. leb (get_or old i 0) (get_or raised i 0)) (length old) one i l);
  apart = λ i j k l less.
      let row = below_each _ (length old) two i k in
      let test = below_each (λ j. leb (get_or new j 0) (get_or new i 0) || ltb (get_or raised i 0) (get_or raised j 0)) (length old) row j l in
      ltb-true (get_or raised i 0) (get_or raised j 0) (rw (lt-leb (get_or new j 0) (get_or new i 0) less) at test);
}

pub examples : RaiseExamples
unfolding cost_of
examples = record {
  example_2 = refl;
  example_2_differences = refl;
  example_2_raised = refl;
  example_2_uneven = tested_raise _ _ _ refl refl refl;
  example_10 = refl;
}
