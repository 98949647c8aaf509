-- Case splits on tests of numbers, with what each case shows. Assumes nothing.
use mathlib.Core.Path.{◌≡◌, refl, sym, ◌∙◌}
use mathlib.Core.Bool.{Bool, true, false}
use Prim.Native.Nat.{ℕ, ◌≤◌, ◌<◌}
use native.Mathlib.Omega.{arith}
use lib.Dec.{eqb, leb}
use borrow.Author.Tests.{eqb-true, eqb-false, eq-eqb, ne_eqb, leb-true, leb-false}

pub by_test : {P : Type 0} (b : Bool) → (b ≡ true → P) → (b ≡ false → P) → P
by_test true f g = f refl
by_test false f g = g refl

-- are two names the same?
pub by_name : {P : Type 0} (a b : ℕ) → (a ≡ b → eqb a b ≡ true → P) → ((a ≡ b → ⊥) → eqb a b ≡ false → P) → P
by_name a b f g = by_test (eqb a b) (λ e. f (eqb-true a b e) e) (λ e. g (eqb-false a b e) e)

pub by_le : {P : Type 0} (a b : ℕ) → (a ≤ b → P) → (b < a → P) → P
by_le a b f g = by_test (leb a b) (λ e. f (leb-true a b e)) (λ e. g (leb-false a b e))

pub by_order : {P : Type 0} (a b : ℕ) → (a < b → P) → (b < a → P) → (a ≡ b → P) → P
by_order a b f g h = by_le b a (λ l. by_le a b (λ k. h (omega arith)) g) f

pub eqb_sym : (a b : ℕ) → eqb a b ≡ eqb b a
eqb_sym a b = by_name a b (λ q e. e ∙ sym (eq-eqb b a (sym q))) (λ q e. e ∙ sym (ne_eqb b a (λ r. q (sym r))))
