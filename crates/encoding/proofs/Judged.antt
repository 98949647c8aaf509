-- Numbers of held parts by their tests, and the first of several. Assumes nothing.
use mathlib.Core.Path.{◌≡◌, refl}
use mathlib.Core.Bool.{Bool, true, false, cond}
use mathlib.Core.List.{List, [], ◌∷◌}
use Prim.Native.Nat.{ℕ}
use Rattle.theory.specs.Lists.{Every}
use Rattle.theory.proofs.Refusal.{or_else_done}
use Rattle.encoding.specs.Faults.{first}

-- a test that is not refused, and what is judged after it
pub passed : (b : Bool) {number why : ℕ} → (why ≡ 0 → ⊥) → cond b number why ≡ 0 → (b ≡ true) × (number ≡ 0)
passed true ne h = (refl, h)
passed false ne h = absurd (ne h)

-- a test that would refuse
pub unmet : (b : Bool) {why : ℕ} → (why ≡ 0 → ⊥) → cond b why 0 ≡ 0 → b ≡ false
unmet true ne h = absurd (ne h)
unmet false ne h = refl

pub first_none : {A : Type 0} (number : A → ℕ) (xs : List A) → first number xs ≡ 0 → Every (λ x. number x ≡ 0) xs
unfolding first
first_none number [] h = tt
first_none number (x ∷ xs) h = let e = or_else_done (number x) (first number xs) h in (e.0, first_none number xs e.1)

pub none_first : {A : Type 0} (number : A → ℕ) (xs : List A) → Every (λ x. number x ≡ 0) xs → first number xs ≡ 0
unfolding first
none_first number [] h = refl
none_first number (x ∷ xs) h = rw h.0 (none_first number xs h.1)
