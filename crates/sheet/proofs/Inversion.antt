-- What is known of the parts where the whole was read without fault. Assumes nothing.
use mathlib.Core.Path.{◌≡◌, refl, ap, ◌∙◌}
use mathlib.Core.Bool.{Bool, true, false}
use mathlib.Core.List.{List, [], ◌∷◌}
use native.Mathlib.Omega.{arith}
use Prim.Native.Nat.{ℕ, zero, suc, ◌<◌}
use lib.ListN.{length, get_or}
use Rattle.sheet.specs.Bytes.{Fault, Got, fault, got, after, check, many}

-- a fault is no value
pub never : {A B : Type 0} {f : Fault} {x : A} {end : ℕ} → fault f ≡ got x end → B
never {f} {x} {end} e = let z : ◌≡◌ {A = ℕ} 0 1 = cc in absurd (omega arith)

-- what was read is a value y, and ends here
pub is_got : {A : Type 0} (P : A → ℕ → Type 0) {x y : A} {next end : ℕ} → got x next ≡ got y end → P x next → P y end
is_got P {x} {y} {next} {end} e h =
    let same : x ≡ y = cc in
    let here : next ≡ end = cc in
    rw (← same, ← here) h

pub after_got : {A B : Type 0} (o : Got A) (k : A → ℕ → Got B) {y : B} {end : ℕ} → after o k ≡ got y end
    → (x : A) × (next : ℕ) × (o ≡ got x next) × (k x next ≡ got y end)
unfolding after
after_got (fault f) k e = never e
after_got (got x next) k e = (x, next, refl, e)

pub check_got : {A : Type 0} (b : Bool) (f : Fault) (o : Got A) {y : A} {end : ℕ} → check b f o ≡ got y end
    → (b ≡ true) × (o ≡ got y end)
unfolding check
check_got true f o e = (refl, e)
check_got false f o e = never e

nth : {A : Type 0} (P : A → Type 0) (d x : A) (l : List A) → P x → ((i : ℕ) → i < length l → P (get_or l i d))
    → (i : ℕ) → i < suc (length l) → P (get_or (x ∷ l) i d)
nth P d x l px pl zero h = px
nth P d x l px pl (suc i) h = pl i (omega arith)

module _ {A : Type 0} (p : ℕ → Got A) where
  -- a first value, and the others
  many_split : (n at : ℕ) (xs : List A) (end : ℕ) → many (suc n) p at ≡ got xs end
      → (x : A) × (next : ℕ) × (ys : List A) × (p at ≡ got x next) × (many n p next ≡ got ys end) × (xs ≡ x ∷ ys)
  unfolding many
  many_split n at xs end e =
      let one = after_got (p at) _ e in
      let more = after_got (many n p one.1) _ one.3 in
      let last = more.3 in
      let same_end : more.1 ≡ end = cc in
      let split : xs ≡ one.0 ∷ more.0 = cc in
      (one.0, one.1, more.0, one.2, more.2 ∙ rw same_end, split)

  pub many_length : (n at : ℕ) (xs : List A) (end : ℕ) → many n p at ≡ got xs end → length xs ≡ n
  unfolding many
  many_length zero at xs end e = let none : xs ≡ [] = cc in rw none
  many_length (suc n) at xs end e =
      let s = many_split n at xs end e in
      rw s.5 (ap suc (many_length n s.1 s.2 end s.4))

  -- what holds of each value that p reads holds of all of them
  pub many_each : (P : A → Type 0) → ((at : ℕ) (x : A) (end : ℕ) → p at ≡ got x end → P x)
      → (d : A) (n at : ℕ) (xs : List A) (end : ℕ) → many n p at ≡ got xs end → (i : ℕ) → i < length xs → P (get_or xs i d)
  unfolding many
  many_each P each d zero at xs end e i h = let none : xs ≡ [] = cc in absurd (omega (arith, ap length none))
  many_each P each d (suc n) at xs end e i h =
      let s = many_split n at xs end e in
      let here = each at s.0 s.1 s.3 in
      let rest = many_each P each d n s.1 s.2 end s.4 in
      let long : length xs ≡ suc (length s.2) = ap length s.5 in
      rw s.5 (nth P d s.0 s.2 here rest i (omega arith))
