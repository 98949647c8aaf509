-- Lengths from short to long that fit, and which of two lists of lengths is the better. Assumes nothing.
use mathlib.Core.Path.{◌≡◌, refl}
use mathlib.Core.Logic.{◌⊎◌, inl, inr, ⊎_elim}
use mathlib.Core.List.{List, [], ◌∷◌, Lexᴰ}
use Prim.Native.Nat.{ℕ, ◌≤◌, ◌<◌}
use native.Mathlib.Omega.{arith}
use lib.ListN.{length}
use Rattle.prefixcodes.specs.Construction.{dot}
use Rattle.prefixcodes.specs.Leaves.{leaves}

-- short to long, from `low` on and below n
abbrev pub ShortToLong : ℕ → ℕ → List ℕ → Type 0
ShortToLong n low [] = Unit {0}
ShortToLong n low (l ∷ ls) = (low ≤ l) × (l < n) × ShortToLong n l ls

-- p comes before q lexicographically, or is q (for lists of one length)
abbrev pub Upto : List ℕ → List ℕ → Type 0
Upto [] q = Unit {0}
Upto (c ∷ p) [] = ⊥
Upto (c ∷ p) (d ∷ q) = (c < d) ⊎ ((c ≡ d) × Upto p q)

pub upto_first : (p q : List ℕ) → length p ≡ length q → Upto p q → (p ≡ q) ⊎ Lexᴰ ◌<◌ p q
upto_first [] [] e h = inl refl
upto_first [] (d ∷ q) e h = absurd (omega arith)
upto_first (c ∷ p) [] e h = absurd h
upto_first (c ∷ p) (d ∷ q) e (inl l) = inr (Lexᴰ.rel l)
upto_first (c ∷ p) (d ∷ q) e (inr h) =
    ⊎_elim (λ s. inl (cc h.0)) (λ s. inr (Lexᴰ.cons h.0 s)) (upto_first p q (omega arith) h.1)

-- of two lists of lengths: p costs no more, and where both cost the same it comes first
abbrev pub NoWorse : List ℕ → List ℕ → List ℕ → Type 0
NoWorse ws p q = (dot ws p ≤ dot ws q) × (dot ws p ≡ dot ws q → Upto p q)

-- x lengths from `low` on, whose prefixes lead at most b permutations
pub record Fits (n low x b : ℕ) (ls : List ℕ) : Type 0 where
  pub size : length ls ≡ x
  pub rising : ShortToLong n low ls
  pub room : leaves n ls ≤ b
