-- The highest and the lowest of a list of levels. Assumes nothing.
use mathlib.Core.Path.{◌≡◌, ap}
use mathlib.Core.List.{List, [], ◌∷◌}
use Prim.Native.Nat.{ℕ, zero, suc, ◌-◌, ◌≤◌, ◌<◌}
use native.Mathlib.Omega.{arith}
use lib.ListN.{length, get_or}
use Rattle.theory.specs.Levels.{level, highest, lowest}

pub entry≤highest : (L : List ℕ) (i : ℕ) → get_or L i 0 ≤ highest L
entry≤highest [] i = omega arith
entry≤highest (a ∷ L) zero = omega arith
entry≤highest (a ∷ L) (suc i) = omega (arith, entry≤highest L i)

pub highest≤ : (L : List ℕ) (t : ℕ) → ((i : ℕ) → i < length L → get_or L i 0 ≤ t) → highest L ≤ t
highest≤ [] t h = omega arith
highest≤ (a ∷ L) t h = omega (arith, h 0 (omega arith), highest≤ L t (λ i l. h (suc i) (omega arith)))

lowest≤entry : (L : List ℕ) (i : ℕ) → i < length L → lowest L ≤ get_or L i 0
lowest≤entry [] i h = absurd (omega arith)
lowest≤entry (a ∷ []) zero h = omega arith
lowest≤entry (a ∷ []) (suc i) h = absurd (omega arith)
lowest≤entry (a ∷ b ∷ L) zero h = omega arith
lowest≤entry (a ∷ b ∷ L) (suc i) h = omega (arith, lowest≤entry (b ∷ L) i (omega arith))

pub ≤lowest : (L : List ℕ) (t : ℕ) → 1 ≤ length L → ((i : ℕ) → i < length L → t ≤ get_or L i 0) → t ≤ lowest L
≤lowest [] t e h = absurd (omega arith)
≤lowest (a ∷ []) t e h = h 0 (omega arith)
≤lowest (a ∷ b ∷ L) t e h = omega (arith, h 0 (omega arith), ≤lowest (b ∷ L) t (omega arith) (λ i l. h (suc i) (omega arith)))

-- an entry is the level of the cell that is named one more
pub level_suc : (L : List ℕ) (i : ℕ) → level L (suc i) ≡ get_or L i 0
level_suc L i =
    let e : suc i - 1 ≡ i = omega arith in
    ap (λ (k : ℕ). get_or L k 0) e

pub level≤highest : (L : List ℕ) (c : ℕ) → level L c ≤ highest L
level≤highest L c = entry≤highest L (c - 1)

pub lowest≤level : (L : List ℕ) (c : ℕ) → 1 ≤ c → c ≤ length L → lowest L ≤ level L c
lowest≤level L c low high = lowest≤entry L (c - 1) (omega arith)
