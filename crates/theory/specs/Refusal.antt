-- Refusals: what is given beside a number, which of several numbers is given, and the size. Assumes nothing.
use Rattle.std.specs.Prelude.{cond, ℕ, eqb}
use Rattle.theory.specs.Reasons.{done, size, sized}

-- a where the number says done, and otherwise z: "0 for every other number, an order record or digit row of zeros, and no change in any lent list"
abbrev pub given {ℓ} : {A : Type ℓ} → ℕ → A → A → A
given number a z = cond (eqb number done) a z

-- "Where several hold, the lowest number is given": this one unless it is done, and then the next
abbrev pub or_else : ℕ → ℕ → ℕ
or_else number next = given number next number

-- "n is below 2 or above 20"
abbrev pub size_of : ℕ → ℕ
size_of n = cond (sized n) done size

-- n where a group has so many cells, and otherwise 0: what code tests a size by
abbrev pub size_within : ℕ → ℕ
size_within n = given (size_of n) n 0
