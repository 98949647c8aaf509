-- Lists of cell names: how often a name stands in one, whether it does, what is left without some names, and the names 1 to n; lists in a row; what holds of every entry.
-- Assumes nothing.
use Rattle.std.specs.Prelude.{◌≡◌, Bool, true, false, cond, ◌&&◌, ◌||◌, List, [], ◌∷◌, ◌++◌, ℕ, zero, suc, ◌+◌, ◌-◌, ◌≤◌, eqb, length, replicate}

-- 1 where the two names are the same, and 0 otherwise
unfoldable pub delta : ℕ → ℕ → ℕ
delta a b = cond (eqb a b) 1 0

-- how often c stands in a list
abbrev pub count : ℕ → List ℕ → ℕ
count c [] = 0
count c (x ∷ xs) = delta x c + count c xs

-- is c among the entries of a list?
abbrev pub member : ℕ → List ℕ → Bool
member c [] = false
member c (x ∷ xs) = eqb c x || member c xs

-- does some entry stand twice?
abbrev pub repeats : List ℕ → Bool
repeats [] = false
repeats (x ∷ xs) = member x xs || repeats xs

-- `without a xs`: xs with the names of a taken out, the others in their sequence
abbrev pub without : List ℕ → List ℕ → List ℕ
without a [] = []
without a (x ∷ xs) = cond (member x a) (without a xs) (x ∷ without a xs)

-- does xs begin with p?
abbrev pub begins : List ℕ → List ℕ → Bool
begins [] xs = true
begins (c ∷ p) [] = false
begins (c ∷ p) (x ∷ xs) = eqb c x && begins p xs

-- the names a, a + 1, .., a + n - 1
abbrev pub names_from : ℕ → ℕ → List ℕ
names_from a zero = []
names_from a (suc n) = a ∷ names_from (suc a) n

-- Document 01, "The module and its jobs": "A group has n cells, 2 to 20, named 1 to n."
abbrev pub names : ℕ → List ℕ
names n = names_from 1 n

-- names that are cells of a group of n
abbrev pub Cells : ℕ → List ℕ → Type 0
Cells n cs = (c : ℕ) → member c cs ≡ true → (1 ≤ c) × (c ≤ n)

-- a list in a row of `room` places, with z past it
abbrev pub padded : {A : Type 0} → ℕ → A → List A → List A
padded room z xs = xs ++ replicate (room - length xs) z

-- what holds of every entry of a list
abbrev pub Every : {A : Type 0} → (A → Type 0) → List A → Type 0
Every P [] = Unit {0}
Every P (x ∷ xs) = P x × Every P xs
