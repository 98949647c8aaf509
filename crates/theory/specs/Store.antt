-- The storing rule of document 02, request 1, "Settings that already stand". Assumes nothing.
use Rattle.std.specs.Prelude.{Bool, List, reverse, ℕ, length, take, drop}
use Rattle.theory.specs.Lists.{without, begins}
use Rattle.theory.specs.Least.{least}

-- "the order, with the prefix's first r cells taken out, begins with the rest of the prefix"
abbrev pub rest_leads : List ℕ → List ℕ → ℕ → Bool
rest_leads q xs r = begins (drop r q) (without (take r q) xs)

-- "Storing shall use the smallest r for which" that is so; at the prefix's length nothing is left of it, and it is so
unfoldable pub store_count : List ℕ → List ℕ → ℕ
store_count q xs = least (rest_leads q xs) (length q)

-- "then cells r to 1 are pushed"
unfoldable pub store_pushes : List ℕ → List ℕ → List ℕ
store_pushes q xs = reverse (take (store_count q xs) q)
