-- The permutation of a rank: document 01's order of a rank. The rank rule decides; that this undoes it is proved in proofs/. Assumes nothing.
use Rattle.std.specs.Prelude.{cond, List, [], ◌∷◌, ◌++◌, reverse, ℕ, zero, suc, ◌+◌, ◌-◌, ◌/◌, ◌%◌, eqb, take, drop}

-- the place of cell n where its digit is d
unfoldable pub place_of_digit : ℕ → ℕ → ℕ
place_of_digit n d = cond (eqb d (n - 1)) 1 (d + 2)

-- cell n put at place i so that q is the remaining permutation
unfoldable pub insert_at : ℕ → ℕ → List ℕ → List ℕ
insert_at n i q = reverse (take (i - 1) q) ++ n ∷ reverse (drop (i - 1) q)

-- "order of a rank": cell n stands where the digit r % n puts it, and the others as r / n says
unfoldable pub unrank : ℕ → ℕ → List ℕ
unrank zero r = []
unrank (suc m) r = insert_at (suc m) (place_of_digit (suc m) (r % suc m)) (unrank m (r / suc m))
