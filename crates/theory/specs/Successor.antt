-- The successor of a permutation in the balanced recursive rank modulation Gray code of document 001: document 01's next step. Assumes nothing.
use Rattle.std.specs.Prelude.{cond, List, reverse, ℕ, zero, suc, ◌+◌, ◌-◌, eqb, leb, drop}
use Rattle.theory.specs.Permutation.{top}
use Rattle.theory.specs.Push.{push}

-- "the smaller order, which is places n, n-1, ..., 2 in that sequence"
unfoldable pub smaller : List ℕ → List ℕ
smaller xs = reverse (drop 1 xs)

-- "Next step of an order, as the place to push: 2 if n = 2. Otherwise n if cell n is not on top. Otherwise n + 1 less the successor of the smaller order".
-- Below n = 2, where no group is, it is 2 as well
unfoldable pub successor : ℕ → List ℕ → ℕ
successor zero xs = 2
successor (suc m) xs = cond (leb (suc m) 2) 2 (cond (eqb (top xs) (suc m)) (suc m + 1 - successor m (smaller xs)) (suc m))

-- "A step takes an order record, asks its next step and pushes at the place given."
unfoldable pub step : ℕ → List ℕ → List ℕ
step n xs = push (successor n xs) xs
