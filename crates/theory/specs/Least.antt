-- The least number at which a test holds: what document 01 calls "the smallest". Assumes nothing.
use Rattle.std.specs.Prelude.{Bool, cond, ℕ, zero, suc}

-- the first of r, r + 1, .., r + k - 1 at which the test holds, or r + k where it holds at none of them
abbrev pub least_from : (ℕ → Bool) → ℕ → ℕ → ℕ
least_from test zero r = r
least_from test (suc k) r = cond (test r) r (least_from test k (suc r))

-- the least number at which the test holds, or the bound where it holds at none below that
abbrev pub least : (ℕ → Bool) → ℕ → ℕ
least test bound = least_from test bound 0
