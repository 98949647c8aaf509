-- Factorials and falling factorials. Assumes nothing.
use Rattle.std.specs.Prelude.{ℕ, zero, suc, ◌-◌, ◌*◌}

-- n! ("Ranks run from 0 to n! - 1")
abbrev pub factorial : ℕ → ℕ
factorial zero = 1
factorial (suc m) = suc m * factorial m

-- the falling factorial n (n - 1) .. (n - k + 1): where k is at most n it is document 01's n!/(n-k)!, and past that 0
abbrev pub falling : ℕ → ℕ → ℕ
falling n zero = 1
falling n (suc k) = n * falling (n - 1) k
