-- What the cost is worked out from, and the raised levels. Only inner contracts cite these. Assumes nothing.
use Rattle.std.specs.Prelude.{◌≡◌, List, ℕ, ◌+◌, ◌<◌, pos, length, get_or}
use Rattle.multicell.specs.Cost.{differences, largest, cost_of}

-- lists of one length, not empty, whose largest difference is not negative and fits a byte
pub record Priced (old new : List ℕ) : Type 0 where
  pub some : 0 < length old
  pub same : length old ≡ length new
  pub natural : largest (differences old new) ≡ pos (cost_of old new)
  pub small : cost_of old new < 256

-- the raised levels fit bytes, and the list has as many
pub record RaisedBytes (new : List ℕ) (cost : ℕ) (list : List ℕ) : Type 0 where
  pub same : length list ≡ length new
  pub small : (i : ℕ) → i < length new → get_or new i 0 + cost < 256
