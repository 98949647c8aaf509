-- `bands::judge::LevelBands::lead_surely` meets its contract: what was found on the way up is that of the cells passed. Assumes nothing.
use lib.ListN.{length, take}
use Rattle.bands.proofs.Testing.{Found}
use Rattle.bands.proofs.judge.LevelBands.lead_surely.Given as goal

abbrev pub invariant-loop-i : goal.invariant-loop-i
invariant-loop-i l = Found l.self.lowest.now l.self.highest.now (take (length l.self.lowest.now) l.cells) l.p l.bound l.i
