-- `sheet::zeros::zeros_named` meets its contract: the first i numbers rise, and the groups that they name are on the new zero. Assumes nothing.
use Rattle.sheet.specs.Parts.{numbers}
use Rattle.sheet.proofs.ZeroSection.{NamedSoFar}
use Rattle.sheet.proofs.zeros.zeros_named.Given as goal

abbrev pub invariant-loop-number : goal.invariant-loop-number
invariant-loop-number l = NamedSoFar l.total (numbers 1 l.count l.s l.from) l.zeros l.low l.number-index
