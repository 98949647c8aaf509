-- `listing::zeros::judge_zeros` meets its contract: none of the zeros up to here is refused. Assumes nothing.
use Rattle.listing.proofs.Listing.{ZerosJudged}
use Rattle.listing.proofs.zeros.judge_zeros.Given as goal

abbrev pub invariant-loop-number : goal.invariant-loop-number
invariant-loop-number l = ZerosJudged l.zeros l.number-index
