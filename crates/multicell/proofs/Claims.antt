-- What is claimed of arrangements, and of a change from one into another. Assumes nothing.
use Rattle.multicell.specs.Claims.{ArrangementClaims}
use Rattle.multicell.proofs.Arranging.{test, plain}
use Rattle.multicell.proofs.Changing.{least_raise}
use Rattle.multicell.proofs.Differences.{largest_is}
use Rattle.multicell.proofs.Examples.{examples}

pub claims : ArrangementClaims
claims = record {
  test = test;
  plain = plain;
  largest = largest_is;
  least = λ q z old new levels cells o w. least_raise levels cells o w;
  examples = examples;
}
