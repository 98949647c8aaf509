-- All claims hold. Assumes nothing.
use Rattle.theory.specs.Theory.{Theory}
use Rattle.theory.proofs.Reasons.{reasons}
use Rattle.theory.proofs.Factorials.{factorials}
use Rattle.theory.proofs.Padding.{padding}
use Rattle.theory.proofs.Ranking.{ranking}
use Rattle.theory.proofs.Stepping.{stepping}
use Rattle.theory.proofs.Deciding.{deciding}
use Rattle.theory.proofs.Zero.{valuing, zeros}
use Rattle.theory.proofs.Reading.{reading}
use Rattle.theory.proofs.Rewriting.{rewriting}
use Rattle.theory.proofs.Prefixes.{numbering, coding}
use Rattle.theory.proofs.Storing.{storing, symbol_storing}
use Rattle.theory.proofs.Calls.{calling}
use Rattle.theory.proofs.Spent.{spending}
use Rattle.theory.proofs.Demand3.{demand3}
use Rattle.theory.proofs.Readings.{readings}
use Rattle.theory.proofs.Examples.{examples}

pub theory : Theory
theory = record {
  reasons = reasons;
  factorials = factorials;
  padding = padding;
  ranking = ranking;
  stepping = stepping;
  deciding = deciding;
  valuing = valuing;
  zeros = zeros;
  reading = reading;
  rewriting = rewriting;
  numbering = numbering;
  coding = coding;
  storing = storing;
  symbol_storing = symbol_storing;
  calling = calling;
  spending = spending;
  demand3 = demand3;
  readings = readings;
  examples = examples;
}
