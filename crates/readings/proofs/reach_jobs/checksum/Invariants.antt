-- `readings::reach_jobs::checksum` is safe: the sum stays below the modulus.
use Rattle.std.proofs.Common.{◌<◌}
use Rattle.readings.proofs.reach_jobs.checksum.Given as goal

abbrev pub invariant-loop-byte : goal.invariant-loop-byte
invariant-loop-byte l = l.sum < 1000003
