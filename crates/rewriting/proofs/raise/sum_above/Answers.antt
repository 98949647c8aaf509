-- `rewriting::raise::sum_above` meets its contract: the closed form is the sum. Assumes nothing.
use Rattle.rewriting.proofs.Raising.{above_is}
use Rattle.rewriting.proofs.raise.sum_above.Goals as goal
use Rattle.rewriting.proofs.raise.sum_above.Goals.{After-from}

pub returns : goal.returns
returns c = rw c.from.ensures (above_is c.args.top c.args.r)
