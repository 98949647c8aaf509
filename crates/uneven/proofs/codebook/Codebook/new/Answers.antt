-- `uneven::codebook::Codebook::new` meets its contract. Assumes nothing.
use borrow.Author.Rules.{rules}
use Rattle.uneven.proofs.Booking.{codes_held}
use Rattle.uneven.proofs.codebook.Codebook.new.Goals as goal

pub returns : goal.returns
returns c = codes_held c.requires c.small_factorial.ensures c.sort_symbols.ensures (search rules) (search rules) (rw (c.new.ensures.cells, c.new.ensures.weights) at c.plan_lengths.ensures)
