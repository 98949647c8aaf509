-- `ranking::factorials::small_factorial` meets its contract: it is an entry of the table. Assumes nothing.
use Rattle.ranking.proofs.Table.{table_at}
use Rattle.ranking.proofs.factorials.small_factorial.Goals as goal

pub returns : goal.returns
returns c = table_at c.factorial_table.ensures c.args.n c.requires
