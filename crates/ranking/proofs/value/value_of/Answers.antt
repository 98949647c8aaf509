-- `ranking::value::value_of` meets its contract: the rank and that of the zero are below n!. Assumes nothing.
use Rattle.theory.proofs.Splits.{rank_lt}
use Rattle.ranking.specs.Zeros.{zero_permutation}
use Rattle.ranking.proofs.Table.{factorial_bounded}
use Rattle.ranking.proofs.value.value_of.Goals as goal

pub less_modulo-requires : goal.less_modulo-requires
less_modulo-requires c =
    let n = c.args.n in
    rw (c.small_factorial.ensures, c.zero_rank.ensures)
    (c.requires.1, rank_lt n (zero_permutation c.args.zero n), factorial_bounded n c.requires.0)
