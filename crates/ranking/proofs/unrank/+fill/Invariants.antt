-- `ranking::unrank::fill`, which calls itself, meets its contract. It has the cells below m put in, read the other way round from the spot of m on,
-- and puts m in at that spot. The measure is m. Assumes nothing.
use Rattle.ranking.proofs.unrank.+fill.Given as goal

abbrev pub decreases-fill : goal.decreases-fill
decreases-fill l = l.m
