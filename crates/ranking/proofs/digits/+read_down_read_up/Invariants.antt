-- The cycle of `ranking::digits::read_down` and `ranking::digits::read_up` meets its contracts. The measure is how many cells are left. Each stores the digit of
-- cell m and leaves the others to the other reader, from the spot of m on. Assumes nothing.
use Rattle.ranking.proofs.digits.+read_down_read_up.Given as goal

abbrev pub decreases-read_down : goal.decreases-read_down
decreases-read_down l = l.m

abbrev pub decreases-read_up : goal.decreases-read_up
decreases-read_up l = l.m
