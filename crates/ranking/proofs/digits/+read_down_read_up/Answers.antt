-- The cycle of `ranking::digits::read_down` and `ranking::digits::read_up` meets its contracts. The measure is how many cells are left. Each stores the digit of
-- cell m and leaves the others to the other reader, from the spot of m on. Assumes nothing.
use mathlib.Core.Bool.{true, false}
use native.Mathlib.Omega.{arith}
use Rattle.ranking.proofs.BySpots.{spot_below, passed_below, low_less, read_turn, read_none}
use Rattle.ranking.proofs.digits.+read_down_read_up.Goals as goal

pub read_down-passed-requires : goal.read_down-passed-requires
read_down-passed-requires t c =
    (omega arith, spot_below c.requires.3 c.if-m-gt0.true c.from-j.ensures, omega arith)

pub read_down-digit_of-requires : goal.read_down-digit_of-requires
read_down-digit_of-requires t c =
    let known = c.requires in
    let j = spot_below known.3 c.if-m-gt0.true c.from-j.ensures in
    (omega (arith, passed_below true _ _ _ known.2 j, c.passed.ensures), omega arith)

pub read_down-read_up-requires : goal.read_down-read_up-requires
read_down-read_up-requires t c =
    let known = c.requires in
    let j = spot_below known.3 c.if-m-gt0.true c.from-j.ensures in
    (omega arith, (omega arith, omega arith, omega (arith, j), low_less known.3))

pub read_down-returns-then-m-gt0 : goal.read_down-returns-then-m-gt0
read_down-returns-then-m-gt0 t c =
    let a = c.args in
    read_turn true a.n a.m a.s _ _ _ a.spots.now a.row.now _ c.if-m-gt0.true c.requires.1 (omega arith)
    c.from-j.ensures c.passed.ensures c.digit_of.ensures c.read_up.ensures

pub read_down-returns-else-m-gt0 : goal.read_down-returns-else-m-gt0
read_down-returns-else-m-gt0 t c =
    let a = c.args in
    read_none true a.n a.m a.s a.spots.now a.row.now c.if-m-gt0.false

pub read_up-passed-requires : goal.read_up-passed-requires
read_up-passed-requires t c =
    (omega arith, spot_below c.requires.3 c.if-m-gt0.true c.from-j.ensures, omega arith)

pub read_up-digit_of-requires : goal.read_up-digit_of-requires
read_up-digit_of-requires t c =
    let known = c.requires in
    let j = spot_below known.3 c.if-m-gt0.true c.from-j.ensures in
    (omega (arith, passed_below false _ _ _ known.2 j, c.passed.ensures), omega arith)

pub read_up-read_down-requires : goal.read_up-read_down-requires
read_up-read_down-requires t c =
    let known = c.requires in
    let j = spot_below known.3 c.if-m-gt0.true c.from-j.ensures in
    (omega arith, (omega arith, omega arith, omega (arith, j), low_less known.3))

pub read_up-returns-then-m-gt0 : goal.read_up-returns-then-m-gt0
read_up-returns-then-m-gt0 t c =
    let a = c.args in
    read_turn false a.n a.m a.s _ _ _ a.spots.now a.row.now _ c.if-m-gt0.true c.requires.1 (omega arith)
    c.from-j.ensures c.passed.ensures c.digit_of.ensures c.read_down.ensures

pub read_up-returns-else-m-gt0 : goal.read_up-returns-else-m-gt0
read_up-returns-else-m-gt0 t c =
    let a = c.args in
    read_none false a.n a.m a.s a.spots.now a.row.now c.if-m-gt0.false
