-- `uneven::row::symbol_row` meets its contract: by the symbol's index, the length there, and the permutations led before. Assumes nothing.
use Prim.Native.Nat.{◌/◌, ◌<◌}
use native.Mathlib.Omega.{arith}
use Rattle.theory.specs.Factorial.{falling}
use Rattle.uneven.proofs.Booking.{length_short, place, prefix_short, unit_some, quotient_fits, row_found}
use Rattle.uneven.proofs.row.symbol_row.Goals as goal
use Rattle.uneven.proofs.row.symbol_row.Goals.{After-from-length, After-small_factorial}

pub bounds-book-index : goal.bounds-book-index
bounds-book-index c =
    let pre = c.requires in
    omega (arith, place pre.0 c.new-book.ensures _ pre.1 c.index_of-index.ensures, pre.0.most)

pub led_before-before-requires : goal.led_before-before-requires
led_before-before-requires c =
    let pre = c.requires in
    let book = c.new-book.ensures in
    let inside = place pre.0 book _ pre.1 c.index_of-index.ensures in
    (pre.0.many, omega (arith, inside, pre.0.most), λ i h. omega (arith, length_short pre.0 book i (omega (arith, inside))))

-- the prefix is shorter than n
short : (c : After-from-length) → c.from-length.result < c.args.n
short c = let pre = c.requires in prefix_short pre.0 c.new-book.ensures c.args.s pre.1 c.index_of-index.ensures c.from-length.ensures

-- and its block holds some
block : (c : After-small_factorial) → let a = c.args in let unit = c.small_factorial.result in
    (0 < unit) × (c.led_before-before.result / unit < falling a.n c.from-length.result)
block c =
    let pre = c.requires in
    let book = c.new-book.ensures in
    let at = c.index_of-index.ensures in
    let l = c.from-length.ensures in
    let s = c.args.s in
    let led = c.led_before-before.ensures in
    (unit_some pre.0 book s pre.1 at l led c.small_factorial.ensures, quotient_fits pre.0 book s pre.1 at l led c.small_factorial.ensures)

pub falling_factorial-count-requires : goal.falling_factorial-count-requires
falling_factorial-count-requires c = (omega (arith, c.requires.0.many), omega (arith, short (goal.at.falling_factorial-count-requires c).After-from-length))

pub overflow_sub-n : goal.overflow_sub-n
overflow_sub-n c = omega (arith, short (goal.at.overflow_sub-n c).After-from-length)

pub nonzero_div-before : goal.nonzero_div-before
nonzero_div-before c = (block (goal.at.nonzero_div-before c).After-small_factorial).0

pub numbered_row-cells-requires : goal.numbered_row-cells-requires
numbered_row-cells-requires c =
    let count = c.falling_factorial-count.ensures in
    let low = short (goal.at.numbered_row-cells-requires c).After-from-length in
    (omega (arith, c.requires.0.many), omega (arith, low), count, rw count (block (goal.at.numbered_row-cells-requires c).After-small_factorial).1)

pub returns : goal.returns
returns c =
    let pre = c.requires in
    row_found pre.0 c.new-book.ensures _ pre.1 c.index_of-index.ensures c.from-length.ensures c.led_before-before.ensures c.small_factorial.ensures c.numbered_row-cells.ensures
