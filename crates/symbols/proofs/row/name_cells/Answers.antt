-- `symbols::row::name_cells` meets its contract: each turn writes one more name over the row. Assumes nothing.
use mathlib.Core.Path.{◌≡◌, ◌∙◌}
use Prim.Native.Nat.{◌+◌, ◌<◌}
use native.Mathlib.Omega.{arith}
use mathlib.Core.List.{[], append-nil}
use lib.ListN.{get_or, take, drop, drop_of_length-le}
use lib.Seq.{length-take-le}
use Rattle.theory.specs.Lists.{names}
use Rattle.theory.proofs.Names.{names_length, names_at}
use Rattle.theory.proofs.FilledRow.{filled_none, filled_more, filled_all}
use Rattle.symbols.proofs.row.name_cells.Goals as goal

pub loop-i-init : goal.loop-i-init
loop-i-init c = filled_none (names_length 1 c.args.n) (omega (arith, length-take-le c.args.n c.args.cells.now (omega arith)))

pub loop-i-preserved : goal.loop-i-preserved
loop-i-preserved c =
    let l = c.loop-i in
    let n = c.args.n in
    let more : l.i < n = omega (arith, length-take-le n c.args.cells.now (omega arith)) in
    let name : l.i + 1 ≡ get_or (names n) l.i 0 = omega (arith, names_at 1 n l.i more) in
    filled_more l.invariant more 0 name

pub returns : goal.returns
returns c =
    let n = c.args.n in
    let cells = c.args.cells.now in
    let long = length-take-le n cells (omega arith) in
    let none : drop n (take n cells) ≡ [] = drop_of_length-le (take n cells) {i = n} (omega arith) in
    let all : c.loop-i.cell-items ≡ names n = filled_all c.loop-i.invariant (omega arith) ∙ rw none (append-nil _) in
    rw all
