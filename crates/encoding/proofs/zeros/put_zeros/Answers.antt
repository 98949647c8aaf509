-- `encoding::zeros::put_zeros` meets its contract: the numbers of the groups up to g that are on the new zero were put, behind the place of their count. Assumes
-- nothing.
use mathlib.Core.Path.{◌≡◌}
use mathlib.Core.List.{flat_map}
use Prim.Native.Nat.{◌+◌, ◌≤◌}
use native.Mathlib.Nat.{add-zero}
use native.Mathlib.Omega.{arith}
use borrow.Author.Rules.{rules}
use lib.ListN.{length, take}
use lib.Seq.{length-take-le}
use Rattle.sheet.specs.Bytes.{bytes_of}
use Rattle.sheet.specs.Putting.{Puts}
use Rattle.ranking.specs.declared.zero.Zero.TheVariants.{Old}
use Rattle.sheet.proofs.Putting.{row_start, row_next, row_end}
use Rattle.encoding.specs.SheetBytes.{numbers_on_new}
use Rattle.encoding.proofs.NewNumbers.{numbers_few}
use Rattle.encoding.proofs.SectionPut.{numbers_grow, number_near, none_put, some_put}
use Rattle.encoding.proofs.zeros.put_zeros.Goals as goal
use Rattle.encoding.proofs.zeros.put_zeros.Goals.{After-loop-g, At-loop-g}

-- as many zeros as are counted are there
all_there : (c : At-loop-g) → let a = c.args in length (take a.total a.zeros) ≡ a.total
all_there c =
    let a = c.args in
    let room : length a.zeros ≡ 64 = search rules in
    length-take-le a.total a.zeros (omega (arith, c.requires.1))

-- past the loop all numbers were put, in at most 64 bytes
numbers_now : (c : After-loop-g)
    → let a = c.args in
    let ns = numbers_on_new 0 (take a.total a.zeros) in
    Puts a.out.now (a.at + 1) c.loop-g.out c.loop-g.end (flat_map (bytes_of 1) ns)
    × (length ns ≤ 64)
    × (c.loop-g.end ≤ a.at + 65)
numbers_now c =
    let inv = c.loop-g.invariant in
    let there = all_there (goal.at.After-loop-g c).At-loop-g in (
      row_end numbers_grow _ _ _ _ inv (omega (arith, c.loop-g-test.false)),
      omega (arith, numbers_few 0 (take c.args.total c.args.zeros), c.requires.1),
      omega (arith, inv.short, inv.few, c.requires.1),
    )

pub loop-g-init : goal.loop-g-init
loop-g-init c = row_start numbers_grow _ _ _ _

pub put_number-end-requires : goal.put_number-end-requires
put_number-end-requires c =
    omega (arith, c.requires, c.loop-g.invariant.put.long, c.loop-g.invariant.short, c.loop-g-test.true, all_there (goal.at.put_number-end-requires c).At-loop-g)

pub loop-g-preserved : goal.loop-g-preserved
loop-g-preserved c =
    row_next numbers_grow _ _ _ _ c.loop-g.invariant c.loop-g-test.true Old
    (rw add-zero c.put_number-end.ensures)
    (number_near _ _ c.put_number-end.ensures)

pub returns-then-end-first : goal.returns-then-end-first
returns-then-end-first c =
    let put = numbers_now (goal.at.returns-then-end-first c).After-loop-g in
    record { puts = none_put _ put.0 c.if-end-first.true; short = omega arith }

pub returns : goal.returns
returns c =
    let put = numbers_now (goal.at.returns c).After-loop-g in
    record { puts = some_put _ put.0 c.if-end-first.false (omega (arith, put.1)) (omega (arith, c.requires.0)); short = put.2 }
