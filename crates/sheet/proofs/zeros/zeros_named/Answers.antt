-- `sheet::zeros::zeros_named` meets its contract: the first i numbers rise, and the groups that they name are on the new zero. Assumes nothing.
use mathlib.Core.Path.{◌≡◌, sym}
use borrow.Author.Rules.{rules}
use Prim.Native.Nat.{◌≤◌, ◌<◌}
use lib.ListN.{length, get_or}
use Rattle.theory.proofs.Cases.{by_le}
use Rattle.sheet.specs.Parts.{numbers}
use Rattle.sheet.proofs.ByteNumbers.{names_copied}
use Rattle.sheet.proofs.ZeroSection.{named_none, named_more, named_low, named_high, named_all, named_held, named_fault, named_got}
use Rattle.sheet.proofs.zeros.zeros_named.Goals as goal
use Rattle.sheet.proofs.zeros.zeros_named.Goals.{After-from-g}

-- what the loop reads is the number whose turn it is
read_now : (c : After-from-g) → let a = c.args in
    let ns = numbers 1 a.count a.s.now a.from in
    let i = c.loop-number.number-index in
    (i < length ns) × (c.from-g.result ≡ get_or ns i 0)
read_now c =
    let a = c.args in
    let part = names_copied a.s.now a.from a.count c.requires.0 in
    (rw part at c.loop-number-test.true, rw part at c.from-g.ensures)

pub loop-number-init : goal.loop-number-init
loop-number-init c = rw c.old_zeros-zeros.ensures (named_none _ _ c.requires.1)

pub returns-then-not-contains : goal.returns-then-not-contains
returns-then-not-contains c =
    let read = read_now (goal.at.returns-then-not-contains c).After-from-g in
    let inv = c.loop-number.invariant in
    let g = c.from-g.result in
    sym
    (named_fault _ _
    (by_le c.loop-number.low g
    (λ rises. by_le c.args.total g (λ high. named_high inv _ read.0 read.1 rises high) (λ below. absurd (search rules)))
    (λ falls. named_low inv _ read.0 read.1 falls)))

pub loop-number-preserved : goal.loop-number-preserved
loop-number-preserved c =
    let read = read_now (goal.at.loop-number-preserved c).After-from-g in
    let rises : c.loop-number.low ≤ c.from-g.result = search rules in
    let below : c.from-g.result < c.args.total = search rules in
    named_more c.loop-number.invariant _ read.0 read.1 c.requires.1 rises below

pub returns : goal.returns
returns c =
    let a = c.args in
    let done = rw (names_copied a.s.now a.from a.count c.requires.0) at c.loop-number-test.false in
    let inv = c.loop-number.invariant in
    rw (named_held inv done) (sym (named_got _ _ (named_all inv done)))
