-- `reader::read_sheet::sizes_of` meets its contract: the row holds the numbers of cells of the groups passed. Assumes nothing.
use mathlib.Core.Path.{◌≡◌, sym, ap, ◌∙◌}
use mathlib.Core.List.{[]}
use Prim.Native.Nat.{◌<◌}
use native.Mathlib.Omega.{arith}
use lib.ListN.{length, take, length-map, get_or-map}
use lib.Seq.{get_or-take}
use Rattle.theory.proofs.FilledRow.{filled_more, row_all}
use Rattle.sheet.specs.Held.{levels_of, groups_in}
use Rattle.sheet.specs.declared.held.Group.{Group}
use Rattle.sheet.proofs.InMemory.{held_count, held_at}
use Rattle.reader.proofs.read_sheet.sizes_of.Goals as goal
use Rattle.reader.proofs.read_sheet.sizes_of.Goals.{At-loop-g}

-- as many groups as are counted are there
counted : (c : At-loop-g) → let groups = c.args.groups.now in length (take groups.count groups.list) ≡ groups.count
counted c = sym (length-map (take c.args.groups.now.count c.args.groups.now.list) levels_of) ∙ sym (held_count c.requires)

pub loop-g-preserved : goal.loop-g-preserved
loop-g-preserved c =
    let h = c.requires in
    let groups = c.args.groups.now in
    let more : c.loop-g.g < groups.count = omega (arith, counted (goal.at.loop-g-preserved c).At-loop-g) in
    let entry = get_or-map length (groups_in groups) c.loop-g.g [] in
    filled_more c.loop-g.invariant more 0 (ap (λ (g : Group). g.n) (get_or-take groups.count groups.list c.loop-g.g _ more ∙ held_at h _ more _) ∙ sym entry)

pub returns : goal.returns
returns c = row_all 64 0 c.loop-g.invariant (omega (arith, counted (goal.at.returns c).At-loop-g))
