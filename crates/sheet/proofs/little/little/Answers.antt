-- `sheet::little::little` meets its contract: the bytes are copied over the first of eight zeros. Assumes nothing.
use mathlib.Core.Path.{◌∙◌}
use Rattle.sheet.proofs.Spelled.{copied_spelled, part_range}
use Rattle.sheet.proofs.little.little.Goals as goal

pub returns : goal.returns
returns c =
    let a = c.args in
    let few = c.requires.0 in
    let there = c.requires.1 in
    let spelled = c.from_le_bytes.ensures ∙ copied_spelled a.at a.k a.s.now few there _ c.copy_from_slice.ensures.after in
    record { spelled = spelled; range = rw spelled (part_range a.at a.k a.s.now few there (λ i. (c.type_inv.s i).fits)) }
