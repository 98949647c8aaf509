-- `multicell::cost::cost_of` meets its contract: what `max` finds among the differences is the largest of them all. Assumes nothing.
use Rattle.std.proofs.Common.{rules, length, arith, w32, to_z, of_z}
use Rattle.std.proofs.lemmas.Int.{to_z-of_z}
use Rattle.std.proofs.lemmas.Iterator.{YieldsList-from_slice, YieldsList-from_zip, YieldsList-from_map}
use Rattle.std.proofs.lemmas.Iterator.Consumers.{reduce_from_yields_List}
use Rattle.multicell.proofs.LargestSoFar.{kept, difference, LargestSoFar, running_found, running_cast, running_cost}
use Rattle.multicell.proofs.cost.cost_of.Goals as goal

found : (c : goal.After-unwrap) → let a = c.args in LargestSoFar a.old.now a.new.now (to_z w32 (of_z w32 c.unwrap.result)) (length a.old.now)
found c =
    let most =
    reduce_from_yields_List kept c.map.result _ c.max-largest.ensures.ran
    (YieldsList-from_map _ difference
    (YieldsList-from_zip (YieldsList-from_slice c.args.old.now cc) (YieldsList-from_slice c.args.new.now cc))
    c.map.ensures.closure (λ x r q k. search rules)) in
    rw (to_z-of_z w32 c.unwrap.result (record { sfits = c.unwrap.type_inv })) (running_found c.requires cc)

pub overflow_cast-result : goal.overflow_cast-result
overflow_cast-result c = running_cast c.requires (found c) (omega arith)

pub returns : goal.returns
returns c = running_cost c.requires (found c) (omega arith)
