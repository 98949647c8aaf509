-- `symbols::store::store_found` meets its contract: a prefix is stored, and a refusal is passed on where no tie goes before it. Assumes nothing.
use mathlib.Core.Path.{refl, ap, ◌∙◌}
use mathlib.Core.List.{List}
use Prim.Native.Nat.{ℕ}
use Rattle.permutation.specs.Refusals.{number_of}
use Rattle.charge.specs.Answers.{as_pushes}
use Rattle.symbols.specs.Answers.{lead_answer, lead_levels, LedBy}
use Rattle.symbols.proofs.Storing.{Led, lead_refused, tie_first, if_done}
use Rattle.symbols.proofs.store.store_found.Goals as goal
use Rattle.symbols.proofs.store.store_found.Goals.{After-and}

pub store_prefix-requires : goal.store_prefix-requires
store_prefix-requires c = rw c.in-Ok.is at c.requires

pub returns-in-Ok : goal.returns-in-Ok
returns-in-Ok c =
    let L = c.args.levels.now in
    let e = c.store_prefix.ensures in
    rw c.in-Ok.is (record {
      answer = λ q f. e.answer ∙ ap (lead_answer 0 L) f;
      levels_left = λ q f. e.levels_left ∙ ap (lead_levels 0 L) f;
      led = λ q f. rw f at e.led;
    })

-- whatever list is named
refused : (c : After-and) (q : List ℕ) → let L = c.args.levels.now in Led (number_of c.in-Err.refusal) L q (as_pushes c.and.result) L
refused c q =
    let L = c.args.levels.now in
    let why = c.in-Err.refusal in
    let t = tie_first (number_of why) L q c.read_number.result why c.read_number.ensures refl c.and.ensures in
    lead_refused (number_of why) L q t.1 t.2 t.3

pub returns-in-Err : goal.returns-in-Err
returns-in-Err c =
    let L = c.args.levels.now in
    rw c.in-Err.is (record {
      answer = λ q f. (refused c q).0;
      levels_left = λ q f. (refused c q).1.0;
      led = λ q f. if_done (LedBy q L L) c.and.result (refused c q).1.1;
    })
