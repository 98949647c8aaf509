-- `bands::judge::none_above` meets its contract: the test is that of the lists pair by pair. Assumes nothing.
use mathlib.Core.Path.{◌∙◌}
use Prim.Native.Nat.{ℕ}
use lib.Dec.{leb}
use Rattle.std.proofs.Common.{rules, tests}
use Rattle.std.proofs.lemmas.Iterator.{YieldsList-from_slice, YieldsList-from_zip}
use Rattle.std.proofs.lemmas.Iterator.Search.{all_from_yields_List}
use Rattle.bands.proofs.Judging.{none_pairs}
use Rattle.bands.proofs.judge.none_above.Goals as goal

pub returns : goal.returns
returns c =
    let low = c.args.lowest.now in
    let high = c.args.highest.now in
    all_from_yields_List (λ (p : ℕ × ℕ). leb p.0 p.1) c.all.new.self _ c.all.result c.all.ensures.ran
    (YieldsList-from_zip (YieldsList-from_slice low cc) (YieldsList-from_slice high cc)) (λ x b q k. search (rules, tests))
    ∙ none_pairs low high
