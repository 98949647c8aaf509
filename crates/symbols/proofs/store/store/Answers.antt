-- `symbols::store::store` meets its contract: what the symbol's row is found to be is stored. Assumes nothing.
use Rattle.permutation.specs.Refusals.{number_in}
use Rattle.charge.specs.Answers.{as_pushes}
use Rattle.symbols.specs.Answers.{prefix_on, LedBy, StoreOf}
use Rattle.symbols.proofs.Storing.{Led, found_number, found_as, found_row, led_answered, if_done, done_if}
use Rattle.symbols.proofs.store.store.Goals as goal

pub store_found-requires : goal.store_found-requires
store_found-requires c = found_row c.args.levels.now c.args.m c.args.symbol c.prefix_row.result c.prefix_row.ensures

pub returns : goal.returns
returns c =
    let a = c.args in
    let L = a.levels.now in
    let q = prefix_on L a.m a.symbol in
    let found = c.prefix_row.result in
    let is = found_as L a.m a.symbol found c.prefix_row.ensures in
    let e = c.store_found.ensures in
    let r = c.store_found.result in
    let left = c.store_found.new.levels in
    let led : Led (number_in found) L q (as_pushes r) left = (e.answer q is, (e.levels_left q is, done_if (LedBy q L left) r (e.led q is))) in
    let p = led_answered L a.m a.symbol (rw (found_number L a.m a.symbol found c.prefix_row.ensures) at led) in
    record { answer = p.0; levels_left = p.1.0; stored = if_done (StoreOf L a.m a.symbol left) r p.1.1.0; spent = p.1.1.1 }
