-- `permutation::successor::next_place`, which calls itself, meets its contract; its measure is how many names there are. Assumes nothing.
use mathlib.Core.Path.{sym, ◌∙◌}
use native.Mathlib.Omega.{arith}
use Rattle.permutation.proofs.Reflecting.{successor_small, successor_last, few_names, fewer_names, smaller_bound, successor_first}
use Rattle.permutation.proofs.successor.+next_place.Goals as goal

pub returns-then-n-le2 : goal.returns-then-n-le2
returns-then-n-le2 t c = successor_small _ _ c.if-n-le2.true

pub returns-then-from-n : goal.returns-then-from-n
returns-then-from-n t c = successor_last _ _ (omega arith) (λ e. c.if-from-n.true (c.from.ensures ∙ e))

pub names-requires : goal.names-requires
names-requires t c = few_names c.args.names.now (omega arith) (omega arith) c.reflected.ensures

pub next_place-requires : goal.next_place-requires
next_place-requires t c =
    let e = fewer_names c.args.names.now (omega arith) (omega arith) c.reflected.ensures c.names.ensures in
    (omega (arith, e), omega (arith, e))

pub overflow_sub-result : goal.overflow_sub-result
overflow_sub-result t c = smaller_bound c.args.names.now (omega arith) (omega arith) c.reflected.ensures c.names.ensures c.next_place.ensures

pub returns : goal.returns
returns t c = successor_first c.args.names.now (omega arith) (omega arith) c.reflected.ensures c.names.ensures c.next_place.ensures (sym c.from.ensures ∙ c.if-from-n.false)
