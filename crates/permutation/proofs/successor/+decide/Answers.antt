-- `permutation::successor::decide`, which calls itself, meets its contract; its measure is how many names there are. Assumes nothing.
use mathlib.Core.Path.{sym, ◌∙◌}
use native.Mathlib.Omega.{arith}
use borrow.Author.Rules.{rules}
use Rattle.permutation.proofs.Reflecting.{step_small, step_last, few_names, fewer_names, inner_bounds, decided_first}
use Rattle.permutation.proofs.successor.+decide.Goals as goal

pub returns-then-n-le2 : goal.returns-then-n-le2
returns-then-n-le2 t c = step_small _ _ c.if-n-le2.true

pub returns-then-top-n : goal.returns-then-top-n
returns-then-top-n t c = step_last _ _ (omega arith) (λ e. c.if-top-n.true (c.from-top.ensures ∙ e))

-- what holds past the tests
pub names-requires : goal.names-requires
names-requires t c = few_names c.args.names.now (omega arith) (omega arith) c.reflected.ensures

pub decide-inner-requires : goal.decide-inner-requires
decide-inner-requires t c =
    let e = fewer_names c.args.names.now (omega arith) (omega arith) c.reflected.ensures c.names.ensures in
    (omega (arith, e), omega (arith, e))

pub overflow_sub-result : goal.overflow_sub-result
overflow_sub-result t c = (inner_bounds c.args.names.now (omega arith) (omega arith) c.reflected.ensures c.names.ensures c.decide-inner.ensures).0

pub overflow_add-result-2 : goal.overflow_add-result-2
overflow_add-result-2 t c =
    let h = (inner_bounds c.args.names.now (omega arith) (omega arith) c.reflected.ensures c.names.ensures c.decide-inner.ensures).1 in
    search rules

pub returns : goal.returns
returns t c = decided_first c.args.names.now (omega arith) (omega arith) c.reflected.ensures c.names.ensures c.decide-inner.ensures (sym c.from-top.ensures ∙ c.if-top-n.false)
