-- `ranking::rank::row_value` meets its contract. The loop's invariant: the sum is that of the digits read so far. Assumes nothing.
use Rattle.std.proofs.Common.{◌≡◌, ◌∙◌, ◌+◌, ◌-◌, ◌*◌, ◌^◌, ◌<◌, length, take, get_or, ap, add-one, arith, rules, length-append}
use Rattle.std.proofs.lemmas.Slice.Zip.{zip_turn, zip_end}
use lib.Seq.{get_or-take}
use Rattle.std.proofs.lemmas.List.{length-take}
use Rattle.theory.specs.Factorial.{falling}
use Rattle.ranking.proofs.Table.{weight_at, weights_long}
use Rattle.ranking.proofs.Values.{Summed, summed_none, summed_more, summed_fits, summed_all}
use Rattle.ranking.proofs.rank.row_value.Goals as goal
use Rattle.ranking.proofs.rank.row_value.Goals.{After-from, After-into_iter-digit-iterator}

pub weight_row-requires : goal.weight_row-requires
weight_row-requires c = (c.requires.0, c.requires.1.few)

pub loop-digit-init : goal.loop-digit-init
loop-digit-init c = summed_none c.args.row c.args.n

-- what the two lists of the loop hold
digits_read : (c : After-into_iter-digit-iterator) → c.into_iter-digit-iterator.result.a.rest.now ≡ take c.args.n c.args.row
digits_read c = rw (c.into_iter-digit-iterator.ensures.into_iter_gives, c.zip-digit-items.ensures.first) c.iter.ensures.rest

weights_read : (c : After-into_iter-digit-iterator) → c.into_iter-digit-iterator.result.b.rest.now ≡ c.weight_row.result.now
weights_read c = rw c.into_iter-digit-iterator.ensures.into_iter_gives c.zip-digit-items.ensures.second.0

-- the digit read, times its weight, with what those before it give
turn : (c : After-from) →
    let i = length c.loop-digit.yielded in
    let sum = c.loop-digit.rank + c.from.result * c.in-Some.weight.now in
    Summed c.args.row c.args.n (i + 1) sum × (sum < 2 ^ 64)
turn c =
    let row = c.args.row in
    let n = c.args.n in
    let i = length c.loop-digit.yielded in
    let few = c.requires.1.few in
    let pair =
    zip_turn (take n row) c.weight_row.result.now c.loop-digit.yielded c.into_iter-digit-iterator.result c.loop-digit.digit-iterator c.next.new.self
    c.next.result (digits_read (goal.at.After-from c).After-into_iter-digit-iterator) (weights_read (goal.at.After-from c).After-into_iter-digit-iterator)
    c.loop-digit.yielded_by (c.in-Some.digit, c.in-Some.weight) c.in-Some.is c.next.ensures.steps in
    let more : i < n = omega (arith, pair.0, length-take n row) in
    let is-d : c.from.result ≡ get_or row i 0 = c.from.ensures ∙ pair.2 0 ∙ get_or-take n row i 0 more in
    let small : c.from.result < n - i = rw is-d (c.requires.1.small i more) in
    let is-w : c.in-Some.weight.now ≡ falling n i = pair.3 0 ∙ weight_at n c.weight_row.ensures i (omega arith) in
    let v = c.loop-digit.invariant in
    rw (add-one i) (summed_more row n v more is-d small is-w, summed_fits row n v more is-d small is-w few)

pub overflow_mul-rank : goal.overflow_mul-rank
overflow_mul-rank c = omega (arith, (turn (goal.at.overflow_mul-rank c).After-from).1)

pub overflow_add-rank : goal.overflow_add-rank
overflow_add-rank c = omega (arith, (turn (goal.at.overflow_add-rank c).After-from).1)

pub loop-digit-preserved : goal.loop-digit-preserved
loop-digit-preserved c = rw length-append (turn (goal.at.loop-digit-preserved c).After-from).0

pub returns : goal.returns
returns c =
    let row = c.args.row in
    let n = c.args.n in
    let begun = (goal.at.returns c).After-into_iter-digit-iterator in
    let long : length row ≡ 20 = search rules in
    let all =
    zip_end (take n row) c.weight_row.result.now c.loop-digit.yielded c.into_iter-digit-iterator.result c.loop-digit.digit-iterator c.next.new.self
    c.next.result (digits_read begun) (weights_read begun) c.loop-digit.yielded_by c.in-None.is c.next.ensures.steps in
    summed_all row n (omega (arith, all, length-take n row, c.requires.1.few, ap length c.weight_row.ensures, weights_long n)) c.loop-digit.invariant
