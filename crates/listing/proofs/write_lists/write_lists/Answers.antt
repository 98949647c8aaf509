-- `listing::write_lists::write_lists` meets its contract: the lists are refused, or the sheet that they hold is written. Assumes nothing.
use mathlib.Core.Path.{◌≡◌, sym}
use lib.ListN.{length}
use Rattle.std.proofs.lemmas.Result.{err_from_is_err_and}
use Rattle.permutation.proofs.Refusals.{not_done}
use Rattle.listing.specs.LentLists.{LentLists, lists, held_in, lists_number}
use Rattle.listing.proofs.Listing.{Listed, listed_so, lists_enough, lists_refused, lists_written}
use Rattle.listing.proofs.write_lists.write_lists.Goals as goal
use Rattle.listing.proofs.write_lists.write_lists.Goals.{In_ok-judge, Start}

-- the lists that are lent
abbrev lent : Start → LentLists
lent c =
    let a = c.args in
    lists a.sizes.now a.levels.now a.zeros.now a.kinds.now a.groups.now a.numbers.now a.names.now

-- past the judging they hold a sheet, and are long enough
known : (c : In_ok-judge) → lists_number (lent (goal.at.In_ok-judge c).Start) ≡ 0
known c = sym c.in_ok-judge.ensures

enough : (c : In_ok-judge)
    → let l = lent (goal.at.In_ok-judge c).Start in
    Listed (length l.sizes) (length l.levels) (length l.zeros) (length l.kinds) (length l.groups) (length l.numbers) (length l.names)
enough c = listed_so _ _ _ _ _ _ _ (lists_enough (lent (goal.at.In_ok-judge c).Start) (known c))

pub returns-in_err-judge : goal.returns-in_err-judge
returns-in_err-judge c =
    let e = err_from_is_err_and c.from_residual.result c.from_residual.ensures.1 in
    let p = lists_refused (lent (goal.at.returns-in_err-judge c).Start) c.args.out.now c.in_err-judge.ensures (not_done c.in_err-judge.field-0.0) in
    rw (e.1, e.2) record { answer = p.0; out_left = p.1.0; round_trips = p.1.1 }

pub groups_in-list-requires : goal.groups_in-list-requires
groups_in-list-requires c = (enough (goal.at.groups_in-list-requires c).In_ok-judge).levels_there

pub zeros_in-row-requires : goal.zeros_in-row-requires
zeros_in-row-requires c = (enough (goal.at.zeros_in-row-requires c).In_ok-judge).zeros_there

pub entries_in-entries-requires : goal.entries_in-entries-requires
entries_in-entries-requires c = let e = enough (goal.at.entries_in-entries-requires c).In_ok-judge in (e.groups_there, e.numbers_there, e.names_there)

pub returns : goal.returns
unfolding held_in
returns c =
    let w = c.write_sheet.ensures in
    let p =
    lists_written (lent (goal.at.returns c).Start) c.args.out.now (known (goal.at.returns c).In_ok-judge) w.answer w.out_left w.round_trips
    (rw (c.groups_in-list.ensures, c.zeros_in-row.ensures, c.entries_in-entries.ensures)) in
    record { answer = p.0; out_left = p.1.0; round_trips = p.1.1 }
