-- The cycle of `reach::list::Led::list` and `reach::list::Led::list_then` meets its contracts: the first takes each name in turn, the second has what is left listed behind
-- that cell, with one push less. Assumes nothing.
use Prim.Native.Nat.{◌+◌}
use Rattle.reach.specs.Led.{led, led_then}
use Rattle.reach.proofs.Pieces.{NumbersLeft}
use Rattle.reach.proofs.list.Led.+list_list_then.Given as goal

-- twice the pushes that are left, and one more where no cell is chosen yet
abbrev pub decreases-list : goal.decreases-list
decreases-list l = l.self.now.d + l.self.now.d + 1

abbrev pub decreases-list_then : goal.decreases-list_then
decreases-list_then l = l.self.now.d + l.self.now.d

-- each name in turn
abbrev pub invariant-list-loop-c : goal.invariant-list-loop-c
invariant-list-loop-c l =
    let s = l.self in NumbersLeft (led_then s.n s.row s.p s.d) l.initial.list 0 (led s.n s.row s.p s.d) (s.n + 1) l.list l.at l.c
