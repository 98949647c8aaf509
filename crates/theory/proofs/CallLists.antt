-- Lists of count-up calls, whatever the levels: one call more, the number of each, how many levels they leave, and a bound on the steps done.
-- Assumes nothing.
use mathlib.Core.Path.{◌≡◌, refl, ap, ◌∙◌}
use mathlib.Core.List.{List, [], ◌∷◌}
use Prim.Native.Nat.{ℕ, zero, suc, ◌-◌, ◌≤◌, ◌<◌}
use native.Mathlib.Omega.{arith}
use lib.ListN.{length, get_or, take}
use Rattle.theory.specs.Levels.{highest, read_number, push_level}
use Rattle.theory.specs.CountUp.{next_cell, count_up, ceiling_of, call_number, call_levels}
use Rattle.theory.specs.Run.{after_calls, call_numbers, steps_done}
use Rattle.theory.specs.Demand3.{Start}
use Rattle.theory.proofs.Cases.{by_name}
use Rattle.theory.proofs.Refusal.{or_else_done, readable, ceiling_room}
use Rattle.theory.proofs.Reading.{pushed_length}
use Rattle.theory.proofs.Calls.{calling}
use Rattle.theory.proofs.InTurn.{left_next, left_keeps, answers_length, answer_at}
use Rattle.theory.proofs.Demand3.{demand3}

-- ---- one call more
pub after_next : (ks L : List ℕ) (i : ℕ) → i < length ks → after_calls (take (suc i) ks) L ≡ call_levels (get_or ks i 0) (after_calls (take i ks) L)
unfolding after_calls
after_next ks L i = left_next call_levels ks L i 0

pub numbers_long : (ks L : List ℕ) → length (call_numbers ks L) ≡ length ks
unfolding call_numbers
numbers_long = answers_length call_levels call_number

-- no call changes how many levels there are
count_length : (k : ℕ) (L : List ℕ) → length (count_up k L) ≡ length L
unfolding count_up
count_length zero L = refl
count_length (suc k) L = count_length k (push_level (next_cell L) L) ∙ pushed_length (next_cell L) L

pub call_length : (k : ℕ) (L : List ℕ) → length (call_levels k L) ≡ length L
call_length k L = by_name (call_number k L) 0
    (λ e t. ap length ((calling k L).counted e).1 ∙ count_length k L)
    (λ ne t. ap length ((calling k L).unchanged ne).1)

pub after_length : (ks L : List ℕ) → length (after_calls ks L) ≡ length L
unfolding after_calls
after_length ks L = left_keeps call_levels (λ (M : List ℕ). length M ≡ length L) (λ k M e. call_length k M ∙ e) ks L refl

-- the number of call i
pub number_at : (ks L : List ℕ) (i : ℕ) → i < length ks → get_or (call_numbers ks L) i 0 ≡ call_number (get_or ks i 0) (after_calls (take i ks) L)
unfolding call_numbers after_calls
number_at ks L i = answer_at call_levels call_number ks L i 0 0

-- ---- the steps done fit: the highest level bounds them
steps_room : (ks L : List ℕ) → steps_done ks L ≤ 65535 - highest L
unfolding steps_done after_calls call_number
steps_room [] L = omega arith
steps_room (k ∷ ks) L = by_name (call_number k L) 0
    (λ e t.
    let g = or_else_done (read_number L) (ceiling_of L k) e in
    let r = readable g.0 in
    let start : Start (length L) L = record { few = r.many; long = refl; untied = r.untied } in
    omega (
      arith,
      ceiling_room L k g.1,
      ((calling k L).counted e).0,
      (demand3 (length L) r.few).highest_level L start (k ∷ []),
      steps_room ks (call_levels k L),
    ))
    (λ ne t. let u = (calling k L).unchanged ne in omega (arith, u.0, ap highest u.1, steps_room ks (call_levels k L)))

pub steps_fit : (ks L : List ℕ) → steps_done ks L ≤ 65535
steps_fit ks L = omega (arith, steps_room ks L)
