-- One step on levels, by the answers of the jobs that it asks: read, successor, push. Assumes nothing.
use Rattle.std.proofs.Common.{◌≡◌, ℕ, ◌-◌, ◌≤◌, List, length, get_or, sym, ap, ◌∙◌, arith}
use Rattle.theory.specs.Permutation.{cell_at}
use Rattle.theory.specs.Successor.{successor}
use Rattle.theory.specs.Levels.{highest, lowest, read_number, permutation_of, push_level, jump}
use Rattle.theory.specs.CountUp.{next_cell, ceiling_of, call_number}
use Rattle.theory.proofs.Splits.{successor_bounds}
use Rattle.theory.proofs.Sorting.{permutation_of_permutation}
use Rattle.theory.proofs.Extremes.{level≤highest, lowest≤level}
use Rattle.theory.proofs.Reading.{pushed_length, pushed_jump}
use Rattle.permutation.specs.Records.{record_of}
use Rattle.permutation.specs.Answers.{successor_answer}
use Rattle.permutation.specs.declared.answers.Permutation.{Permutation}
use Rattle.permutation.specs.declared.answers.Permuted.{Permuted}
use Rattle.permutation.specs.declared.answers.Placed.{Placed}
use Rattle.permutation.proofs.Answering.{placed_record}
use Rattle.charge.specs.Answers.{read_answer, place_number, place_answer, place_levels}
use Rattle.charge.specs.declared.answers.Pushes.{Pushes}
use Rattle.theory.proofs.Refusal.{given_done, or_else_done, Readable, read_done, readable, ceiling_room}
use Rattle.charge.proofs.Numbers.{place_done}
use Rattle.charge.proofs.ReadLevels.{number_is}
use Rattle.charge.proofs.Pushing.{PlacedCell, placed_cell}

-- the permutation that is read from levels which have one
pub reading_record : {L : List ℕ} → Readable L → (read_answer L).permutation ≡ record_of (permutation_of L)
unfolding read_answer
reading_record r = rw (read_done r)

-- a step on L that pushed this cell, by this much, and left these levels
pub record StepDone (L : List ℕ) (cell raise : ℕ) (after : List ℕ) : Type 0 where
  pub cell_is : cell ≡ next_cell L
  pub levels_are : after ≡ push_level (next_cell L) L
  pub long : length after ≡ length L
  pub raise_is : raise ≡ jump (next_cell L) L
  pub raise_fits : raise ≤ 65535
  pub bottom≤top : lowest after ≤ highest after

-- a count-up call by 1 would be done on L
module _ (L : List ℕ) (g : call_number 1 L ≡ 0) where
  past : (read_number L ≡ 0) × (ceiling_of L 1 ≡ 0)
  unfolding call_number
  past = or_else_done (read_number L) (ceiling_of L 1) g

  faultless : Readable L
  faultless = readable past.0

  -- no job that the step asks is refused
  pub read_given : {r : Permuted} → r ≡ read_answer L → r.number ≡ 0
  read_given e = number_is L e ∙ past.0

  pub asked_done : (p : Permutation) → p ≡ (read_answer L).permutation → {a : Placed} → a ≡ successor_answer p → a.number ≡ 0
  asked_done p stands e =
      ap (λ (a : Placed). a.number)
      (e ∙ ap successor_answer (stands ∙ reading_record faultless) ∙ placed_record (length L) (permutation_of L) faultless.few faultless.many (permutation_of_permutation L))

  -- p is what was read, and this place is what its successor answers
  module _ (p : Permutation) (place : ℕ) (stands : p ≡ (read_answer L).permutation) (asked : place ≡ (successor_answer p).place) where
    standing : p ≡ record_of (permutation_of L)
    standing = stands ∙ reading_record faultless

    place_is : place ≡ successor (length L) (permutation_of L)
    place_is =
        asked ∙ ap (λ (q : Permutation). (successor_answer q).place) standing
        ∙ ap (λ (a : Placed). a.place) (placed_record (length L) (permutation_of L) faultless.few faultless.many (permutation_of_permutation L))

    pub place_bounds : (2 ≤ place) × (place ≤ length L) × (place ≤ 20)
    place_bounds =
        let b = successor_bounds (length L) (permutation_of L) faultless.few in
        rw place_is (b.0, b.1, omega (arith, b.1, faultless.many))

    done : place_number L place ≡ 0
    done = place_done L place faultless place_bounds.0 place_bounds.1 (ceiling_room L 1 past.1)

    pub pushed_done : {a : Pushes} → a ≡ place_answer L place → a.number ≡ 0
    unfolding place_answer
    pushed_done e = ap (λ (a : Pushes). a.number) e ∙ done

    -- the cell that stands there
    module _ (cell : ℕ) (at : cell ≡ get_or p.cells (place - 1) 0) where
      stands_there : PlacedCell L place cell
      stands_there =
          placed_cell L place (omega (arith, place_bounds.0)) place_bounds.1 (ap (λ (q : Permutation). q.cells) standing) at

      cell_next : cell ≡ next_cell L
      unfolding next_cell
      cell_next = stands_there.is ∙ ap (λ (i : ℕ). cell_at i (permutation_of L)) place_is

      pub cell_inside : (1 ≤ cell) × (cell ≤ length L)
      cell_inside = (stands_there.low, stands_there.high)

      -- its push is done
      module _ (answer : Pushes) (after : List ℕ) (answered : answer ≡ place_answer L place) (pushed : after ≡ place_levels L place) where
        after_is : after ≡ push_level (next_cell L) L
        unfolding place_levels
        after_is =
            pushed
            ∙ given_done (place_number L place) _ L done
            ∙ ap (λ (c : ℕ). push_level c L) (sym stands_there.is ∙ cell_next)

        jump_is : answer.charge ≡ jump (next_cell L) L
        unfolding place_answer
        jump_is =
            ap (λ (a : Pushes). a.charge) answered
            ∙ given_done (place_number L place) _ 0 done
            ∙ ap (λ (c : ℕ). jump c L) (sym stands_there.is ∙ cell_next)

        pub step_done : StepDone L cell answer.charge after
        step_done =
            let long : length after ≡ length L = ap length after_is ∙ pushed_length (next_cell L) L in
            let b = rw cell_next at cell_inside in
            record {
              cell_is = cell_next;
              levels_are = after_is;
              long = long;
              raise_is = jump_is;
              raise_fits = omega (arith, jump_is, pushed_jump L (next_cell L) b.0 b.1, ceiling_room L 1 past.1);
              bottom≤top =
                  omega (arith, lowest≤level after cell cell_inside.0 (omega (arith, cell_inside.1)), level≤highest after cell);
            }
