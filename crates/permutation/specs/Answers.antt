-- What the public functions answer, for all inputs. "A job sent back gives the number, 0 for every other number, an order record [..] of zeros".
-- Assumes nothing.
use Rattle.std.specs.Prelude.{cond, ◌&&◌, List, [], ℕ, leb, Result, Ok, Err}
use Rattle.theory.specs.Reasons.{done, value}
use Rattle.theory.specs.Refusal.{given, or_else}
use Rattle.theory.specs.Push.{push}
use Rattle.theory.specs.Successor.{successor}
use Rattle.theory.specs.Deciding.{tests, deciding_size}
use Rattle.permutation.specs.Records.{list_of, record_of, record_number}
use Rattle.permutation.specs.declared.answers.Permutation.{Permutation}
use Rattle.permutation.specs.Refusals.{number_of, number_in, given_in}
use Rattle.permutation.specs.declared.reasons.Refusal.{Refusal}
use Rattle.permutation.specs.declared.answers.Permuted.{Permuted}
use Rattle.permutation.specs.declared.answers.Step.{Step}
use Rattle.permutation.specs.declared.answers.Placed.{Placed}

-- a job that gives a permutation: its record, or that of no cells, which is all zeros
abbrev pub permuted : ℕ → List ℕ → Permuted
permuted number xs = record { number = number; permutation = record_of (given number xs []) }

abbrev pub no_permutation : ℕ → Permuted
no_permutation number = record { number = number; permutation = record_of [] }

-- "push place outside 2 to n" is value; size and muddle come first
unfoldable pub push_number : Permutation → ℕ → ℕ
push_number p i = or_else (record_number p) (cond (leb 2 i && leb i p.n) done value)

-- "Push at place i, 2 to n: the cell there moves to place 1, and those above it move down one."
unfoldable pub push_answer : Permutation → ℕ → Permuted
push_answer p i = permuted (push_number p i) (push i (list_of p))

-- a job's permutation as C gets it: a number, and the record of no cells where it is not 0
abbrev pub no_record : Permutation
no_record = record_of []

abbrev pub as_permuted : Result Permutation Refusal → Permuted
as_permuted r = record { number = number_in r; permutation = given_in no_record r }

-- the next step of n cells: its place, and what decided it
abbrev pub step_of : ℕ → List ℕ → Step
step_of n xs = record { place = successor n xs; tests = tests n xs; size = deciding_size n xs }

-- a job's step as C gets it: a number, and zeros where it is not 0
abbrev pub as_placed : Result Step Refusal → Placed
as_placed (Ok s) = record { number = done; place = s.place; tests = s.tests; size = s.size }
as_placed (Err e) = record { number = number_of e; place = 0; tests = 0; size = 0 }

-- a job that gives the next step of n cells: its place, and what decided it, where the number says done, and zeros beside any other
abbrev pub placed_if : ℕ → ℕ → List ℕ → Placed
placed_if number n xs = record {
  number = number;
  place = given number (successor n xs) 0;
  tests = given number (tests n xs) 0;
  size = given number (deciding_size n xs) 0;
}

-- "Next step of an order, as the place to push"; document 02: it "shall also give how many times "is the largest cell on top" was tested, and the size of the
-- shrunken group at which the answer fell"
unfoldable pub successor_answer : Permutation → Placed
successor_answer p = placed_if (record_number p) p.n (list_of p)
