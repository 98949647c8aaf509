-- What the public functions answer, and the levels that they leave, for all inputs. Count up leaves theory's `call_levels`.
-- Assumes nothing.
use Rattle.std.specs.Prelude.{cond, ◌&&◌, List, ℕ, leb, length, Result, Ok, Err}
use Rattle.theory.specs.Reasons.{done, value}
use Rattle.theory.specs.Permutation.{cell_at}
use Rattle.theory.specs.Levels.{read_number, permutation_of, push_level, jump}
use Rattle.theory.specs.CountUp.{ceiling_of, call_number}
use Rattle.theory.specs.Spent.{charge_of, count_up_pushes}
use Rattle.theory.specs.Refusal.{given, or_else}
use Rattle.permutation.specs.Answers.{permuted}
use Rattle.permutation.specs.Refusals.{number_of}
use Rattle.permutation.specs.declared.reasons.Refusal.{Refusal}
use Rattle.permutation.specs.declared.answers.Permuted.{Permuted}
use Rattle.charge.specs.declared.answers.Spent.{Spent}
use Rattle.charge.specs.declared.answers.Pushes.{Pushes}

-- a job that pushes: refused, "0 for every other number"; done, how many pushes, and the charge that they spent
abbrev pub no_pushes : ℕ → Pushes
no_pushes number = record { number = number; pushes = 0; charge = 0 }

abbrev pub done_pushes : ℕ → ℕ → Pushes
done_pushes k charge = record { number = 0; pushes = k; charge = charge }

-- what a job gave, as C gets it
abbrev pub as_pushes : Result Spent Refusal → Pushes
as_pushes (Ok s) = done_pushes s.pushes s.charge
as_pushes (Err e) = no_pushes (number_of e)

-- the one or the other, by its number
abbrev pub pushes_of : ℕ → ℕ → ℕ → Pushes
pushes_of number k charge = record { number = number; pushes = given number k 0; charge = given number charge 0 }

-- "The order lists the names from highest level to lowest."
unfoldable pub read_answer : List ℕ → Permuted
read_answer L = permuted (read_number L) (permutation_of L)

-- a push at place i, 2 to n: size, tie, value, then ceiling
unfoldable pub place_number : List ℕ → ℕ → ℕ
place_number L i = or_else (read_number L) (or_else (cond (leb 2 i && leb i (length L)) done value) (ceiling_of L 1))

-- a push is one push; document 02: "Each push on levels shall also give its jump"
unfoldable pub place_answer : List ℕ → ℕ → Pushes
place_answer L i = pushes_of (place_number L i) 1 (jump (cell_at i (permutation_of L)) L)

-- "On levels, that cell's level becomes the old top level plus 1 and no other changes."
unfoldable pub place_levels : List ℕ → ℕ → List ℕ
place_levels L i = given (place_number L i) (push_level (cell_at i (permutation_of L)) L) L

-- "Count up, rewrite and store, when done, give their number of pushes: k, [..]"; document 02: they "give the total of their jumps"
unfoldable pub call_answer : List ℕ → ℕ → Pushes
call_answer L k = pushes_of (call_number k L) k (charge_of (count_up_pushes k L) L)
