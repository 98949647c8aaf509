-- What a rewrite of the levels L to a target answers, where the push list has `room` bytes, and the lent lists that it leaves, for all inputs.
-- Assumes nothing.
use Rattle.std.specs.Prelude.{◌≡◌, cond, ◌&&◌, List, ◌++◌, ℕ, ◌-◌, ◌≤◌, eqb, leb, length, drop}
use Rattle.theory.specs.Reasons.{done, fit}
use Rattle.theory.specs.Push.{pushes, Places}
use Rattle.theory.specs.Levels.{permutation_of, push_levels, read_number}
use Rattle.theory.specs.CountUp.{ceiling_of}
use Rattle.theory.specs.Rewrite.{rewrite_count, rewrite_pushes}
use Rattle.theory.specs.Spent.{charge_of}
use Rattle.permutation.specs.Records.{list_of, record_number}
use Rattle.theory.specs.Refusal.{given, or_else, size_of}
use Rattle.permutation.specs.declared.answers.Permutation.{Permutation}
use Rattle.charge.specs.Answers.{pushes_of, read_answer}
use Rattle.charge.specs.declared.answers.Pushes.{Pushes}

-- "target's n differs from the group's, or a push list has fewer than n - 1 bytes"
abbrev pub fit_of : List ℕ → Permutation → ℕ → ℕ
fit_of L target room = cond (eqb target.n (length L) && leb (length L - 1) room) done fit

-- size, "for the group first, then for a target"; fit; muddle, which is all that is left of the target's reasons; tie, all that is left of the group's
unfoldable pub target_number : List ℕ → Permutation → ℕ → ℕ
target_number L target room =
    or_else (size_of (length L)) (or_else (size_of target.n) (or_else (fit_of L target room) (or_else (record_number target) (read_number L))))

-- "r is the smallest number for which [..]", from the permutation of the levels
abbrev pub pushes_to : List ℕ → Permutation → ℕ
pushes_to L target = rewrite_count (permutation_of L) (list_of target)

-- "A ceiling is judged on the whole job, before its first push."
unfoldable pub rewrite_number : List ℕ → Permutation → ℕ → ℕ
rewrite_number L target room = or_else (target_number L target room) (ceiling_of L (pushes_to L target))

-- "Count up, rewrite and store, when done, give their number of pushes: [..] r"; document 02: they "give the total of their jumps"
unfoldable pub rewrite_answer : List ℕ → Permutation → ℕ → Pushes
rewrite_answer L target room =
    pushes_of (rewrite_number L target room) (pushes_to L target) (charge_of (rewrite_pushes (permutation_of L) (list_of target)) L)

-- "The target's cells r, r-1, ..., 1 are pushed."
unfoldable pub rewrite_levels : List ℕ → Permutation → ℕ → List ℕ
rewrite_levels L target room = given (rewrite_number L target room) (push_levels (rewrite_pushes (permutation_of L) (list_of target)) L) L

-- "The push list gets those r names in that sequence from its start; its later bytes keep their values."
unfoldable pub rewrite_list : List ℕ → Permutation → List ℕ → List ℕ
rewrite_list L target list =
    given (rewrite_number L target (length list)) (rewrite_pushes (permutation_of L) (list_of target) ++ drop (pushes_to L target) list) list

-- a rewrite of L that was done with r pushes and left L'
pub record RewriteOf (L : List ℕ) (target : Permutation) (L' : List ℕ) (r : ℕ) : Type 0 where
  -- the permutation then read is the target
  pub read : read_answer L' ≡ record { number = 0; permutation = target }
  -- no shorter row of pushes gives the target
  pub fewest : (is : List ℕ) → Places (length L) is → pushes is (permutation_of L) ≡ list_of target → r ≤ length is
