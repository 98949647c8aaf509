-- Document 02, request 7, "The maker's new zero": the value of a permutation, which is counted from a zero. Assumes nothing.
use Rattle.std.specs.Prelude.{List, ℕ, ◌+◌, ◌-◌, ◌%◌}
use Rattle.theory.specs.Lists.{names}
use Rattle.theory.specs.Factorial.{factorial}
use Rattle.theory.specs.Rank.{rank}
use Rattle.theory.specs.Unrank.{unrank}

-- "Its value is the rank less the rank of its zero order, modulo n!", of xs with the zero z. Here n! is added first, which changes nothing modulo n! and keeps the
-- difference a natural number
unfoldable pub value_from : ℕ → List ℕ → List ℕ → ℕ
value_from n z xs = (rank n xs + factorial n - rank n z) % factorial n

-- the permutation that has the value v with the zero z
unfoldable pub permutation_from : ℕ → List ℕ → ℕ → List ℕ
permutation_from n z v = unrank n ((v + rank n z) % factorial n)

-- "Modules already in cellars keep the special order that document 01 starts from": the one of rank 0
abbrev pub old_zero : ℕ → List ℕ
old_zero n = unrank n 0

-- "the count starts at the order [1,2,...,n]"
abbrev pub new_zero : ℕ → List ℕ
new_zero n = names n
