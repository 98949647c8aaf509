-- What a rewrite is refused for before its pushes are judged, by the tests that the code makes. Assumes nothing.
use mathlib.Core.Path.{◌≡◌}
use mathlib.Core.List.{List}
use Prim.Native.Nat.{ℕ, ◌-◌, ◌≤◌, ◌<◌}
use borrow.Author.Tests.{eq-eqb, ne_eqb, le-leb, lt-leb}
use lib.ListN.{length}
use Rattle.theory.specs.Reasons.{fit}
use Rattle.theory.specs.Refusal.{or_else, size_of}
use Rattle.theory.specs.Levels.{read_number}
use Rattle.theory.proofs.Refusal.{or_else_refused}
use Rattle.permutation.specs.Records.{record_number}
use Rattle.permutation.specs.declared.answers.Permutation.{Permutation}
use Rattle.rewriting.specs.Answers.{target_number}

module _ (L : List ℕ) (target : Permutation) (room : ℕ) where
  pub judge_group : {number : ℕ} → number ≡ size_of (length L) → (number ≡ 0 → ⊥) → number ≡ target_number L target room
  unfolding target_number
  judge_group e ne = or_else_refused (size_of (length L)) _ e ne

  module _ (group : size_of (length L) ≡ 0) where
    pub judge_size : {number : ℕ} → number ≡ size_of target.n → (number ≡ 0 → ⊥) → number ≡ target_number L target room
    unfolding target_number
    judge_size e ne = rw group (or_else_refused (size_of target.n) _ e ne)

    module _ (sized : size_of target.n ≡ 0) where
      pub judge_other : (target.n ≡ length L → ⊥) → fit ≡ target_number L target room
      unfolding target_number
      judge_other ne = rw (group, sized, ne_eqb target.n (length L) ne)

      module _ (same : target.n ≡ length L) where
        pub judge_short : room < length L - 1 → fit ≡ target_number L target room
        unfolding target_number
        judge_short h = rw (group, sized, eq-eqb target.n (length L) same, lt-leb (length L - 1) room h)

        module _ (fits : length L - 1 ≤ room) where
          fitting : target_number L target room ≡ or_else (record_number target) (read_number L)
          unfolding target_number
          fitting = rw (group, sized, eq-eqb target.n (length L) same, le-leb (length L - 1) room fits)

          pub judge_muddle : {number : ℕ} → number ≡ record_number target → (number ≡ 0 → ⊥) → number ≡ target_number L target room
          judge_muddle e ne = rw fitting (or_else_refused (record_number target) (read_number L) e ne)

          -- tie or done
          pub judge_levels : record_number target ≡ 0 → read_number L ≡ target_number L target room
          judge_levels e = rw (fitting, e)
