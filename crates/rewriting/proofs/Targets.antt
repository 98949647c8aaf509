-- A target that is not refused is a permutation, however long the row that it stands in. Assumes nothing.
use mathlib.Core.Path.{◌≡◌}
use mathlib.Core.Bool.{true}
use mathlib.Core.List.{List, ◌++◌}
use Prim.Native.Nat.{ℕ, zero, suc, ◌≤◌}
use native.Mathlib.Omega.{arith}
use lib.ListN.{length, length-take}
use Rattle.theory.specs.Reasons.{sized}
use Rattle.theory.specs.Lists.{count}
use Rattle.theory.specs.Permutation.{IsPermutation}
use Rattle.theory.proofs.Cases.{by_test}
use Rattle.theory.proofs.Counts.{delta_ne, Split, split, Adds, adds_between}
use Rattle.permutation.specs.Records.{list_of, once_each, record_number}
use Rattle.permutation.specs.declared.answers.Permutation.{Permutation}
use Rattle.permutation.proofs.Records.{once_count}

-- a list in which each of 1 to n stands has n places
enough_places : (n : ℕ) (xs : List ℕ) → ((c : ℕ) → 1 ≤ c → c ≤ n → count c xs ≡ 1) → n ≤ length xs
enough_places zero xs once = omega arith
enough_places (suc m) xs once =
    let s : Split (suc m) xs = split (suc m) xs (omega (arith, once (suc m) (omega arith) (omega arith))) in
    let a : Adds (suc m) (s.above ++ s.below) xs = adds_between s.above s.below s.parts in
    omega (
      arith,
      a.longer,
      enough_places m (s.above ++ s.below)
          (λ c low high. omega (arith, a.more c, once c low (omega arith), delta_ne (suc m) c (λ e. omega arith))),
    )

target_once : (p : Permutation) → record_number p ≡ 0 → once_each p.n (list_of p) ≡ true
unfolding record_number
target_once p h =
    by_test (sized p.n)
    (λ s. by_test (once_each p.n (list_of p)) (λ o. o) (λ o. absurd (omega (arith, rw (s, o) at h))))
    (λ s. absurd (omega (arith, rw s at h)))

pub target_permutation : (p : Permutation) → record_number p ≡ 0 → IsPermutation p.n (list_of p)
target_permutation p h =
    let once = once_count p.n (list_of p) (target_once p h) in
    record { long = omega (arith, enough_places p.n (list_of p) once, length-take p.n p.cells); once = once }
