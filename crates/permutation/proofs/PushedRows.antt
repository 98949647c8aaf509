-- A push on a row of twenty that holds a permutation at its front. Assumes nothing.
use mathlib.Core.Path.{◌≡◌, sym, ap, ◌∙◌}
use mathlib.Core.List.{List, ◌∷◌, ◌++◌, append_assoc}
use Prim.Native.Nat.{ℕ, ◌-◌, ◌≤◌}
use native.Mathlib.Omega.{arith}
use lib.ListN.{length, get_or, take, drop, replicate, get_or-append}
use lib.Seq.{take-append-le, drop-append-le}
use Rattle.theory.specs.Permutation.{IsPermutation, row}
use Rattle.theory.specs.Push.{push}
use Rattle.theory.proofs.Stepping.{push_permutation}

push_front : (i : ℕ) (xs zs : List ℕ) → 1 ≤ i → i ≤ length xs → push i (xs ++ zs) ≡ push i xs ++ zs
unfolding push
push_front i xs zs low high =
    rw (get_or-append xs zs 0 (i - 1) (omega arith), take-append-le (i - 1) xs zs (omega arith), drop-append-le i xs zs high)
    (ap (λ (l : List ℕ). get_or xs (i - 1) 0 ∷ l) (sym (append_assoc (take (i - 1) xs) (drop i xs) zs)))

pub push_row : (n i : ℕ) (xs : List ℕ) → 1 ≤ i → i ≤ n → IsPermutation n xs → push i (row xs) ≡ row (push i xs)
push_row n i xs low high o =
    let same : length (push i xs) ≡ length xs = (push_permutation i xs low high o).long ∙ sym o.long in
    push_front i xs (replicate (20 - length xs) 0) low (omega (arith, o.long))
    ∙ ap (λ (k : ℕ). push i xs ++ replicate (20 - k) 0) (sym same)
