-- A cell put in among the first of a row: each cell that moves down leaves less to do, and the end is one write. Assumes nothing.
use mathlib.Core.Path.{◌≡◌, sym, ap, ◌∙◌}
use mathlib.Core.List.{List, [], ◌∷◌, ◌++◌, append_assoc}
use Prim.Native.Nat.{ℕ, zero, suc, ◌+◌, ◌-◌, ◌≤◌, ◌<◌}
use native.Mathlib.Omega.{arith}
use native.Mathlib.Numerals.{add-one}
use lib.ListN.{length, get_or, take, drop, set, drop_of_length-le, length-set}
use lib.Seq.{length-take-le, take-suc, drop-cons, append_snoc, take-append-le, drop-append-le, take_at, drop_at, drop-drop}
use lib.Seq.{set_split, get_or-set_same, take-set-le, drop-set-lt}
use Rattle.permutation.specs.Insert.{put_in}

-- the cell at index i - 1 moves down one
pub put_shift : (xs : List ℕ) (i at c : ℕ) → at < i → i < length xs → put_in (i - 1) at c (set xs i (get_or xs (i - 1) 0)) ≡ put_in i at c xs
put_shift xs zero at c lt h = absurd (omega arith)
put_shift xs (suc k) at c lt h =
    let x = get_or xs k 0 in
    let q : suc k - 1 ≡ k = omega arith in
    let low : at ≤ length (take k xs) = omega (arith, length-take-le k xs (omega arith)) in
    let in_it : suc k < length (set xs (suc k) x) = omega (arith, length-set xs (suc k) x) in
    let moved : drop (suc k) (set xs (suc k) x) ≡ x ∷ drop (suc (suc k)) xs =
    drop-cons (set xs (suc k) x) (suc k) 0 in_it ∙ rw (get_or-set_same xs (suc k) x 0 h, drop-set-lt (suc (suc k)) xs (suc k) x (omega arith)) in
    let held : drop at (take (suc k) xs) ≡ drop at (take k xs) ++ x ∷ [] =
    ap (drop at) (take-suc xs k 0 (omega arith)) ∙ drop-append-le at (take k xs) (x ∷ []) low in
    rw (q, add-one k, take-set-le at xs (suc k) x (omega arith), take-set-le k xs (suc k) x (omega arith), moved, held, add-one (suc k), append_snoc)

-- no cell is left to move
pub put_end : (xs : List ℕ) (i at c : ℕ) → i ≡ at → i < length xs → set xs i c ≡ put_in i at c xs
put_end xs i at c e h =
    let none : drop i (take i xs) ≡ [] = drop_of_length-le (take i xs) {i = i} (omega (arith, length-take-le i xs (omega arith))) in
    set_split xs i c h ∙ rw (← e, none, add-one i)

-- where the first m cells are q
pub put_front : (q xs : List ℕ) (m j c : ℕ) → length q ≡ m → j ≤ m → put_in m j c (q ++ drop m xs) ≡ (take j q ++ c ∷ drop j q) ++ drop (suc m) xs
put_front q xs m j c e h =
    let past : drop (m + 1) (q ++ drop m xs) ≡ drop (suc m) xs =
    sym (drop-drop 1 m (q ++ drop m xs)) ∙ ap (drop 1) (drop_at q (drop m xs) m e) ∙ drop-drop 1 m xs ∙ ap (λ (k : ℕ). drop k xs) (add-one m) in
    rw (take-append-le j q (drop m xs) (omega arith), take_at q (drop m xs) m e, past)
    (sym (append_assoc (take j q) (c ∷ drop j q) (drop (suc m) xs)))
