-- Names in a list: whether one stands there, whether one stands twice, and what is left without some of them. Assumes nothing.
use mathlib.Core.Path.{◌≡◌, refl, ap, sym, ◌∙◌}
use mathlib.Core.Bool.{Bool, true, false, not, ◌&&◌, ◌||◌, or_assoc, or-false, or-true, false≢true}
use mathlib.Core.List.{List, [], ◌∷◌, ◌++◌}
use Prim.Native.Nat.{ℕ, zero, suc, ◌-◌, ◌≤◌, ◌<◌}
use native.Mathlib.Nat.{le_of_suc-le-suc}
use native.Mathlib.Omega.{arith}
use lib.Dec.{eqb}
use lib.ListN.{length, get_or, take, drop, take-append-drop}
use borrow.Author.Tests.{eq-eqb}
use Rattle.theory.specs.Lists.{count, member, repeats, without}
use Rattle.theory.specs.Permutation.{IsPermutation}
use Rattle.theory.proofs.Cases.{by_test, by_name, by_le, eqb_sym}
use Rattle.theory.proofs.Counts.{delta_eq, delta_self, delta_ne}
use Rattle.theory.proofs.Permutations.{inside}

-- no name stands twice
abbrev pub Distinct : List ℕ → Type 0
Distinct xs = repeats xs ≡ false

-- the same names, in whatever sequence
abbrev pub Same : List ℕ → List ℕ → Type 0
Same xs ys = (c : ℕ) → member c xs ≡ member c ys

-- the names of xs are among those of ys
abbrev pub Among : List ℕ → List ℕ → Type 0
Among xs ys = (c : ℕ) → member c xs ≡ true → member c ys ≡ true

pub member_first : (c : ℕ) (xs : List ℕ) → member c (c ∷ xs) ≡ true
member_first c xs = cc (eq-eqb c c refl)

pub member_later : (c x : ℕ) (xs : List ℕ) → member c xs ≡ true → member c (x ∷ xs) ≡ true
member_later c x xs m = by_test (eqb c x) (λ e. cc) (λ e. cc)

pub member_length : (c : ℕ) (xs : List ℕ) → member c xs ≡ true → 1 ≤ length xs
member_length c [] m = absurd (false≢true m)
member_length c (x ∷ xs) m = omega arith

-- a name of xs is not one that is missing in xs
pub member_differs : (c x : ℕ) (xs : List ℕ) → member x xs ≡ false → member c xs ≡ true → eqb c x ≡ false
member_differs c x xs out m = by_name c x (λ q e. cc) (λ q e. e)

pub among_tail : (c : ℕ) (p xs : List ℕ) → Among (c ∷ p) xs → Among p xs
among_tail c p xs h b m = h b (member_later b c p m)

pub member_append : (c : ℕ) (xs ys : List ℕ) → member c (xs ++ ys) ≡ (member c xs || member c ys)
member_append c [] ys = refl
member_append c (x ∷ xs) ys =
    ap (λ (b : Bool). eqb c x || b) (member_append c xs ys) ∙ sym (or_assoc (eqb c x) (member c xs) (member c ys))

pub member_take : (c k : ℕ) (xs : List ℕ) → member c (take k xs) ≡ true → member c xs ≡ true
member_take c k xs m =
    let whole : take k xs ++ drop k xs ≡ xs = take-append-drop k xs in
    cc (member_append c (take k xs) (drop k xs))

pub member_drop : (c k : ℕ) (xs : List ℕ) → member c (drop k xs) ≡ true → member c xs ≡ true
member_drop c k xs m =
    let whole : take k xs ++ drop k xs ≡ xs = take-append-drop k xs in
    rw (← whole, member_append c (take k xs) (drop k xs), m) (or-true (member c (take k xs)))

pub member_get_or : (xs : List ℕ) (j : ℕ) → j < length xs → member (get_or xs j 0) xs ≡ true
member_get_or [] j h = absurd (omega arith)
member_get_or (x ∷ xs) zero h = member_first x xs
member_get_or (x ∷ xs) (suc j) h = member_later (get_or xs j 0) x xs (member_get_or xs j (le_of_suc-le-suc h))

-- a name is a member where it stands at least once
pub member_count : (c : ℕ) (xs : List ℕ) → member c xs ≡ true → 1 ≤ count c xs
member_count c [] m = absurd (false≢true m)
member_count c (x ∷ xs) m =
    by_name c x
    (λ q e. omega (arith, delta_eq x c (sym q)))
    (λ ne e. omega (arith, member_count c xs (rw e at m)))

pub count_member : (c : ℕ) (xs : List ℕ) → 1 ≤ count c xs → member c xs ≡ true
count_member c [] h = absurd (omega arith)
count_member c (x ∷ xs) h =
    by_name c x (λ q e. cc) (λ ne e. rw e (count_member c xs (omega (arith, delta_ne x c (λ q. ne (sym q))))))

pub count_none : (c : ℕ) (xs : List ℕ) → member c xs ≡ false → count c xs ≡ 0
count_none c xs e = by_le 1 (count c xs) (λ l. absurd (false≢true (sym e ∙ count_member c xs l))) (λ l. omega arith)

pub distinct_head : (x : ℕ) (xs : List ℕ) → Distinct (x ∷ xs) → member x xs ≡ false
distinct_head x xs d = by_test (member x xs) (λ e. cc) (λ e. e)

pub distinct_tail : (x : ℕ) (xs : List ℕ) → Distinct (x ∷ xs) → Distinct xs
distinct_tail x xs d = rw (distinct_head x xs d) at d

pub distinct_cons : (x : ℕ) (xs : List ℕ) → member x xs ≡ false → Distinct xs → Distinct (x ∷ xs)
distinct_cons x xs out d = rw out d

-- a list that has no name more than once
distinct_counts : (xs : List ℕ) → ((c : ℕ) → count c xs ≤ 1) → Distinct xs
distinct_counts [] h = refl
distinct_counts (x ∷ xs) h =
    let out : member x xs ≡ false =
    by_test (member x xs) (λ e. absurd (omega (arith, h x, delta_self x, member_count x xs e))) (λ e. e) in
    distinct_cons x xs out (distinct_counts xs (λ c. omega (arith, h c)))

pub distinct_single : (c : ℕ) (xs : List ℕ) → Distinct xs → count c xs ≤ 1
distinct_single c [] d = omega arith
distinct_single c (x ∷ xs) d =
    by_name x c
    (λ q e. omega (arith, delta_eq x c q, ap (λ (b : ℕ). count b xs) q, count_none x xs (distinct_head x xs d)))
    (λ ne e. omega (arith, delta_ne x c ne, distinct_single c xs (distinct_tail x xs d)))

-- a permutation has each name at most once
pub permutation_single : {n : ℕ} {xs : List ℕ} → IsPermutation n xs → (c : ℕ) → count c xs ≤ 1
permutation_single {n} {xs} o c =
    by_le 1 (count c xs)
    (λ l. let b : (1 ≤ c) × (c ≤ n) = inside n xs o c l in omega (arith, o.once c b.0 b.1))
    (λ l. omega arith)

pub permutation_distinct : {n : ℕ} {xs : List ℕ} → IsPermutation n xs → Distinct xs
permutation_distinct {n} {xs} o = distinct_counts xs (permutation_single o)

pub distinct_left : (a b : List ℕ) → Distinct (a ++ b) → Distinct a
distinct_left [] b d = refl
distinct_left (x ∷ a) b d =
    let out : member x (a ++ b) ≡ false = distinct_head x (a ++ b) d in
    distinct_cons x a
    (by_test (member x a) (λ e. cc (member_append x a b)) (λ e. e))
    (distinct_left a b (distinct_tail x (a ++ b) d))

pub distinct_drop : (k : ℕ) (xs : List ℕ) → Distinct xs → Distinct (drop k xs)
distinct_drop zero xs d = d
distinct_drop (suc k) [] d = d
distinct_drop (suc k) (x ∷ xs) d = distinct_drop k xs (distinct_tail x xs d)

-- the two parts of a list without repetition have no name in common
pub distinct_apart : (a b : List ℕ) → Distinct (a ++ b) → (c : ℕ) → member c a ≡ true → member c b ≡ false
distinct_apart [] b d c m = absurd (false≢true m)
distinct_apart (x ∷ a) b d c m =
    by_name c x
    (λ q e.
    let out : member x (a ++ b) ≡ false = distinct_head x (a ++ b) d in
    by_test (member x a) (λ g. cc (member_append x a b)) (λ g. cc (member_append x a b)))
    (λ q e. distinct_apart a b (distinct_tail x (a ++ b) d) c (rw e at m))

pub member_without : (c : ℕ) (a xs : List ℕ) → member c (without a xs) ≡ (not (member c a) && member c xs)
member_without c a [] = by_test (member c a) (λ e. cc) (λ e. cc)
member_without c a (x ∷ xs) =
    by_test (member x a)
    (λ e. by_name c x (λ q t. cc (member_without c a xs)) (λ q t. cc (member_without c a xs)))
    (λ e. by_name c x (λ q t. cc) (λ q t. cc (member_without c a xs)))

pub without_among : (a xs : List ℕ) → Among (without a xs) xs
without_among a xs c m = by_test (member c a) (λ e. cc (member_without c a xs)) (λ e. cc (member_without c a xs))

pub without_without : (a b xs : List ℕ) → without a (without b xs) ≡ without (b ++ a) xs
without_without a b [] = refl
without_without a b (x ∷ xs) =
    let ih : without a (without b xs) ≡ without (b ++ a) xs = without_without a b xs in
    by_test (member x b)
    (λ e. cc (member_append x b a))
    (λ e. by_test (member x a) (λ f. cc (member_append x b a)) (λ f. cc (member_append x b a)))

pub without_append : (a xs ys : List ℕ) → without a (xs ++ ys) ≡ without a xs ++ without a ys
without_append a [] ys = refl
without_append a (x ∷ xs) ys = by_test (member x a) (λ e. cc (without_append a xs ys)) (λ e. cc (without_append a xs ys))

pub without_same : (a b xs : List ℕ) → Same a b → without a xs ≡ without b xs
without_same a b [] h = refl
without_same a b (x ∷ xs) h = cc (without_same a b xs h, h x)

-- a list that has none of the names taken out stays as it is
pub without_none : (a xs : List ℕ) → ((c : ℕ) → member c xs ≡ true → member c a ≡ false) → without a xs ≡ xs
without_none a [] h = refl
without_none a (x ∷ xs) h =
    let first : member x a ≡ false = h x (member_first x xs) in
    cc (without_none a xs (λ c m. h c (member_later c x xs m)))

pub without_absent : (c : ℕ) (xs : List ℕ) → member c xs ≡ false → without (c ∷ []) xs ≡ xs
without_absent c xs out = without_none (c ∷ []) xs (λ b m. or-false (eqb b c) ∙ member_differs b c xs out m)

pub without_length : (a xs : List ℕ) → length (without a xs) ≤ length xs
without_length a [] = omega arith
without_length a (x ∷ xs) =
    by_test (member x a) (λ e. rw e (omega (arith, without_length a xs))) (λ e. rw e (omega (arith, without_length a xs)))

-- one name less
pub without_one_length : (c : ℕ) (xs : List ℕ) → Distinct xs → member c xs ≡ true → length (without (c ∷ []) xs) ≡ length xs - 1
without_one_length c [] d m = absurd (false≢true m)
without_one_length c (x ∷ xs) d m =
    by_name c x
    (λ q e.
    let out : member c xs ≡ false = rw q (distinct_head x xs d) in
    rw (eqb_sym x c, e, without_absent c xs out) (omega arith))
    (λ q e.
    let later : member c xs ≡ true = rw e at m in
    rw (eqb_sym x c, e) (omega (arith, without_one_length c xs (distinct_tail x xs d) later, member_length c xs later)))

-- to take out the name at an index is to cut the list there
pub without_at : (xs : List ℕ) (j : ℕ) → Distinct xs → j < length xs → without (get_or xs j 0 ∷ []) xs ≡ take j xs ++ drop (suc j) xs
without_at [] j d h = absurd (omega arith)
without_at (x ∷ xs) zero d h = cc (eq-eqb x x refl, without_absent x xs (distinct_head x xs d))
without_at (x ∷ xs) (suc j) d h =
    let c : ℕ = get_or xs j 0 in
    let ne : eqb c x ≡ false = member_differs c x xs (distinct_head x xs d) (member_get_or xs j (le_of_suc-le-suc h)) in
    cc (eqb_sym x c, without_at xs j (distinct_tail x xs d) (le_of_suc-le-suc h))

pub distinct_without : (a xs : List ℕ) → Distinct xs → Distinct (without a xs)
distinct_without a [] d = refl
distinct_without a (x ∷ xs) d =
    let rest : Distinct (without a xs) = distinct_without a xs (distinct_tail x xs d) in
    let out : member x xs ≡ false = distinct_head x xs d in
    by_test (member x a)
    (λ e. rw e rest)
    (λ e. rw e (distinct_cons x (without a xs) (cc (member_without x a xs)) rest))

-- each entry of a permutation is a cell
pub entry_inside : {n : ℕ} {xs : List ℕ} → IsPermutation n xs → (i : ℕ) → i < length xs → (1 ≤ get_or xs i 0) × (get_or xs i 0 ≤ n)
entry_inside {n} {xs} o i h = inside n xs o (get_or xs i 0) (member_count (get_or xs i 0) xs (member_get_or xs i h))

-- and each cell stands in it
pub cell_member : {n : ℕ} {xs : List ℕ} → IsPermutation n xs → (c : ℕ) → (1 ≤ c) × (c ≤ n) → member c xs ≡ true
cell_member {xs = xs} o c h = count_member c xs (omega (arith, o.once c h.0 h.1))
