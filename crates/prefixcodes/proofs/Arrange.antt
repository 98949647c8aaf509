-- Rearrangement: weights from heavy to light with lengths from short to long cost no more than any other pairing. Assumes nothing.
use Prim.Native.Nat.{ℕ, zero, suc, ◌+◌, ◌-◌, ◌*◌, ◌≤◌, ◌<◌}
use mathlib.Core.Path.{◌≡◌, refl, sym, ap, ◌∙◌}
use mathlib.Core.Bool.{cond}
use mathlib.Core.List.{List, [], ◌∷◌, map}
use native.Mathlib.Omega.{arith}
use native.Mathlib.Nat.{mul-add, add-mul}
use lib.ListN.{length}
use lib.Dec.{leb}
use borrow.Author.Tests.{le-leb, lt-leb}
use Rattle.theory.specs.Factorial.{factorial}
use Rattle.theory.proofs.Cases.{by_le}
use Rattle.prefixcodes.specs.Code.{weight_of, sum_below, insert_up, sort_up}
use Rattle.prefixcodes.specs.Construction.{insert_by_weight, by_weight, dot}
use Rattle.prefixcodes.specs.Leaves.{leaves}
use Rattle.prefixcodes.proofs.Better.{ShortToLong}

-- the heavier weight_of with the shorter length
swap : (v w k l : ℕ) → w ≤ v → l ≤ k → v * l + w * k ≤ w * l + v * k
swap v w k l a b =
    let x : ℕ = v - w in
    let y : ℕ = k - l in
    let p : v ≡ w + x = omega arith in
    let q : k ≡ l + y = omega arith in
    rw (p, q) (omega (arith, mul-add w l y, mul-add (w + x) l y, add-mul w x y))

-- weights from heavy to light
abbrev pub insert_down : ℕ → List ℕ → List ℕ
insert_down w [] = w ∷ []
insert_down w (v ∷ vs) = cond (leb w v) (v ∷ insert_down w vs) (w ∷ v ∷ vs)

abbrev pub Falling : List ℕ → Type 0
Falling [] = Unit {0}
Falling (v ∷ []) = Unit {0}
Falling (v ∷ u ∷ vs) = (u ≤ v) × Falling (u ∷ vs)

abbrev pub Climbing : List ℕ → Type 0
Climbing [] = Unit {0}
Climbing (v ∷ []) = Unit {0}
Climbing (v ∷ u ∷ vs) = (v ≤ u) × Climbing (u ∷ vs)

falling_tail : (v : ℕ) (vs : List ℕ) → Falling (v ∷ vs) → Falling vs
falling_tail v [] f = tt
falling_tail v (u ∷ vs) f = f.1

pub climbing_tail : (v : ℕ) (vs : List ℕ) → Climbing (v ∷ vs) → Climbing vs
climbing_tail v [] f = tt
climbing_tail v (u ∷ vs) f = f.1

falling_skip : (v u : ℕ) (vs : List ℕ) → Falling (v ∷ u ∷ vs) → Falling (v ∷ vs)
falling_skip v u [] f = tt
falling_skip v u (x ∷ vs) f = (omega (arith, f.0, f.1.0), f.1.1)

down_first : (v : ℕ) (vs : List ℕ) → Falling (v ∷ vs) → insert_down v vs ≡ v ∷ vs
down_first v [] f = refl
down_first v (u ∷ vs) f =
    by_le v u
    (λ h. let e : u ≡ v = omega (arith, f.0) in cc (le-leb v u h, down_first v vs (falling_skip v u vs f)))
    (λ h. rw (lt-leb v u h) refl)

pub up_first : (l : ℕ) (ks : List ℕ) → Climbing (l ∷ ks) → insert_up l ks ≡ l ∷ ks
up_first l [] c = refl
up_first l (k ∷ ks) c = rw (le-leb l k c.0) refl

falling_down : (w : ℕ) (vs : List ℕ) → Falling vs → Falling (insert_down w vs)
falling_down w [] f = tt
falling_down w (v ∷ []) f = by_le w v (λ h. rw (le-leb w v h) (h, tt)) (λ h. rw (lt-leb w v h) (omega arith, tt))
falling_down w (v ∷ u ∷ vs) f =
    by_le w v
    (λ h. rw (le-leb w v h)
    (by_le w u
    (λ k. let g : Falling (insert_down w (u ∷ vs)) = falling_down w (u ∷ vs) f.1 in rw (le-leb w u k) (f.0, rw (le-leb w u k) at g))
    (λ k. rw (lt-leb w u k) (h, (omega arith, f.1)))))
    (λ h. rw (lt-leb w v h) (omega arith, f))

climbing_up : (w : ℕ) (vs : List ℕ) → Climbing vs → Climbing (insert_up w vs)
climbing_up w [] f = tt
climbing_up w (v ∷ []) f = by_le w v (λ h. rw (le-leb w v h) (h, tt)) (λ h. rw (lt-leb w v h) (omega arith, tt))
climbing_up w (v ∷ u ∷ vs) f =
    by_le w v
    (λ h. rw (le-leb w v h) (h, f))
    (λ h. rw (lt-leb w v h)
    (by_le w u
    (λ k. rw (le-leb w u k) (omega arith, (k, f.1)))
    (λ k. let g : Climbing (insert_up w (u ∷ vs)) = climbing_up w (u ∷ vs) f.1 in rw (lt-leb w u k) (f.0, rw (lt-leb w u k) at g))))

-- One more weight_of and length
insert_least : (w l : ℕ) (vs ks : List ℕ) → length vs ≡ length ks → Falling vs → Climbing ks
    → dot (insert_down w vs) (insert_up l ks) ≤ w * l + dot vs ks
insert_least w l [] [] e f c = omega arith
insert_least w l [] (k ∷ ks) e f c = absurd (omega arith)
insert_least w l (v ∷ vs) [] e f c = absurd (omega arith)
insert_least w l (v ∷ vs) (k ∷ ks) e f c =
    let fs : Falling vs = falling_tail v vs f in
    let cs : Climbing ks = climbing_tail k ks c in
    by_le w v
    (λ a. by_le l k
    (λ b. rw (le-leb w v a, le-leb l k b) (omega (arith, swap v w k l a b, rw (up_first k ks c) at (insert_least w k vs ks (omega arith) fs cs))))
    (λ b. rw (le-leb w v a, lt-leb l k b) (omega (arith, insert_least w l vs ks (omega arith) fs cs))))
    (λ a. by_le l k
    (λ b. rw (lt-leb w v a, le-leb l k b) (omega arith))
    (λ b. rw (lt-leb w v a, lt-leb l k b)
    (omega (arith, swap w v l k (omega arith) (omega arith), rw (down_first v vs f) at (insert_least v l vs ks (omega arith) fs cs)))))

-- The weights of the symbols, from heavy to light
pub map_insert : (ws : List ℕ) (s : ℕ) (ts : List ℕ) → map (weight_of ws) (insert_by_weight ws s ts) ≡ insert_down (weight_of ws s) (map (weight_of ws) ts)
map_insert ws s [] = refl
map_insert ws s (t ∷ ts) =
    by_le (weight_of ws s) (weight_of ws t)
    (λ h. rw (le-leb (weight_of ws s) (weight_of ws t) h) (ap (λ (l : List ℕ). weight_of ws t ∷ l) (map_insert ws s ts)))
    (λ h. rw (lt-leb (weight_of ws s) (weight_of ws t) h) refl)

pub weights_falling : (ws : List ℕ) (m : ℕ) → Falling (map (weight_of ws) (by_weight ws m))
weights_falling ws zero = tt
weights_falling ws (suc m) = rw (map_insert ws m (by_weight ws m)) (falling_down (weight_of ws m) (map (weight_of ws) (by_weight ws m)) (weights_falling ws m))

pub sort_up_climbing : (m : ℕ) (f : ℕ → ℕ) → Climbing (sort_up m f)
sort_up_climbing zero f = tt
sort_up_climbing (suc m) f = climbing_up (f m) (sort_up m f) (sort_up_climbing m f)

insert_up_length : (l : ℕ) (ks : List ℕ) → length (insert_up l ks) ≡ suc (length ks)
insert_up_length l [] = refl
insert_up_length l (k ∷ ks) = by_le l k (λ h. rw (le-leb l k h) refl) (λ h. rw (lt-leb l k h) (ap suc (insert_up_length l ks)))

pub sort_up_length : (m : ℕ) (f : ℕ → ℕ) → length (sort_up m f) ≡ m
sort_up_length zero f = refl
sort_up_length (suc m) f = insert_up_length (f m) (sort_up m f) ∙ ap suc (sort_up_length m f)

insert_by_weight_length : (ws : List ℕ) (s : ℕ) (ts : List ℕ) → length (insert_by_weight ws s ts) ≡ suc (length ts)
insert_by_weight_length ws s [] = refl
insert_by_weight_length ws s (t ∷ ts) =
    by_le (weight_of ws s) (weight_of ws t)
    (λ h. rw (le-leb (weight_of ws s) (weight_of ws t) h) (ap suc (insert_by_weight_length ws s ts)))
    (λ h. rw (lt-leb (weight_of ws s) (weight_of ws t) h) refl)

pub by_weight_length : (ws : List ℕ) (m : ℕ) → length (by_weight ws m) ≡ m
by_weight_length ws zero = refl
by_weight_length ws (suc m) = insert_by_weight_length ws m (by_weight ws m) ∙ ap suc (by_weight_length ws m)

map_length : (ws ts : List ℕ) → length (map (weight_of ws) ts) ≡ length ts
map_length ws [] = refl
map_length ws (t ∷ ts) = ap suc (map_length ws ts)

-- Weights from heavy to light with the lengths sorted cost no more than each symbol's weight_of with its length
pub sorted_least : (ws : List ℕ) (m : ℕ) (f : ℕ → ℕ) → dot (map (weight_of ws) (by_weight ws m)) (sort_up m f) ≤ sum_below m (λ s. weight_of ws s * f s)
sorted_least ws zero f = omega arith
sorted_least ws (suc m) f =
    rw (map_insert ws m (by_weight ws m))
    (omega (
      arith,
      insert_least (weight_of ws m) (f m) (map (weight_of ws) (by_weight ws m)) (sort_up m f)
          (map_length ws (by_weight ws m) ∙ by_weight_length ws m ∙ sym (sort_up_length m f)) (weights_falling ws m) (sort_up_climbing m f),
      sorted_least ws m f,
    ))

-- and lead as many permutations
leaves_insert : (n l : ℕ) (ks : List ℕ) → leaves n (insert_up l ks) ≡ factorial (n - l) + leaves n ks
leaves_insert n l [] = refl
leaves_insert n l (k ∷ ks) = by_le l k (λ h. rw (le-leb l k h) refl) (λ h. rw (lt-leb l k h) (omega (arith, leaves_insert n l ks)))

pub leaves_sort_up : (n m : ℕ) (f : ℕ → ℕ) → leaves n (sort_up m f) ≡ sum_below m (λ s. factorial (n - f s))
leaves_sort_up n zero f = refl
leaves_sort_up n (suc m) f = omega (arith, leaves_insert n (f m) (sort_up m f), leaves_sort_up n m f)

rising_insert : (n low l : ℕ) (ks : List ℕ) → low ≤ l → l < n → ShortToLong n low ks → ShortToLong n low (insert_up l ks)
rising_insert n low l [] a b r = (a, b, tt)
rising_insert n low l (k ∷ ks) a b r =
    by_le l k
    (λ h. rw (le-leb l k h) (a, b, (h, r.1, r.2)))
    (λ h. rw (lt-leb l k h) (r.0, r.1, rising_insert n k l ks (omega arith) b r.2))

pub rising_sort_up : (n low m : ℕ) (f : ℕ → ℕ) → ((s : ℕ) → s < m → (low ≤ f s) × (f s < n)) → ShortToLong n low (sort_up m f)
rising_sort_up n low zero f h = tt
rising_sort_up n low (suc m) f h =
    rising_insert n low (f m) (sort_up m f) (h m (omega arith)).0 (h m (omega arith)).1 (rising_sort_up n low m f (λ s l. h s (omega arith)))
