-- Lists one after another, each after the same cells. Assumes nothing.
use mathlib.Core.Path.{◌≡◌, refl, ap, sym, ◌∙◌}
use mathlib.Core.List.{List, [], ◌∷◌, ◌++◌, map, flat_map, flatten, append_assoc}
use Prim.Native.Nat.{ℕ}
use Rattle.reach.specs.Led.{each_after}

after_append : (q : List ℕ) (ts us : List (List ℕ)) → each_after q (ts ++ us) ≡ each_after q ts ++ each_after q us
unfolding flatten
after_append q [] us = refl
after_append q (t ∷ ts) us =
    ap (λ (l : List ℕ). q ++ t ++ l) (after_append q ts us) ∙ sym (append_assoc (q ++ t) (each_after q ts) (each_after q us))

-- after no cell
pub after_none : (ts : List (List ℕ)) → each_after [] ts ≡ flatten ts
unfolding flatten
after_none [] = refl
after_none (t ∷ ts) = ap (λ (l : List ℕ). t ++ l) (after_none ts)

-- after one cell more
pub after_more : (q : List ℕ) (c : ℕ) (ts : List (List ℕ)) → each_after q (map (λ t. c ∷ t) ts) ≡ each_after (q ++ c ∷ []) ts
unfolding flatten
after_more q c [] = refl
after_more q c (t ∷ ts) = cc (append_assoc q (c ∷ []) t, after_more q c ts)

-- the lists for numbers in turn
pub after_flat_map :
    (q : List ℕ) (f : ℕ → List (List ℕ)) (cs : List ℕ) → each_after q (flat_map f cs) ≡ flat_map (λ c. each_after q (f c)) cs
unfolding flat_map flatten
after_flat_map q f [] = refl
after_flat_map q f (c ∷ cs) =
    after_append q (f c) (flat_map f cs) ∙ ap (λ (l : List ℕ). each_after q (f c) ++ l) (after_flat_map q f cs)
