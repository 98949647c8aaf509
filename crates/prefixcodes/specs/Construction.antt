-- The code of request 12, worked out: symbols from heavy to light, the lengths of their prefixes, and the prefixes. That this is the code which is asked for,
-- and the only one, is claimed in `specs/Claims`. Assumes nothing.
use Rattle.std.specs.Prelude.{Bool, false, cond, ◌||◌, List, [], ◌∷◌, map, ℕ, zero, suc, ◌+◌, ◌-◌, ◌*◌, leb, length, get_or, replicate}
use Rattle.theory.specs.Lists.{begins, names}
use Rattle.theory.specs.Least.{least}
use Rattle.theory.specs.Factorial.{factorial}
use Rattle.theory.specs.Permutation.{place_of}
use Rattle.theory.specs.Prefix.{prefixes}
use Rattle.prefixcodes.specs.Code.{weight_of}

-- ---- the symbols, from heavy to light

-- each goes behind those that are as heavy
abbrev pub insert_by_weight : List ℕ → ℕ → List ℕ → List ℕ
insert_by_weight ws s [] = s ∷ []
insert_by_weight ws s (t ∷ ts) = cond (leb (weight_of ws s) (weight_of ws t)) (t ∷ insert_by_weight ws s ts) (s ∷ t ∷ ts)

-- symbols 0 to m - 1
abbrev pub by_weight : List ℕ → ℕ → List ℕ
by_weight ws zero = []
by_weight ws (suc m) = insert_by_weight ws m (by_weight ws m)

abbrev pub heavy_first : List ℕ → List ℕ
heavy_first ws = by_weight ws (length ws)

-- ---- the lengths of their prefixes

-- weight times length, summed
abbrev pub dot : List ℕ → List ℕ → ℕ
dot [] ls = 0
dot (w ∷ ws) [] = 0
dot (w ∷ ws) (l ∷ ls) = w * l + dot ws ls

-- Document 001 takes leaves of a tree, layer by layer. Symbols of weights ws, from heavy to light, are left for layer l and those below it, which have b permutations left;
-- a prefix of length l takes u = (n - l)! of them. Where all can have length l, they get it. Otherwise the first gets l, where that leaves a permutation for each of the
-- others and the sum is no larger for it; else all get longer ones
abbrev pub layer : (List ℕ → ℕ → List ℕ) → ℕ → ℕ → List ℕ → ℕ → List ℕ
layer deeper l u [] b = []
layer deeper l u (w ∷ ws) b =
    cond (leb (suc (length ws) * u) b) (replicate (suc (length ws)) l)
    (cond (leb (length ws + u) b)
    (cond (leb (dot (w ∷ ws) (l ∷ layer deeper l u ws (b - u))) (dot (w ∷ ws) (deeper (w ∷ ws) b)))
    (l ∷ layer deeper l u ws (b - u))
    (deeper (w ∷ ws) b))
    (deeper (w ∷ ws) b))

-- lengths from n - h on
abbrev pub plan : ℕ → ℕ → List ℕ → ℕ → List ℕ
plan n zero ws b = []
plan n (suc h) ws b = layer (plan n h) (n - suc h) (factorial (suc h)) ws b

unfoldable pub best_lengths : ℕ → List ℕ → List ℕ
best_lengths n ws = plan n (n - 1) (map (weight_of ws) (heavy_first ws)) (factorial n)

-- ---- the prefixes

-- is one of those taken the start of p?
abbrev pub started : List (List ℕ) → List ℕ → Bool
started [] p = false
started (t ∷ taken) p = begins t p || started taken p

abbrev pub first_free : List (List ℕ) → List (List ℕ) → List ℕ
first_free taken [] = []
first_free taken (p ∷ ps) = cond (started taken p) (first_free taken ps) p

-- "each symbol gets the first prefix of its length, lexicographically, that no earlier one starts"
abbrev pub assign : ℕ → List (List ℕ) → List ℕ → List (List ℕ)
assign n taken [] = []
assign n taken (l ∷ ls) = first_free taken (prefixes l (names n)) ∷ assign n (first_free taken (prefixes l (names n)) ∷ taken) ls

unfoldable pub best_prefixes : ℕ → List ℕ → List (List ℕ)
best_prefixes n ws = assign n [] (best_lengths n ws)

-- the index of a symbol in a sequence of symbols
abbrev pub index_of : ℕ → List ℕ → ℕ
index_of s ss = place_of s ss - 1

-- the prefix of symbol s stands where s stands among the symbols from heavy to light
unfoldable pub code_prefix : ℕ → List ℕ → ℕ → List ℕ
code_prefix n ws s = get_or (best_prefixes n ws) (index_of s (heavy_first ws)) []

-- reading gives the symbol whose prefix leads the permutation, and where none does, the number of symbols
unfoldable pub code_symbol : ℕ → List ℕ → List ℕ → ℕ
code_symbol n ws xs = least (λ s. begins (code_prefix n ws s) xs) (length ws)
