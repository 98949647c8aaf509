-- Document 02, request 6, "Orders within reach": the permutations by their least number of pushes from the present one. Assumes nothing.
use Rattle.std.specs.Prelude.{Bool, cond, ℕ, ◌+◌, eqb, length}
use mathlib.Core.List.{List, [], ◌∷◌, flat_map}
use Rattle.theory.specs.Lists.{names_from, names}
use Rattle.theory.specs.Rewrite.{rewrite_count}
use Rattle.theory.specs.Prefix.{prefixes}

-- the entries for which a test holds, in their sequence
abbrev pub keep : (List ℕ → Bool) → List (List ℕ) → List (List ℕ)
keep test [] = []
keep test (t ∷ ts) = cond (test t) (t ∷ keep test ts) (keep test ts)

-- all permutations of some cells, whose names ascend, in lexicographic sequence: the prefixes that have them all
abbrev pub all_permutations : List ℕ → List (List ℕ)
all_permutations cells = prefixes (length cells) cells

-- those "whose least number of pushes from the present one", xs, is d: that of a rewrite, which `Rewriting.fewest` shows to be least; `Claims` says it by pushes alone
unfoldable pub at_distance : List ℕ → List ℕ → ℕ → List (List ℕ)
at_distance cells xs d = keep (λ t. eqb (rewrite_count xs t) d) (all_permutations cells)

-- of n cells, those for which it "is at most r": 0, 1, .., r. "Fewest pushes come first, then lexicographic sequence."
unfoldable pub within_reach : ℕ → List ℕ → ℕ → List (List ℕ)
within_reach n xs r = flat_map (at_distance (names n) xs) (names_from 0 (r + 1))
