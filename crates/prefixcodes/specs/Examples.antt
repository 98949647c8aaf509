-- Document 001's examples of a prefix-free code, and the settings that request 12 opens with. Assumes nothing.
use Rattle.std.specs.Prelude.{◌≡◌, List, [], ◌∷◌, map, ℕ, replicate}
use Rattle.theory.specs.Lists.{names_from}
use Rattle.prefixcodes.specs.Construction.{plan, best_lengths, code_prefix}

-- document 001, example 22, numbers the symbols from light to heavy: p1 ≤ p2 ≤ .. ≤ p9. Here they are p9 first, with p1 = 1, p2 = 2, ..
abbrev pub nine : List ℕ
nine = 9 ∷ 8 ∷ 7 ∷ 6 ∷ 5 ∷ 4 ∷ 3 ∷ 2 ∷ 1 ∷ []

pub record CodeExamples : Type 0 where
  -- "Example 21: Let n = 4 and ℓ = 9, and let the prefix-free code be as shown in Fig. 4(b)."
  pub example_21 : map (code_prefix 4 nine) (names_from 0 9)
      ≡ (1 ∷ []) ∷ (2 ∷ []) ∷ (3 ∷ 1 ∷ []) ∷ (3 ∷ 2 ∷ []) ∷ (3 ∷ 4 ∷ []) ∷ (4 ∷ 1 ∷ []) ∷ (4 ∷ 2 ∷ []) ∷ (4 ∷ 3 ∷ 1 ∷ []) ∷ (4 ∷ 3 ∷ 2 ∷ []) ∷ []
  -- "opt2(4,3) [..] = 3 p1 + 3 p2 + 2 p3 + 2 p4": four symbols in layers 2 and 3, with three vertices in layer 2, which lead two permutations each
  pub example_22 : plan 4 2 (4 ∷ 3 ∷ 2 ∷ 1 ∷ []) 6 ≡ 2 ∷ 2 ∷ 3 ∷ 3 ∷ []
  -- "there are two leaves in layer 1", "five leaves in layer 2", and two are left
  pub example_22_all : best_lengths 4 nine ≡ 1 ∷ 1 ∷ 2 ∷ 2 ∷ 2 ∷ 2 ∷ 2 ∷ 3 ∷ 3 ∷ []
  -- "Three of our settings change weekly and the rest hardly ever": 52 times a year and once, twelve settings on five cells
  pub weekly : best_lengths 5 (52 ∷ 52 ∷ 52 ∷ replicate 9 1) ≡ 1 ∷ 1 ∷ 1 ∷ 2 ∷ 2 ∷ 2 ∷ 2 ∷ 2 ∷ 2 ∷ 2 ∷ 3 ∷ 3 ∷ []
