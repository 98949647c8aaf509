-- Each symbol has the first prefix of its length, lexicographically, that no earlier one starts. Assumes nothing.
use mathlib.Core.Path.{◌≡◌, refl, sym, ap, ◌∙◌, subst}
use mathlib.Core.Bool.{true, false}
use mathlib.Core.Logic.{◌⊎◌, inl, inr}
use mathlib.Core.List.{List, [], ◌∷◌, Lexᴰ}
use Prim.Native.Nat.{ℕ, zero, suc, ◌≤◌, ◌<◌}
use native.Mathlib.Nat.{le_of_suc-le-suc}
use native.Mathlib.Omega.{arith}
use lib.ListN.{length, get_or, take}
use lib.Seq.{take_all}
use Rattle.theory.specs.Lists.{member, begins, names}
use Rattle.theory.specs.Factorial.{factorial}
use Rattle.theory.specs.Prefix.{IsPrefix, prefixes, prefix_at, prefix_number}
use Rattle.theory.specs.Claims.{Numbering}
use Rattle.theory.proofs.Cases.{by_test, by_order}
use Rattle.theory.proofs.Members.{member_get_or}
use Rattle.theory.proofs.Prefixes.{numbering}
use Rattle.prefixcodes.specs.Code.{Ahead}
use Rattle.prefixcodes.specs.Construction.{heavy_first, best_lengths, started, first_free, assign, best_prefixes, index_of, code_prefix}
use Rattle.prefixcodes.proofs.Index.{index_of_lt, get_or_index_of, index_of_get_or}
use Rattle.prefixcodes.proofs.Symbols.{by_weight_member, by_weight_below, by_weight_distinct}
use Rattle.prefixcodes.proofs.Best.{many, lengths_many, code_length, code_best}
use Rattle.prefixcodes.proofs.Sequence.{by_weight_in_turn, in_turn_at}

-- what is found comes no later than any that is free
first_free_found : (taken ps : List (List ℕ)) (i : ℕ) → i < length ps → started taken (get_or ps i []) ≡ false
    → (j : ℕ) × (j ≤ i) × (first_free taken ps ≡ get_or ps j [])
first_free_found taken [] i l h = absurd (omega arith)
first_free_found taken (p ∷ ps) zero l h = (0, omega arith, rw h)
first_free_found taken (p ∷ ps) (suc i) l h =
    by_test (started taken p)
    (λ e. let w = first_free_found taken ps i (le_of_suc-le-suc l) h in (suc w.0, omega (arith, w.1), rw e w.2))
    (λ e. (0, omega arith, rw e))

-- the prefix at an index is the first that none of the earlier ones starts
assign_at : (n : ℕ) (taken : List (List ℕ)) (ls : List ℕ) (k : ℕ) (q : List ℕ) → k < length ls → started taken q ≡ false
    → ((j : ℕ) → j < k → begins (get_or (assign n taken ls) j []) q ≡ false)
    → (earlier : List (List ℕ)) × (get_or (assign n taken ls) k [] ≡ first_free earlier (prefixes (get_or ls k 0) (names n))) × (started earlier q ≡ false)
assign_at n taken [] k q l h f = absurd (omega arith)
assign_at n taken (x ∷ ls) zero q l h f = (taken, refl, h)
assign_at n taken (x ∷ ls) (suc k) q l h f =
    let p : List ℕ = first_free taken (prefixes x (names n)) in
    assign_at n (p ∷ taken) ls k q (le_of_suc-le-suc l) (cc (f 0 (omega arith))) (λ j m. f (suc j) (omega arith))

module _ (n : ℕ) (ws : List ℕ) (two : 2 ≤ n) (few : length ws ≤ factorial n) where
  pub code_first : (s : ℕ) (q : List ℕ) → s < length ws → IsPrefix n (length (code_prefix n ws s)) q
      → ((t : ℕ) → t < length ws → Ahead ws t s → begins (code_prefix n ws t) q ≡ false) → (code_prefix n ws s ≡ q) ⊎ Lexᴰ ◌<◌ (code_prefix n ws s) q
  unfolding code_prefix best_prefixes prefix_at
  code_first s q h is f =
      let ss : List ℕ = heavy_first ws in
      let ls : List ℕ = best_lengths n ws in
      let k : ℕ = index_of s ss in
      let l : ℕ = length (code_prefix n ws s) in
      let here : member s ss ≡ true = by_weight_member ws (length ws) s h in
      let within : k < length ls = omega (arith, index_of_lt s ss here, many n ws two few, lengths_many n ws two few) in
      let long : get_or ls k 0 ≡ l = sym (code_length n ws two few s h) in
      -- the earlier ones are the prefixes of symbols ahead
      let free : (j : ℕ) → j < k → begins (get_or (assign n [] ls) j []) q ≡ false =
      λ j m.
      let t : ℕ = get_or ss j 0 in
      let size : j < length ss = omega (arith, index_of_lt s ss here) in
      let below : t < length ws = by_weight_below ws (length ws) t (member_get_or ss j size) in
      let at : index_of t ss ≡ j = index_of_get_or ss j (by_weight_distinct ws (length ws)) size in
      let ahead : Ahead ws t s = rw (get_or_index_of s ss here) at (in_turn_at ws ss (by_weight_in_turn ws (length ws)) j k m (index_of_lt s ss here)) in
      rw at at (f t below ahead) in
      let got = assign_at n [] ls k q within refl free in
      let numbers : Numbering n l = numbering n l (omega (arith, (code_best n ws two few).choice.short s h)) in
      let whole : take l q ≡ q = take_all l q (omega (arith, is.long)) in
      let i : ℕ = prefix_number n l q in
      let number = numbers.prefix_number_lem q (rw whole is) in
      let mine : prefix_at n l i ≡ q = number.1 ∙ whole in
      let w = first_free_found got.0 (prefixes l (names n)) i number.0 (rw mine got.2) in
      let found : code_prefix n ws s ≡ prefix_at n l w.0 = got.1 ∙ ap (λ (x : ℕ). first_free got.0 (prefixes x (names n))) long ∙ w.2 in
      by_order w.0 i
      (λ less.
      let later : Lexᴰ ◌<◌ (prefix_at n l w.0) q = subst (Lexᴰ ◌<◌ (prefix_at n l w.0)) mine (numbers.lexicographic w.0 i less number.0) in
      inr (subst (λ (p : List ℕ). Lexᴰ ◌<◌ p q) (sym found) later))
      (λ more. absurd (omega (arith, w.1)))
      (λ same. inl (found ∙ ap (prefix_at n l) same ∙ mine))
