-- There is just one code of the kind that is asked for. Assumes nothing.
use mathlib.Core.Path.{◌≡◌, refl, sym, ap, ◌∙◌, subst}
use mathlib.Core.Bool.{true, false≢true}
use mathlib.Core.Logic.{◌⊎◌, ⊎_elim}
use mathlib.Core.List.{List, [], ◌∷◌, map, cons≢nil, Lexᴰ}
use Prim.Native.Nat.{ℕ, zero, suc, ◌≤◌, ◌<◌}
use native.Mathlib.Omega.{arith}
use lib.ListN.{length, get_or, drop}
use Rattle.theory.specs.Lists.{member, begins}
use Rattle.theory.specs.Factorial.{factorial}
use Rattle.theory.proofs.Cases.{by_test, by_name}
use Rattle.theory.proofs.Members.{member_first, member_later}
use Rattle.prefixcodes.specs.Code.{PrefixFree, weighted_length, sorted_lengths, IsBest, Ahead, IsCode}
use Rattle.prefixcodes.specs.Construction.{heavy_first, index_of, code_prefix}
use Rattle.prefixcodes.proofs.Better.{ShortToLong}
use Rattle.prefixcodes.proofs.Symbols.{by_weight_member, by_weight_below, sorted_are}
use Rattle.prefixcodes.proofs.Best.{code_best}
use Rattle.prefixcodes.proofs.Sequence.{HeavyToLight, by_weight_in_turn, not_both, turn, shorter}
use Rattle.prefixcodes.proofs.First.{code_first}

-- nothing comes before the empty list
lex_nil : {p q : List ℕ} → Lexᴰ ◌<◌ p q → q ≡ [] → ⊥
lex_nil Lexᴰ.nil e = cons≢nil e
lex_nil (Lexᴰ.rel l) e = cons≢nil e
lex_nil (Lexᴰ.cons f a) e = cons≢nil e

-- no two lists come before each other
lex_asym : (p q : List ℕ) → Lexᴰ ◌<◌ p q → Lexᴰ ◌<◌ q p → ⊥
lex_asym [] q a b = lex_nil b refl
lex_asym (c ∷ p) [] a b = lex_nil a refl
lex_asym (c ∷ p) (d ∷ q) (Lexᴰ.rel l) (Lexᴰ.rel k) = omega arith
lex_asym (c ∷ p) (d ∷ q) (Lexᴰ.rel l) (Lexᴰ.cons e k) = omega (arith, e)
lex_asym (c ∷ p) (d ∷ q) (Lexᴰ.cons e a) (Lexᴰ.rel k) = omega (arith, e)
lex_asym (c ∷ p) (d ∷ q) (Lexᴰ.cons e a) (Lexᴰ.cons f b) = lex_asym p q a b

-- so where each comes first or is the other, they are the same
first_same : {p q : List ℕ} → (p ≡ q) ⊎ Lexᴰ ◌<◌ p q → (q ≡ p) ⊎ Lexᴰ ◌<◌ q p → p ≡ q
first_same {p} {q} a b = ⊎_elim (λ e. e) (λ k. ⊎_elim (λ e. sym e) (λ l. absurd (lex_asym p q k l)) b) a

-- ahead of itself is none
ahead_other : (ws : List ℕ) (s : ℕ) → Ahead ws s s → ⊥
ahead_other ws s a = not_both ws s s a a

-- lengths that never fall in the symbols' sequence
rising_map : (n low : ℕ) (ws : List ℕ) (f : ℕ → ℕ) (ts : List ℕ) → HeavyToLight ws ts
    → ((s : ℕ) → member s ts ≡ true → (low ≤ f s) × (f s < n))
    → ((s t : ℕ) → member s ts ≡ true → member t ts ≡ true → Ahead ws s t → f s ≤ f t) → ShortToLong n low (map f ts)
rising_map n low ws f [] t b r = tt
rising_map n low ws f (s ∷ ts) t b r =
    let here : member s (s ∷ ts) ≡ true = member_first s ts in (
      (b s here).0,
      (b s here).1,
      rising_map n (f s) ws f ts t.1
          (λ c m. (r s c here (member_later c s ts m) (t.0 c m), (b c (member_later c s ts m)).1))
          (λ c d m k a. r c d (member_later c s ts m) (member_later d s ts k) a),
    )

map_at : (f g : ℕ → ℕ) (ts : List ℕ) → map f ts ≡ map g ts → (s : ℕ) → member s ts ≡ true → f s ≡ g s
map_at f g [] e s m = absurd (false≢true m)
map_at f g (t ∷ ts) e s m =
    by_name s t
    (λ q u. rw q (ap (λ (l : List ℕ). get_or l 0 0) e))
    (λ ne u. map_at f g ts (ap (drop 1) e) s (rw u at m))

module _ (n : ℕ) (ws : List ℕ) (two : 2 ≤ n) (few : length ws ≤ factorial n) where
  pub code_asked : IsCode n ws (code_prefix n ws)
  code_asked = record { best = code_best n ws two few; heavier = shorter n ws two few; first = code_first n ws two few }

  -- the lengths, in the symbols' sequence, are the sorted ones
  in_sequence_lem : (code : ℕ → List ℕ) → IsCode n ws code → sorted_lengths ws code ≡ map (λ s. length (code s)) (heavy_first ws)
  in_sequence_lem code a =
      let below : (s : ℕ) → member s (heavy_first ws) ≡ true → s < length ws = by_weight_below ws (length ws) in
      sorted_are ws (λ s. length (code s)) (length ws) n
      (rising_map n 1 ws (λ s. length (code s)) (heavy_first ws) (by_weight_in_turn ws (length ws))
      (λ s m. (a.best.choice.some s (below s m), a.best.choice.short s (below s m)))
      (λ s t m k h. a.heavier s t (below s m) (below t k) h))

  module _ (code : ℕ → List ℕ) (a : IsCode n ws code) where
    same_sorted : sorted_lengths ws code ≡ sorted_lengths ws (code_prefix n ws)
    same_sorted =
        let b : IsBest n ws (code_prefix n ws) = code_best n ws two few in
        let low : weighted_length ws code ≤ weighted_length ws (code_prefix n ws) = a.best.least (code_prefix n ws) b.choice in
        let high : weighted_length ws (code_prefix n ws) ≤ weighted_length ws code = b.least code a.best.choice in
        first_same (a.best.shortest (code_prefix n ws) b.choice (omega arith)) (b.shortest code a.best.choice (omega arith))

    same_length : (s : ℕ) → s < length ws → length (code s) ≡ length (code_prefix n ws s)
    same_length s h =
        map_at (λ t. length (code t)) (λ t. length (code_prefix n ws t)) (heavy_first ws)
        (sym (in_sequence_lem code a) ∙ same_sorted ∙ in_sequence_lem (code_prefix n ws) code_asked) s (by_weight_member ws (length ws) s h)

    -- one symbol after another, from heavy to light
    same_from : (k s : ℕ) → s < length ws → index_of s (heavy_first ws) < k → code s ≡ code_prefix n ws s
    same_from zero s h l = absurd (omega arith)
    same_from (suc k) s h l =
        let mine : PrefixFree n (length ws) (code_prefix n ws) = (code_best n ws two few).choice in
        let earlier : (t : ℕ) → t < length ws → Ahead ws t s → code t ≡ code_prefix n ws t =
        λ t m b. same_from k t m (omega (arith, turn n ws two few t s m h b)) in
        first_same
        (a.first s (code_prefix n ws s) h (rw (same_length s h) (mine.prefix s h))
        (λ t m b. by_test (begins (code t) (code_prefix n ws s))
        (λ e. absurd (ahead_other ws s (subst (λ (x : ℕ). Ahead ws x s) (mine.free t s m h (rw (earlier t m b) at e)) b)))
        (λ e. e)))
        (code_asked.first s (code s) h (rw (← same_length s h) (a.best.choice.prefix s h))
        (λ t m b. by_test (begins (code_prefix n ws t) (code s))
        (λ e. absurd (ahead_other ws s (subst (λ (x : ℕ). Ahead ws x s) (a.best.choice.free t s m h (rw (← earlier t m b) at e)) b)))
        (λ e. e)))

    pub code_only : (s : ℕ) → s < length ws → code s ≡ code_prefix n ws s
    code_only s h = same_from (suc (index_of s (heavy_first ws))) s h (omega arith)
