-- The code of weighted symbols is the best of all choices. Assumes nothing.
use Prim.Native.Nat.{ℕ, zero, suc, ◌+◌, ◌-◌, ◌≤◌, ◌<◌}
use mathlib.Core.Path.{◌≡◌, refl, sym, ap, ◌∙◌}
use mathlib.Core.Bool.{true}
use mathlib.Core.List.{List, [], ◌∷◌, map}
use native.Mathlib.Omega.{arith}
use native.Mathlib.Nat.{le_of_suc-le-suc}
use lib.ListN.{length, get_or, take, length-map}
use Rattle.theory.specs.Lists.{begins, names}
use Rattle.theory.specs.Factorial.{factorial}
use Rattle.theory.specs.Prefix.{IsPrefix}
use Rattle.theory.proofs.Cases.{by_order}
use Rattle.theory.proofs.Factorials.{factorial_pos}
use Rattle.theory.proofs.Names.{names_length, names_low, names_high}
use Rattle.theory.proofs.Numbering.{Over}
use Rattle.theory.proofs.Prefixes.{names_distinct}
use Rattle.prefixcodes.specs.Code.{PrefixFree, weight_of, weighted_length, sorted_lengths, IsBest}
use Rattle.prefixcodes.specs.Construction.{heavy_first, dot, best_lengths, assign, best_prefixes, index_of, code_prefix}
use Rattle.prefixcodes.specs.Leaves.{leaves}
use Rattle.prefixcodes.proofs.Index.{index_of_lt, get_or_index_of}
use Rattle.prefixcodes.proofs.Better.{ShortToLong, NoWorse, upto_first}
use Rattle.prefixcodes.proofs.Plan.{Planned, plan_planned}
use Rattle.prefixcodes.proofs.Arrange.{sorted_least, by_weight_length, sort_up_length}
use Rattle.prefixcodes.proofs.LedBlock.{first_led, many_led, led_nested}
use Rattle.prefixcodes.proofs.Room.{choice_fits}
use Rattle.prefixcodes.proofs.Assign.{Block, Blocks, placed, assign_placed}
use Rattle.prefixcodes.proofs.Symbols.{by_weight_member, by_weight_below, by_weight_distinct, sum_dot, sorted_are, map_index}

over_prefix : {n : ℕ} {q : List ℕ} → Over (names n) q → IsPrefix n (length q) q
over_prefix {n} h = record {
  long = refl;
  distinct = h.distinct;
  named = λ c m. (names_low 1 n c (h.named c m), omega (arith, names_high 1 n c (h.named c m)));
}

-- an entry of blocks one behind another
module _ (n : ℕ) where
  pub block_of : (t : ℕ) (ls : List ℕ) (ps : List (List ℕ)) → Blocks n t ls ps → (k : ℕ) → k < length ls
      → Block n (t + leaves n (take k ls)) (get_or ls k 0) (get_or ps k [])
  block_of t [] ps b k h = absurd (omega arith)
  block_of t (l ∷ ls) [] b k h = absurd b
  block_of t (l ∷ ls) (p ∷ ps) b zero h = let e : t + 0 ≡ t = omega arith in rw e b.0
  block_of t (l ∷ ls) (p ∷ ps) b (suc k) h =
      let e : t + factorial (n - l) + leaves n (take k ls) ≡ t + (factorial (n - l) + leaves n (take k ls)) = omega arith in
      rw e at (block_of (t + factorial (n - l)) ls ps b.1 k (le_of_suc-le-suc h))

  blocks_apart : (t : ℕ) (ls : List ℕ) (ps : List (List ℕ)) → Blocks n t ls ps → (i j : ℕ) → i < j → j < length ls
      → first_led (names n) (get_or ps i []) + factorial (n - get_or ls i 0) ≤ first_led (names n) (get_or ps j [])
  blocks_apart t [] ps b i j h l = absurd (omega arith)
  blocks_apart t (k ∷ ls) [] b i j h l = absurd b
  blocks_apart t (k ∷ ls) (p ∷ ps) b i zero h l = absurd (omega arith)
  blocks_apart t (k ∷ ls) (p ∷ ps) b zero (suc j) h l =
      omega (arith, (block_of (t + factorial (n - k)) ls ps b.1 j (le_of_suc-le-suc l)).at, b.0.at)
  blocks_apart t (k ∷ ls) (p ∷ ps) b (suc i) (suc j) h l =
      blocks_apart (t + factorial (n - k)) ls ps b.1 i j (le_of_suc-le-suc h) (le_of_suc-le-suc l)

pub rising_at : (n low : ℕ) (ls : List ℕ) → ShortToLong n low ls → (k : ℕ) → k < length ls → (low ≤ get_or ls k 0) × (get_or ls k 0 < n)
rising_at n low [] r k h = absurd (omega arith)
rising_at n low (l ∷ ls) r zero h = (r.0, r.1)
rising_at n low (l ∷ ls) r (suc k) h = let w = rising_at n l ls r.2 k (le_of_suc-le-suc h) in (omega (arith, r.0, w.0), w.1)

-- Lengths that rise, and lead no more than all permutations, are realised: each index has a prefix of its length, and none is the start of another
module _ (n : ℕ) (ls : List ℕ) (r : ShortToLong n 1 ls) (room : leaves n ls ≤ factorial n) where
  pub assigned_blocks : Blocks n 0 ls (assign n [] ls)
  assigned_blocks = rw (assign_placed n ls r room).0 (assign_placed n ls r room).1

  pub assigned : (k : ℕ) → k < length ls → Block n (leaves n (take k ls)) (get_or ls k 0) (get_or (assign n [] ls) k [])
  assigned k h = let e : 0 + leaves n (take k ls) ≡ leaves n (take k ls) = omega arith in rw e at (block_of n 0 ls (assign n [] ls) assigned_blocks k h)

  not_start : (i j : ℕ) → i < length ls → j < length ls → begins (get_or (assign n [] ls) i []) (get_or (assign n [] ls) j []) ≡ true → i ≡ j
  not_start i j hi hj b =
      let p : List ℕ = get_or (assign n [] ls) i [] in
      let q : List ℕ = get_or (assign n [] ls) j [] in
      let bi = assigned i hi in
      let bj = assigned j hj in
      let inside = led_nested (names n) p q (names_distinct n) bi.prefix bj.prefix b in
      let span_i : many_led (names n) p ≡ factorial (n - get_or ls i 0) = cc (names_length 1 n, bi.size) in
      let pos : 0 < many_led (names n) q = factorial_pos (length (names n) - length q) in
      by_order i j
      (λ h. absurd (omega (arith, blocks_apart n 0 ls (assign n [] ls) assigned_blocks i j h hj, inside.1)))
      (λ h. absurd (omega (arith, blocks_apart n 0 ls (assign n [] ls) assigned_blocks j i h hi, inside.0, factorial_pos (n - get_or ls j 0))))
      (λ e. e)

  pub assigned_length : (k : ℕ) → k < length ls → length (get_or (assign n [] ls) k []) ≡ get_or ls k 0
  assigned_length k h = (assigned k h).size

  pub assigned_choice : PrefixFree n (length ls) (λ k. get_or (assign n [] ls) k [])
  assigned_choice =
      record {
        prefix = λ k h. over_prefix (assigned k h).prefix;
        some = λ k h. omega (arith, assigned_length k h, (rising_at n 1 ls r k h).0);
        short = λ k h. omega (arith, assigned_length k h, (rising_at n 1 ls r k h).1);
        free = not_start;
      }

module _ (n : ℕ) (ws : List ℕ) (two : 2 ≤ n) (few : length ws ≤ factorial n) where
  pub many : length (heavy_first ws) ≡ length ws
  many = by_weight_length ws (length ws)

  count : length (map (weight_of ws) (heavy_first ws)) ≡ length ws
  count = length-map (heavy_first ws) (weight_of ws) ∙ many

  pub planned : Planned n 1 (map (weight_of ws) (heavy_first ws)) (factorial n) (best_lengths n ws)
  unfolding best_lengths
  planned =
      let one : n - (n - 1) ≡ 1 = omega arith in
      rw one at (plan_planned n (n - 1) (map (weight_of ws) (heavy_first ws)) (factorial n) (omega arith) (omega arith) (omega (arith, count)))

  pub lengths_many : length (best_lengths n ws) ≡ length ws
  lengths_many = planned.fits.size ∙ count

  pub prefixes_placed : (best_prefixes n ws ≡ placed n 0 (best_lengths n ws)) × Blocks n 0 (best_lengths n ws) (placed n 0 (best_lengths n ws))
  unfolding best_prefixes
  prefixes_placed = assign_placed n (best_lengths n ws) planned.fits.rising planned.fits.room

  place : (s : ℕ) → s < length ws → index_of s (heavy_first ws) < length (best_lengths n ws)
  place s h = omega (arith, index_of_lt s (heavy_first ws) (by_weight_member ws (length ws) s h), many, lengths_many)

  -- the prefixes in the symbols' sequence are a choice
  in_order : PrefixFree n (length (best_lengths n ws)) (λ k. get_or (best_prefixes n ws) k [])
  unfolding best_prefixes
  in_order = assigned_choice n (best_lengths n ws) planned.fits.rising planned.fits.room

  -- a symbol's prefix has the length that stands where the symbol stands
  pub code_length : (s : ℕ) → s < length ws → length (code_prefix n ws s) ≡ get_or (best_lengths n ws) (index_of s (heavy_first ws)) 0
  unfolding best_prefixes code_prefix
  code_length s h = assigned_length n (best_lengths n ws) planned.fits.rising planned.fits.room (index_of s (heavy_first ws)) (place s h)

  code_choice : PrefixFree n (length ws) (code_prefix n ws)
  unfolding code_prefix
  code_choice =
      record {
        prefix = λ s h. in_order.prefix (index_of s (heavy_first ws)) (place s h);
        some = λ s h. in_order.some (index_of s (heavy_first ws)) (place s h);
        short = λ s h. in_order.short (index_of s (heavy_first ws)) (place s h);
        free = λ s t h k b.
            sym (get_or_index_of s (heavy_first ws) (by_weight_member ws (length ws) s h))
            ∙ ap (λ (i : ℕ). get_or (heavy_first ws) i 0) (in_order.free (index_of s (heavy_first ws)) (index_of t (heavy_first ws)) (place s h) (place t k) b)
            ∙ get_or_index_of t (heavy_first ws) (by_weight_member ws (length ws) t k);
      }

  -- the lengths of the prefixes, in the symbols' sequence
  in_sequence_lem : map (λ s. length (code_prefix n ws s)) (heavy_first ws) ≡ best_lengths n ws
  in_sequence_lem = map_index (λ s. length (code_prefix n ws s)) (heavy_first ws) (best_lengths n ws) (by_weight_distinct ws (length ws)) (lengths_many ∙ sym many)
      (λ s m. code_length s (by_weight_below ws (length ws) s m))

  code_cost : weighted_length ws (code_prefix n ws) ≡ dot (map (weight_of ws) (heavy_first ws)) (best_lengths n ws)
  code_cost = sum_dot ws (λ s. length (code_prefix n ws s)) (length ws) ∙ ap (dot (map (weight_of ws) (heavy_first ws))) in_sequence_lem

  pub code_sorted : sorted_lengths ws (code_prefix n ws) ≡ best_lengths n ws
  code_sorted = sorted_are ws (λ s. length (code_prefix n ws s)) (length ws) n (rw in_sequence_lem planned.fits.rising) ∙ in_sequence_lem

  module _ (other : ℕ → List ℕ) (h : PrefixFree n (length ws) other) where
    better : NoWorse (map (weight_of ws) (heavy_first ws)) (best_lengths n ws) (sorted_lengths ws other)
    better = planned.least (sorted_lengths ws other) (rw count (choice_fits n (length ws) other h))

    sorted_cost : dot (map (weight_of ws) (heavy_first ws)) (sorted_lengths ws other) ≤ weighted_length ws other
    sorted_cost = sorted_least ws (length ws) (λ s. length (other s))

  pub code_best : IsBest n ws (code_prefix n ws)
  code_best =
      record {
        choice = code_choice;
        least = λ other h. omega (arith, code_cost, (better other h).0, sorted_cost other h);
        shortest = λ other h e.
            upto_first (sorted_lengths ws (code_prefix n ws)) (sorted_lengths ws other)
            (sort_up_length (length ws) _ ∙ sym (sort_up_length (length ws) _))
            (rw code_sorted ((better other h).1 (omega (arith, code_cost, (better other h).0, sorted_cost other h))));
      }
