-- The symbol of a permutation, by the number that the permutation has among all in lexicographic sequence. Assumes nothing.
use mathlib.Core.Path.{◌≡◌, refl, sym, ap, ◌∙◌}
use mathlib.Core.Bool.{true}
use mathlib.Core.Logic.{⊎_elim}
use mathlib.Core.List.{List}
use Prim.Native.Nat.{ℕ, ◌+◌, ◌-◌, ◌≤◌, ◌<◌}
use native.Mathlib.Omega.{arith}
use native.Mathlib.Numerals.{add-one}
use borrow.Author.Tests.{lt-ltb, le-ltb}
use lib.ListN.{length, take, get_or}
use lib.Seq.{get_or-take, take_all}
use Rattle.theory.specs.Reasons.{idle}
use Rattle.theory.specs.Lists.{begins, names}
use Rattle.theory.specs.Factorial.{factorial}
use Rattle.theory.specs.Permutation.{IsPermutation}
use Rattle.theory.specs.Prefix.{IsPrefix, prefix_number}
use Rattle.theory.proofs.Cases.{by_test, by_le}
use Rattle.theory.proofs.Members.{member_get_or}
use Rattle.theory.proofs.Names.{names_length}
use Rattle.theory.proofs.Numbering.{number_of, Over}
use Rattle.theory.proofs.Prefixes.{names_distinct, prefix_over, permutation_prefix, prefix_number_number_of}
use Rattle.symbols.specs.declared.answers.Symbol.{Symbol}
use Rattle.prefixcodes.specs.Construction.{heavy_first, best_lengths, index_of, code_prefix, code_symbol}
use Rattle.prefixcodes.specs.Leaves.{leaves}
use Rattle.uneven.specs.Codebook.{HasCode, HoldsCode, IndexLed, uneven_read}
use Rattle.prefixcodes.proofs.Index.{index_of_get_or}
use Rattle.prefixcodes.proofs.LedBlock.{first_led, many_led, led_nested, led_apart, first_number_lem, begins_back}
use Rattle.prefixcodes.proofs.Arrange.{by_weight_length}
use Rattle.prefixcodes.proofs.Assign.{Block}
use Rattle.prefixcodes.proofs.Symbols.{by_weight_below, by_weight_distinct}
use Rattle.uneven.proofs.Totals.{leaves_step}
use Rattle.uneven.proofs.AheadCount.{index_within}
use Rattle.uneven.proofs.Booking.{leaves_part, size, best_short, block_code}
use Rattle.prefixcodes.proofs.Claims.{code_read_lem, code_leads}

-- ---- where a permutation lies
module _ (n : ℕ) (xs : List ℕ) (o : IsPermutation n xs) where
  is_prefix : IsPrefix n n xs
  is_prefix = rw (take_all n xs (omega (arith, o.long))) at (permutation_prefix n xs (omega arith) o)

  over : Over (names n) xs
  over = prefix_over is_prefix

  one : many_led (names n) xs ≡ 1
  one = let none : length (names n) - length xs ≡ 0 = omega (arith, names_length 1 n, o.long) in rw none refl

  number_is : first_led (names n) xs ≡ prefix_number n n xs
  number_is =
      let whole : take n xs ≡ xs = take_all n xs (omega (arith, o.long)) in
      first_number_lem (names n) xs (names_distinct n) over
      ∙ rw one (omega arith)
      ∙ ap (number_of (names n)) (sym whole)
      ∙ sym (prefix_number_number_of n n xs (rw whole is_prefix))

  -- a prefix that leads it has its number in its block, and the other way round
  module _ {t l : ℕ} {p : List ℕ} (b : Block n t l p) (short : l < n) where
    size_is : many_led (names n) p ≡ factorial (n - l)
    size_is = cc (names_length 1 n, b.size)

    pub led_inside : begins p xs ≡ true → (t ≤ prefix_number n n xs) × (prefix_number n n xs < t + factorial (n - l))
    led_inside e =
        let inside = led_nested (names n) p xs (names_distinct n) b.prefix over e in
        (omega (arith, inside.0, b.at, number_is), omega (arith, inside.1, b.at, number_is, one, size_is))

    pub inside_led : t ≤ prefix_number n n xs → prefix_number n n xs < t + factorial (n - l) → begins p xs ≡ true
    inside_led low high =
        by_test (begins p xs) (λ e. e) (λ e.
        by_test (begins xs p)
        (λ r. begins_back xs p r (omega (arith, b.size, o.long)))
        (λ r. absurd (⊎_elim
        (λ a. omega (arith, a, b.at, number_is, size_is))
        (λ a. omega (arith, a, b.at, number_is, one))
        (led_apart (names n) p xs (names_distinct n) b.prefix over e r))))

-- ---- by the rows of a codebook

module _ {n : ℕ} {ws symbols lengths xs : List ℕ} (v : HasCode n ws) (holds : HoldsCode n ws symbols lengths) (o : IsPermutation n xs)
    {k number : ℕ} (is : number ≡ prefix_number n n xs) (led : IndexLed n (take (length ws) lengths) number k) where
  abbrev ls : List ℕ
  ls = best_lengths n ws

  many : length ls ≡ length ws
  many = size v holds

  led_is : IndexLed n ls (prefix_number n n xs) k
  led_is = rw (holds.lengths_are, is) at led

  -- the symbol at the index
  module _ (h : k < length ws) where
    abbrev s : ℕ
    s = get_or (heavy_first ws) k 0

    below : s < length ws
    below = by_weight_below ws (length ws) s (member_get_or (heavy_first ws) k (omega (arith, by_weight_length ws (length ws))))

    index_is : index_of s (heavy_first ws) ≡ k
    index_is = index_of_get_or (heavy_first ws) k (by_weight_distinct ws (length ws)) (omega (arith, by_weight_length ws (length ws)))

    leads : begins (code_prefix n ws s) xs ≡ true
    leads =
        let b : Block n (leaves n (take k ls)) (get_or ls k 0) (code_prefix n ws s) = rw index_is at (block_code v holds s below) in
        inside_led n xs o b (best_short v holds k h) led_is.from
        (omega (arith, rw (← add-one k) at (led_is.before (omega (arith, many))), leaves_step n ls k (omega (arith, many))))

    pub symbol_found : get_or symbols k 0 ≡ code_symbol n ws xs
    symbol_found =
        sym (get_or-take (length ws) symbols k 0 h)
        ∙ ap (λ (ss : List ℕ). get_or ss k 0) holds.symbols_are
        ∙ sym (code_read_lem n ws v.few v.fits s xs below leads)

  -- there is none: its number lies past all blocks
  pub none_found : length ws ≤ k → length ws ≤ code_symbol n ws xs
  none_found h =
      by_le (length ws) (code_symbol n ws xs)
      (λ l. l)
      (λ l.
      let t : ℕ = code_symbol n ws xs in
      let i : ℕ = index_of t (heavy_first ws) in
      let at : i < length ws = index_within ws t l in
      let inside = led_inside n xs o (block_code v holds t l) (best_short v holds i at) (code_leads n ws v.few v.fits xs l) in
      let past : leaves n ls ≤ prefix_number n n xs = rw (take_all k ls (omega (arith, many))) at led_is.from in
      absurd (omega (arith, inside.1, leaves_part n ls i (omega (arith, many)))))

  -- the answers
  pub read_idle : length ws ≤ k → ◌≡◌ {A = Symbol} (record { number = idle; symbol = 0 }) (uneven_read n ws xs)
  unfolding uneven_read
  read_idle h = rw (le-ltb (code_symbol n ws xs) (length ws) (none_found h))

  pub read_found : (h : k < length ws) {x : ℕ} → x ≡ get_or symbols k 0 → ◌≡◌ {A = Symbol} (record { number = 0; symbol = x }) (uneven_read n ws xs)
  unfolding uneven_read
  read_found h e =
      let found : code_symbol n ws xs ≡ s h = code_read_lem n ws v.few v.fits (s h) xs (below h) (leads h) in
      rw (lt-ltb (code_symbol n ws xs) (length ws) (omega (arith, found, below h)), e, symbol_found h)
