-- What the code keeps: the two rows of a codebook, and a symbol's prefix and the symbol of a permutation by them. Assumes nothing.
use mathlib.Core.Path.{◌≡◌, refl, sym, ap, ◌∙◌}
use mathlib.Core.List.{List, [], ◌∷◌}
use Prim.Native.Nat.{ℕ, zero, suc, ◌+◌, ◌-◌, ◌*◌, ◌/◌, ◌≤◌, ◌<◌}
use native.Mathlib.Omega.{arith}
use native.Mathlib.Nat.{le_of_suc-le-suc, div-eq_of_eq-mul_left}
use lib.ListN.{length, take, get_or}
use lib.Seq.{length-take-le, get_or-take, take-take}
use Rattle.theory.specs.Lists.{names}
use Rattle.theory.specs.Factorial.{factorial, falling}
use Rattle.theory.specs.Permutation.{row}
use Rattle.theory.specs.Prefix.{prefix_at}
use Rattle.theory.proofs.Factorials.{factorial_pos}
use Rattle.theory.proofs.Names.{names_length}
use Rattle.theory.proofs.Numbering.{prefix_of, number_of, number_of_below, prefix_of_number_of}
use Rattle.theory.proofs.Prefixes.{names_distinct, prefix_at_digits}
use Rattle.symbols.specs.declared.answers.Prefixed.{Prefixed}
use Rattle.symbols.proofs.PrefixRows.{with_others}
use Rattle.prefixcodes.specs.Construction.{heavy_first, best_lengths, best_prefixes, index_of, code_prefix}
use Rattle.prefixcodes.specs.Leaves.{leaves}
use Rattle.uneven.specs.Codebook.{HasCode, HoldsSorted, PlanGiven, HoldsCode, symbol_row}
use Rattle.uneven.specs.declared.lengths.Plan.{Plan}
use Rattle.prefixcodes.proofs.Better.{ShortToLong}
use Rattle.prefixcodes.proofs.LedBlock.{first_number_lem}
use Rattle.prefixcodes.proofs.Assign.{Block}
use Rattle.prefixcodes.proofs.Best.{rising_at, assigned, planned, lengths_many}
use Rattle.uneven.proofs.AheadCount.{index_within}

-- ---- the rows are made

pub heavy_many : {n : ℕ} {ws : List ℕ} → HasCode n ws → (heavy : List ℕ) → length heavy ≡ 64 → length (take (length ws) heavy) ≡ length ws
heavy_many {n} {ws} v heavy long = length-take-le (length ws) heavy (omega (arith, v.most))

module _ {n all : ℕ} {ws symbols heavy : List ℕ} (v : HasCode n ws) (all_is : all ≡ factorial n) (s : HoldsSorted ws symbols heavy) (long : length heavy ≡ 64) where
  abbrev weights : List ℕ
  weights = take (length ws) heavy

  many : length weights ≡ length ws
  many = heavy_many v heavy long

  pub codes_held : {r : Plan} → length symbols ≡ 64 → PlanGiven n (n - 1) weights 0 all r → HoldsCode n ws symbols r.lengths
  unfolding best_lengths
  codes_held long_symbols g =
      let count : length weights - 0 ≡ length ws = omega (arith, many) in
      record {
        symbols_long = long_symbols;
        lengths_long = g.long;
        symbols_are = s.symbols_are;
        lengths_are = rw (count, s.heavy_are, all_is) at g.lengths_are;
      }

-- ---- a symbol's prefix by them

pub leaves_part : (n : ℕ) (ls : List ℕ) (k : ℕ) → k < length ls → leaves n (take k ls) + factorial (n - get_or ls k 0) ≤ leaves n ls
leaves_part n [] k h = absurd (omega arith)
leaves_part n (l ∷ ls) zero h = omega arith
leaves_part n (l ∷ ls) (suc k) h = omega (arith, leaves_part n ls k (le_of_suc-le-suc h))

module _ {n : ℕ} {ws symbols lengths : List ℕ} (v : HasCode n ws) (holds : HoldsCode n ws symbols lengths) where
  abbrev ls : List ℕ
  ls = best_lengths n ws

  two : 2 ≤ n
  two = v.few

  rises : ShortToLong n 1 ls
  rises = (planned n ws two v.fits).fits.rising

  room : leaves n ls ≤ factorial n
  room = (planned n ws two v.fits).fits.room

  pub size : length ls ≡ length ws
  size = lengths_many n ws two v.fits

  entry : (i : ℕ) → i < length ws → get_or lengths i 0 ≡ get_or ls i 0
  entry i l = sym (get_or-take (length ws) lengths i 0 l) ∙ ap (λ (xs : List ℕ). get_or xs i 0) holds.lengths_are

  front : (k : ℕ) → k ≤ length ws → take k lengths ≡ take k ls
  front k h = sym (take-take k (length ws) lengths h) ∙ ap (take k) holds.lengths_are

  pub best_short : (i : ℕ) → i < length ws → get_or ls i 0 < n
  best_short i l = (rising_at n 1 ls rises i (omega (arith, size))).1

  pub length_short : (i : ℕ) → i < length ws → get_or lengths i 0 < n
  length_short i l = omega (arith, entry i l, best_short i l)

  -- the block of the prefix at index k
  block : (k : ℕ) → k < length ws → Block n (leaves n (take k ls)) (get_or ls k 0) (get_or (best_prefixes n ws) k [])
  unfolding best_prefixes
  block k h = assigned n ls rises room k (omega (arith, size))

  pub block_code : (s : ℕ) → s < length ws → let k = index_of s (heavy_first ws) in Block n (leaves n (take k ls)) (get_or ls k 0) (code_prefix n ws s)
  unfolding code_prefix
  block_code s h = block (index_of s (heavy_first ws)) (index_within ws s h)

  -- symbol s, at index k
  module _ (s : ℕ) (h : s < length ws) {k : ℕ} (e : k ≡ index_of s (heavy_first ws)) where
    pub place : k < length ws
    place = omega (arith, index_within ws s h)

    -- the prefixes before it lead so many
    abbrev before : ℕ
    before = leaves n (take k lengths)

    abbrev l : ℕ
    l = get_or lengths k 0

    here : Block n before l (code_prefix n ws s)
    here = rw (front k (omega (arith, place)), entry k place, e) (block_code s h)

    number_is : before ≡ number_of (names n) (code_prefix n ws s) * factorial (n - l)
    number_is =
        sym here.at ∙ first_number_lem (names n) (code_prefix n ws s) (names_distinct n) here.prefix
        ∙ ap (λ (x : ℕ). number_of (names n) (code_prefix n ws s) * x) (cc (names_length 1 n, here.size))

    pub number_found : before / factorial (n - l) ≡ number_of (names n) (code_prefix n ws s)
    number_found = div-eq_of_eq-mul_left (factorial_pos (n - l)) number_is

    pub number_fits : before / factorial (n - l) < falling n l
    number_fits =
        rw number_found (rw (names_length 1 n, here.size) at (number_of_below (names n) (code_prefix n ws s) (names_distinct n) here.prefix))

    pub prefix_found : prefix_at n l (before / factorial (n - l)) ≡ code_prefix n ws s
    prefix_found =
        prefix_at_digits n l (before / factorial (n - l)) number_fits
        ∙ ap (prefix_of l (names n)) number_found
        ∙ rw here.size at (prefix_of_number_of (names n) (code_prefix n ws s) (names_distinct n) here.prefix)

    pub prefix_length_lem : length (code_prefix n ws s) ≡ l
    prefix_length_lem = here.size

    -- by what the code has worked out
    module _ {p : ℕ} (p_is : p ≡ l) where
      pub prefix_short : p < n
      prefix_short = omega (arith, length_short k place)

      module _ {led unit : ℕ} (led_is : led ≡ before) (unit_is : unit ≡ factorial (n - p)) where
        pub unit_some : 0 < unit
        unit_some = rw unit_is (factorial_pos (n - p))

        quotient : led / unit ≡ before / factorial (n - l)
        quotient = rw (led_is, unit_is, p_is) refl

        pub quotient_fits : led / unit < falling n p
        quotient_fits = rw (quotient, p_is) number_fits

        pub row_found : {cells : List ℕ} → cells ≡ row (with_others n (prefix_at n p (led / unit)))
            → ◌≡◌ {A = Prefixed} (record { number = 0; length = p; cells = cells }) (symbol_row n ws s)
        row_found c =
            let found : prefix_at n p (led / unit) ≡ code_prefix n ws s = rw (quotient, p_is) prefix_found in
            rw (c, found, prefix_length_lem, p_is) refl
