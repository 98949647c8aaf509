-- Names chosen one after another by the digits of a number: those chosen stand first, then those that are left, and what is left of the number
-- chooses the rest of the prefix. Assumes nothing.
use mathlib.Core.Path.{◌≡◌, refl, sym, ap, ◌∙◌}
use mathlib.Core.List.{List, [], ◌∷◌, ◌++◌, append_assoc, append-nil}
use Prim.Native.Nat.{ℕ, suc, ◌+◌, ◌-◌, ◌*◌, ◌/◌, ◌%◌, ◌≤◌, ◌<◌}
use native.Mathlib.Nat.{mul-div_cancel_left}
use native.Mathlib.Omega.{arith}
use lib.ListN.{length, get_or, take, drop, length-append, length-drop, get_or-append, take-append-drop}
use lib.Seq.{append_snoc, take-append-le, drop-append-le, take-append-add, drop-append-add, get_or-append-add, take-append_seam, drop-append_seam}
use Rattle.theory.specs.Factorial.{falling}
use Rattle.theory.specs.Lists.{names, without}
use Rattle.theory.specs.Prefix.{prefix_at}
use Rattle.theory.proofs.Members.{Distinct, without_none, without_without, without_at, without_one_length}
use Rattle.theory.proofs.Names.{names_length}
use Rattle.theory.proofs.Numbering.{first_name, prefix_of, First, first}
use Rattle.theory.proofs.Prefixes.{names_distinct, prefix_at_digits}
use Rattle.permutation.specs.Insert.{put_in}

-- ---- a row of i names q, then those of `free`, then others
module _ (q free rest : List ℕ) {i : ℕ} (e : length q ≡ i) {d : ℕ} (h : d < length free) where
  -- the name at index d of `free`
  name_at : get_or (q ++ (free ++ rest)) (i + d) 0 ≡ get_or free d 0
  name_at = rw (← e) (get_or-append-add q (free ++ rest) d 0 ∙ get_or-append free rest 0 d h)

  -- c put in behind q, in place of that name
  put_behind_lem : (c : ℕ) → put_in (i + d) i c (q ++ (free ++ rest)) ≡ (q ++ c ∷ []) ++ ((take d free ++ drop (suc d) free) ++ rest)
  put_behind_lem c =
      let past : length q + d + 1 ≡ length q + suc d = omega arith in
      rw (
        ← e,
        take-append_seam q (free ++ rest),
        take-append-add q (free ++ rest) d,
        drop-append_seam q (take d (free ++ rest)),
        take-append-le d free rest (omega arith),
        past,
        drop-append-add q (free ++ rest) (suc d),
        drop-append-le (suc d) free rest h,
        append_assoc (take d free) (drop (suc d) free) rest,
        append_snoc,
      )

-- i of the p names of prefix number s are chosen, and `rest`, below `weight`, is left of s; the row was `before`
pub record Choosing (n p s : ℕ) (before cells : List ℕ) (weight rest i : ℕ) : Type 0 where
  pub many : n ≤ 20
  pub short : p ≤ n
  pub fits : s < falling n p
  pub was_long : length before ≡ 20
  pub within : i ≤ p
  pub chosen : List ℕ
  pub free : List ℕ
  pub is : cells ≡ chosen ++ (free ++ drop n before)
  pub chosen_long : length chosen ≡ i
  pub free_long : length free ≡ n - i
  pub distinct : Distinct free
  pub free_is : free ≡ without chosen (names n)
  pub weight_is : weight ≡ falling (n - i) (p - i)
  pub below : rest < weight
  -- what is left of s chooses what is left of the prefix
  pub left : chosen ++ prefix_of (p - i) free rest ≡ prefix_of p (names n) s

pub start : {n p s weight : ℕ} {before : List ℕ} → n ≤ 20 → p ≤ n → s < falling n p → length before ≡ 20 → take n before ≡ names n
    → weight ≡ falling n p → Choosing n p s before before weight s 0
start {n} {p} {s} {weight} {before} many short fits long lead e =
    let all : n - 0 ≡ n = omega arith in
    let all_p : p - 0 ≡ p = omega arith in
    record {
      many = many;
      short = short;
      fits = fits;
      was_long = long;
      within = omega arith;
      chosen = [];
      free = names n;
      is = sym (take-append-drop n before) ∙ rw lead;
      chosen_long = refl;
      free_long = names_length 1 n ∙ sym all;
      distinct = names_distinct n;
      free_is = sym (without_none [] (names n) (λ c m. refl));
      weight_is = rw (all, all_p) e;
      below = rw e fits;
      left = rw all_p;
    }

module _ {n p s : ℕ} {before cells : List ℕ} {weight rest i : ℕ} (v : Choosing n p s before cells weight rest i) where
  pub long : length cells ≡ 20
  long =
      rw (v.is, length-append, length-append, v.chosen_long, v.free_long, length-drop, v.was_long)
      (omega (arith, v.within, v.short, v.many))

  pub end : p ≤ i → cells ≡ prefix_at n p s ++ (without (prefix_at n p s) (names n) ++ drop n before)
  unfolding prefix_of
  end h =
      let last : i ≡ p = omega (arith, v.within) in
      let none : p - i ≡ 0 = omega arith in
      let all : v.chosen ≡ prefix_at n p s =
      sym (append-nil v.chosen) ∙ (rw none at v.left) ∙ sym (prefix_at_digits n p s v.fits) in
      v.is ∙ rw (v.free_is, all)

  -- one turn: the weight falls by the factor n - i, and the digit is an index of `free`
  module _ (h : i < p) where
    whole : weight ≡ (n - i) * falling (n - (i + 1)) (p - (i + 1))
    whole =
        let more : p - i ≡ suc (p - (i + 1)) = omega arith in
        let less : n - i - 1 ≡ n - (i + 1) = omega arith in
        v.weight_is ∙ rw (more, less)

    same : falling (length v.free - 1) (p - (i + 1)) ≡ falling (n - (i + 1)) (p - (i + 1))
    same = let less : length v.free - 1 ≡ n - (i + 1) = omega (arith, v.free_long) in rw less

    digit_first : First (p - (i + 1)) v.free rest
    digit_first = first (p - (i + 1)) v.free rest v.distinct (rw (same, v.free_long, ← whole) v.below)

    -- c, the name there, is chosen
    module _ {w c : ℕ} (e : w ≡ falling (length v.free - 1) (p - (i + 1))) (is_c : c ≡ get_or v.free (rest / w) 0) where
      chosen_next : Choosing n p s before ((v.chosen ++ c ∷ []) ++ (without (c ∷ []) v.free ++ drop n before)) w (rest % w) (i + 1)
      unfolding prefix_of
      chosen_next =
          let more : p - i ≡ suc (p - (i + 1)) = omega arith in
          let is_first : c ≡ first_name (p - (i + 1)) v.free rest = is_c ∙ rw e in
          let one : length (without (c ∷ []) v.free) ≡ length v.free - 1 =
          without_one_length c v.free v.distinct (rw is_first digit_first.here) in
          record {
            many = v.many;
            short = v.short;
            fits = v.fits;
            was_long = v.was_long;
            within = omega arith;
            chosen = v.chosen ++ c ∷ [];
            free = without (c ∷ []) v.free;
            is = refl;
            chosen_long = length-append v.chosen (c ∷ []) ∙ ap (λ (k : ℕ). k + 1) v.chosen_long;
            free_long = omega (arith, v.free_long);
            distinct = rw is_first digit_first.left;
            free_is = ap (without (c ∷ [])) v.free_is ∙ without_without (c ∷ []) v.chosen (names n);
            weight_is = e ∙ same;
            below = rw e digit_first.digit;
            left = append_snoc v.chosen c _ ∙ rw (is_first, e) (rw more at v.left);
          }

    next_weight : weight / (n - i) ≡ falling (length v.free - 1) (p - (i + 1))
    next_weight = rw (whole, same) (mul-div_cancel_left _ (omega (arith, v.short)))

    in_free : rest / (weight / (n - i)) < length v.free
    in_free = rw next_weight digit_first.index

    pub turn : (0 < weight / (n - i)) × (i + rest / (weight / (n - i)) < 20)
    turn = (rw next_weight (omega (arith, digit_first.digit)), omega (arith, in_free, v.free_long, v.short, v.many))

    pub step : {c : ℕ} {next : List ℕ} → c ≡ get_or cells (i + rest / (weight / (n - i))) 0 → next ≡ put_in (i + rest / (weight / (n - i))) i c cells
        → Choosing n p s before next (weight / (n - i)) (rest % (weight / (n - i))) (i + 1)
    step {c} {next} e_c e_next =
        let d : ℕ = rest / (weight / (n - i)) in
        let past : List ℕ = drop n before in
        let is_c : c ≡ get_or v.free d 0 = e_c ∙ rw v.is (name_at v.chosen v.free past v.chosen_long in_free) in
        let row : next ≡ (v.chosen ++ c ∷ []) ++ (without (c ∷ []) v.free ++ past) =
        e_next ∙ rw v.is (put_behind_lem v.chosen v.free past v.chosen_long in_free c ∙ rw (is_c, without_at v.free d v.distinct in_free)) in
        rw row (chosen_next next_weight is_c)
