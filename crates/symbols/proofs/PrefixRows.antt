-- The row of a prefix, whatever it is: the prefix, with the other names ascending behind it. Assumes nothing.
use mathlib.Core.Path.{◌≡◌, sym, ◌∙◌}
use mathlib.Core.List.{List, ◌++◌, append_assoc}
use Prim.Native.Nat.{ℕ, ◌≤◌, ◌<◌}
use native.Mathlib.Omega.{arith}
use lib.ListN.{length, take, drop, replicate}
use lib.Seq.{take_at, drop_at}
use Rattle.theory.specs.Factorial.{falling}
use Rattle.theory.specs.Permutation.{IsPermutation, row}
use Rattle.theory.specs.Lists.{names, without}
use Rattle.theory.specs.Prefix.{IsPrefix, prefix_at}
use Rattle.theory.proofs.Padding.{padding}
use Rattle.theory.proofs.FilledRow.{over_row}
use Rattle.theory.proofs.Names.{names_length, names_permutation}
use Rattle.theory.proofs.Prefixes.{names_distinct, prefix_over, prefix_at_prefix}
use Rattle.theory.proofs.Storing.{others_below}
use Rattle.symbols.specs.AnyPrefix.{PrefixRow}
use Rattle.symbols.proofs.Writing.{cleared}

-- the prefix, and behind it the other names
abbrev pub with_others : ℕ → List ℕ → List ℕ
with_others n q = q ++ without q (names n)

module _ {n p : ℕ} {q : List ℕ} (is : IsPrefix n p q) where
  -- all cells are there
  pub row_permutation : IsPermutation n (with_others n q)
  row_permutation =
      let k = others_below (names n) (names_distinct n) q is.distinct (prefix_over is).named in
      names_permutation (k.long ∙ names_length 1 n) k.distinct (λ c. sym (k.same c))

  pub row_long : n ≤ 20 → length (row (with_others n q)) ≡ 20
  row_long many = (padding (with_others n q) (omega (arith, row_permutation.long))).long

  pub row_front : take p (row (with_others n q)) ≡ q
  row_front = rw (append_assoc q (without q (names n)) _) (take_at q _ p is.long)

  -- without the others it is the prefix alone
  pub row_alone : cleared p (row (with_others n q)) ≡ row q
  row_alone = rw (row_front, is.long)

-- what storing a prefix asks of the row
pub row_stored : {L q : List ℕ} {p : ℕ} → 2 ≤ length L → length L ≤ 20 → IsPrefix (length L) p q → p < length L → PrefixRow L (row (with_others (length L) q)) p
row_stored {L} {q} few many is short =
    let all = row_permutation is in
    record {
      few = few;
      many = many;
      long = row_long is many;
      permutation = rw (take_at (with_others (length L) q) _ (length L) all.long) all;
      short = short;
    }

-- ---- the row of prefix number s, as it is made: the names and zeros,
abbrev zeros : List ℕ
zeros = replicate 20 0

module _ {n : ℕ} (many : n ≤ 20) {named : List ℕ} (named_is : named ≡ names n ++ drop n zeros) where
  -- then the prefix and the names that are left
  pub chosen_row : (p s : ℕ) → s < falling n p → {led : List ℕ} → led ≡ prefix_at n p s ++ (without (prefix_at n p s) (names n) ++ drop n named) → led ≡ row (with_others n (prefix_at n p s))
  chosen_row p s fits led_is =
      let q : List ℕ = prefix_at n p s in
      let past : drop n named ≡ drop n zeros = rw named_is (drop_at (names n) (drop n zeros) n (names_length 1 n)) in
      led_is ∙ rw past (sym (append_assoc q (without q (names n)) (drop n zeros)) ∙ over_row 20 0 (with_others n q) (row_permutation (prefix_at_prefix n p s fits)).long many)
