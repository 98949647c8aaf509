-- LentLists that are long enough, zeros as numbers, and what is answered for them. Assumes nothing.
use mathlib.Core.Path.{◌≡◌, refl, ◌∙◌}
use mathlib.Core.Bool.{Bool, true, false, ◌&&◌, and-eq-true_iff}
use mathlib.Core.List.{List}
use Prim.Native.Nat.{ℕ, ◌+◌, ◌*◌, ◌≤◌, ◌<◌}
use native.Mathlib.Numerals.{add-one}
use native.Mathlib.Omega.{arith}
use borrow.Author.Tests.{leb-true, ne_eqb}
use lib.Dec.{leb}
use lib.ListN.{length, get_or, take, drop, drop_of_length-le}
use lib.Seq.{drop-cons}
use Rattle.theory.proofs.Cases.{by_test}
use Rattle.theory.proofs.Refusal.{or_else_refused}
use Rattle.ranking.specs.Zeros.{zero_number}
use Rattle.sheet.specs.declared.held.Sheet.{Sheet}
use Rattle.encoding.specs.Faults.{first}
use Rattle.writer.specs.Answers.{write_answer, written_on}
use Rattle.writer.specs.RoundTrips.{RoundTrips}
use Rattle.listing.specs.LentLists.{LentLists, long_enough, held_in, lists_number, lists_answer, lists_on}
use Rattle.writer.specs.declared.answers.Written.{Written}

pub record Listed (sizes levels zeros kinds groups numbers names : ℕ) : Type 0 where
  pub levels_there : 20 * sizes ≤ levels
  pub zeros_there : sizes ≤ zeros
  pub groups_there : kinds ≤ groups
  pub numbers_there : 2 * kinds ≤ numbers
  pub names_there : 20 * kinds ≤ names

pub listed_so : (sizes levels zeros kinds groups numbers names : ℕ) → long_enough sizes levels zeros kinds groups numbers names ≡ true
    → Listed sizes levels zeros kinds groups numbers names
listed_so sizes levels zeros kinds groups numbers names h =
    let a = (and-eq-true_iff (leb (20 * sizes) levels && leb sizes zeros && leb kinds groups && leb (2 * kinds) numbers) (leb (20 * kinds) names)).0 h in
    let b = (and-eq-true_iff (leb (20 * sizes) levels && leb sizes zeros && leb kinds groups) (leb (2 * kinds) numbers)).0 a.0 in
    let d = (and-eq-true_iff (leb (20 * sizes) levels && leb sizes zeros) (leb kinds groups)).0 b.0 in
    let e = (and-eq-true_iff (leb (20 * sizes) levels) (leb sizes zeros)).0 d.0 in
    record {
      levels_there = leb-true (20 * sizes) levels e.0;
      zeros_there = leb-true sizes zeros e.1;
      groups_there = leb-true kinds groups d.1;
      numbers_there = leb-true (2 * kinds) numbers b.1;
      names_there = leb-true (20 * kinds) names a.1;
    }

-- ---- zeros as numbers, judged one after the other

-- none of the first i is refused
pub record ZerosJudged (xs : List ℕ) (i : ℕ) : Type 0 where
  pub left : first zero_number xs ≡ first zero_number (drop i xs)

pub judged_none : (xs : List ℕ) → ZerosJudged xs 0
judged_none xs = record { left = refl }

module _ {xs : List ℕ} {i : ℕ} (v : ZerosJudged xs i) where
  module _ (more : i < length xs) where
    pub judged_more : zero_number (get_or xs i 0) ≡ 0 → ZerosJudged xs (i + 1)
    unfolding first
    judged_more z = record { left = v.left ∙ rw (drop-cons xs i 0 more, z, add-one) }

    pub judged_stop : {k : ℕ} → k ≡ zero_number (get_or xs i 0) → (k ≡ 0 → ⊥) → k ≡ first zero_number xs
    unfolding first
    judged_stop {k} e ne = rw (v.left, drop-cons xs i 0 more) (or_else_refused (zero_number (get_or xs i 0)) _ e ne)

  pub judged_all : length xs ≤ i → 0 ≡ first zero_number xs
  unfolding first
  judged_all all = rw (v.left, drop_of_length-le xs all)

-- ---- what is answered

-- what `write_lists` ensures of r and of what it left
abbrev Answers : LentLists → List ℕ → Written → List ℕ → Type 0
Answers l out r left = (r ≡ lists_answer l (length out)) × ((left ≡ lists_on l out) × (lists_number l ≡ 0 → RoundTrips (held_in l) out r left))

module _ (l : LentLists) where
  abbrev enough : Bool
  enough =
      long_enough (length l.sizes) (length l.levels) (length l.zeros) (length l.kinds) (length l.groups) (length l.numbers) (length l.names)

  abbrev zeros_number : ℕ
  zeros_number = first zero_number (take (length l.sizes) l.zeros)

  pub number_short : enough ≡ false → 2 ≡ lists_number l
  unfolding lists_number
  number_short short = rw short

  pub number_zeros : enough ≡ true → zeros_number ≡ lists_number l
  unfolding lists_number
  number_zeros long = rw long

  pub lists_enough : lists_number l ≡ 0 → enough ≡ true
  lists_enough known = by_test enough (λ t. t) (λ t. absurd (omega (arith, number_short t, known)))

  module _ (out : List ℕ) where
    -- a number other than 0 is given, and nothing else
    pub lists_refused : {k : ℕ} → k ≡ lists_number l → (k ≡ 0 → ⊥) → Answers l out (record { number = k; length = 0 }) out
    unfolding lists_answer lists_on
    lists_refused {k} is ne =
        let no = ne_eqb k 0 ne in
        (rw (← is, no), (rw (← is, no), λ z. absurd (ne (is ∙ z))))

    pub lists_written : lists_number l ≡ 0 → {h : Sheet} {r : Written} {left : List ℕ}
        → r ≡ write_answer h (length out) → left ≡ written_on h out → RoundTrips h out r left → h ≡ held_in l → Answers l out r left
    unfolding lists_answer lists_on
    lists_written known answer on trips is = (rw known (rw is at answer), (rw known (rw is at on), λ z. rw is at trips))
