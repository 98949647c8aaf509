-- Storing a prefix, whatever it is, and storing a symbol: what each way out answers, and what the levels then are read as. Assumes nothing.
use mathlib.Core.Path.{◌≡◌, refl, sym, ap, ◌∙◌}
use mathlib.Core.Bool.{Bool, true, false}
use mathlib.Core.List.{List, ◌++◌, map, reverse}
use Prim.Native.Nat.{ℕ, ◌≤◌}
use native.Mathlib.Omega.{arith}
use borrow.Author.Tests.{lt-ltb}
use lib.ListN.{length, take, length-map}
use lib.Seq.{take_at, take-take, get_or-take}
use Rattle.theory.specs.Reasons.{tie}
use Rattle.theory.specs.Refusal.{given}
use Rattle.theory.specs.Lists.{without}
use Rattle.theory.specs.Permutation.{row}
use Rattle.theory.specs.Levels.{level, tied, read_number, permutation_of, push_levels}
use Rattle.theory.specs.CountUp.{ceiling_of}
use Rattle.theory.specs.Prefix.{IsPrefix, prefix_length}
use Rattle.theory.specs.Store.{store_pushes}
use Rattle.theory.specs.Spent.{Spends, charge_of}
use Rattle.theory.specs.Claims.{Storing, SymbolStoring}
use Rattle.theory.proofs.Refusal.{given_done, given_so, or_else_refused, or_else_done, size_done, Readable, readable, read_done}
use Rattle.theory.proofs.Members.{entry_inside}
use Rattle.theory.proofs.Sorting.{permutation_of_permutation}
use Rattle.theory.proofs.Reading.{reading, row_length}
use Rattle.theory.proofs.Prefixes.{permutation_prefix, prefix_length_short}
use Rattle.theory.proofs.Storing.{storing, symbol_storing}
use Rattle.theory.proofs.Spent.{row_sum, given_sum}
use Rattle.charge.specs.Answers as charge
use Rattle.charge.specs.Answers.{no_pushes, pushes_of, as_pushes}
use Rattle.charge.specs.declared.answers.Spent.{Spent}
use Rattle.permutation.specs.declared.reasons.Refusal.{Refusal}
use Rattle.permutation.proofs.Refusals as refusals
use Rattle.permutation.specs.Refusals.{number_of, number_in}
use Rattle.std.specs.Result.{IfOk, result_and}
use Rattle.std.proofs.Common.{Result, Ok, Err}
use Rattle.charge.specs.declared.answers.Pushes.{Pushes}
use Rattle.charge.proofs.Numbers.{pushes_refused, with_spent}
use Rattle.charge.proofs.ReadLevels.{row_readable}
use Rattle.rewriting.specs.Raising.{Pushable, raised}
use Rattle.symbols.specs.declared.answers.Prefix.{Prefix}
use Rattle.symbols.specs.declared.answers.Prefixed.{Prefixed}
use Rattle.symbols.specs.Answers.{as_prefixed, code_number, prefix_on, pushes_for, lead_number, lead_answer, lead_levels, store_number, store_answer, store_levels, symbol_number, symbol_answer, LedBy, StoreOf}
use Rattle.symbols.specs.AnyPrefix.{row_answer, PrefixRow, FallsFrom, FoundAs}
use Rattle.symbols.proofs.Along.{tied_row}
use Rattle.symbols.proofs.Leading.{count_is}
use Rattle.symbols.proofs.PrefixRows.{with_others, row_front, row_stored}
use Rattle.symbols.proofs.Prefixing.{Coded, coded_right, in_range_lem}

-- what a contract says of an answer and of the levels that are left, where a prefix q is stored on L and `code` is the number of its code
abbrev pub Led : ℕ → List ℕ → List ℕ → Pushes → List ℕ → Type 0
Led code L q a L' = (a ≡ lead_answer code L q) × ((L' ≡ lead_levels code L q) × (a.number ≡ 0 → LedBy q L L' a.pushes))

-- ---- any prefix

module _ {L q : List ℕ} {p : ℕ} (r : Readable L) (prefix : IsPrefix (length L) p q) where
  stores : Storing (length L) p q (permutation_of L)
  stores = storing (length L) p q (permutation_of L) prefix (permutation_of_permutation L)

  -- its pushes leave levels that have a permutation, and this one
  pub prefix_readable : Readable (push_levels (store_pushes q (permutation_of L)) L)
  prefix_readable = row_readable (store_pushes q (permutation_of L)) stores.cells r

  pub prefix_left : permutation_of (push_levels (store_pushes q (permutation_of L)) L) ≡ q ++ without q (permutation_of L)
  prefix_left = (reading L r.untied).row_read (store_pushes q (permutation_of L)) stores.cells ∙ stores.reaches

  prefix_led : {k : ℕ} → k ≡ pushes_for L q → LedBy q L (push_levels (store_pushes q (permutation_of L)) L) k
  unfolding charge.read_answer
  prefix_led e = record {
    read = rw (read_done prefix_readable, prefix_left);
    fewest = λ is places lead. rw e (stores.fewest is places (rw prefix.long at lead));
  }

-- what is said of the pushes of a job that is done, by its number
pub if_done : (P : ℕ → Type 0) (r : Result Spent Refusal) → ((as_pushes r).number ≡ 0 → P (as_pushes r).pushes) → IfOk r (λ d. P d.pushes)
if_done P (Ok d) h = h refl
if_done P (Err e) h = tt

pub done_if : (P : ℕ → Type 0) (r : Result Spent Refusal) → IfOk r (λ d. P d.pushes) → (as_pushes r).number ≡ 0 → P (as_pushes r).pushes
done_if P (Ok d) h z = h
done_if P (Err e) h z = absurd (refusals.not_done e z)

pub not_done : {a : Pushes} {number : ℕ} → a ≡ no_pushes number → (number ≡ 0 → ⊥) → a.number ≡ 0 → ⊥
not_done e ne z = ne (sym (ap (λ (a : Pushes). a.number) e) ∙ z)

module _ (code : ℕ) (L q : List ℕ) where
  pub lead_refused : {a : Pushes} {number : ℕ} → a ≡ no_pushes number → number ≡ lead_number code L q → (number ≡ 0 → ⊥) → Led code L q a L
  unfolding lead_answer lead_levels
  lead_refused e is ne =
      let cs : List ℕ = store_pushes q (permutation_of L) in
      let b = pushes_refused (pushes_for L q) (charge_of cs L) L (push_levels cs L) e is ne in
      (b.0, (b.1, λ z. absurd (not_done e ne z)))

  -- the number of the levels is that of the job, and then that of the code
  pub lead_fault : {number : ℕ} → number ≡ read_number L → (number ≡ 0 → ⊥) → number ≡ lead_number code L q
  unfolding lead_number
  lead_fault e ne = or_else_refused (read_number L) _ e ne

  pub lead_code : {number : ℕ} → read_number L ≡ 0 → number ≡ code → (number ≡ 0 → ⊥) → number ≡ lead_number code L q
  unfolding lead_number
  lead_code z e ne = rw z (or_else_refused code _ e ne)

  -- a refusal by the code, after one by the levels
  pub tie_first : (r : Result (Unit {0}) Refusal) (e : Refusal) → number_in r ≡ read_number L → number_of e ≡ code → {a : Result Spent Refusal} → a ≡ result_and r (Err e)
      → (number : ℕ) × (as_pushes a ≡ no_pushes number) × (number ≡ lead_number code L q) × (number ≡ 0 → ⊥)
  tie_first (Ok x) e levels is done = (number_of e, ap as_pushes done, lead_code (sym levels) is (refusals.not_done e), refusals.not_done e)
  tie_first (Err t) e levels is done = (number_of t, ap as_pushes done, lead_fault levels (refusals.not_done t), refusals.not_done t)

  -- whatever is answered, the sum of the levels grows by what is spent
  pub lead_spends : (lead_number code L q ≡ 0 → IsPrefix (length L) (length q) q) → Spends L (lead_levels code L q) (lead_answer code L q).charge
  unfolding lead_answer lead_levels lead_number
  lead_spends is =
      given_sum (lead_number code L q) L _ _
      (λ z. row_sum (store_pushes q (permutation_of L)) L (stores (readable (or_else_done (read_number L) _ z).0) (is z)).cells)

-- as it stands in its row
module _ {L cells : List ℕ} {p : ℕ} (v : PrefixRow L cells p) where
  whole_long : length (take (length L) cells) ≡ length L
  whole_long = v.permutation.long

  -- the levels along the row, in the front of their own
  pub along_front : {along : List ℕ} (rest : List ℕ) → along ≡ map (level L) (take (length L) cells) ++ rest
      → take (length L) along ≡ map (level L) (take (length L) cells)
  along_front rest e = rw e (take_at _ rest (length L) (length-map (take (length L) cells) (level L) ∙ whole_long))

  front_of : take p (take (length L) cells) ≡ take p cells
  front_of = take-take p (length L) cells (omega (arith, v.short))

  is_prefix : IsPrefix (length L) p (take p cells)
  is_prefix = rw front_of at (permutation_prefix p (take (length L) cells) (omega (arith, v.short)) v.permutation)

  pub first_pushable : {r : ℕ} → r ≤ p → Pushable (length L) cells r
  first_pushable {r} h = record {
    long = v.long;
    few = omega (arith, v.short, v.many);
    named = λ i l.
        let inside = entry_inside v.permutation i (omega (arith, v.short, whole_long)) in
        rw (get_or-take (length L) cells i 0 (omega (arith, v.short))) at inside;
  }

  -- of these levels x
  module _ {x : List ℕ} (x_is : x ≡ map (level L) (take (length L) cells)) where
    -- their tie is that of the levels
    tie_is : tied x ≡ tied L
    tie_is = ap tied x_is ∙ tied_row L (take (length L) cells) v.permutation

    pub tie_refused : {t : Bool} → t ≡ tied x → t ≡ true → tie ≡ lead_number 0 L (take p cells)
    unfolding read_number
    tie_refused e t = lead_fault 0 L (take p cells) (rw (size_done (length L) v.few v.many, ← tie_is, ← e, t)) (λ z. omega arith)

    pub untied_now : {t : Bool} → t ≡ tied x → t ≡ false → Readable L
    untied_now e t = record { few = v.few; many = v.many; untied = sym tie_is ∙ sym e ∙ t }

    -- r pushes are those of the storing rule, and what is answered of them is the answer
    module _ {r : ℕ} (u : FallsFrom x p r) (now : Readable L) where
      count_now : r ≡ pushes_for L (take p cells)
      count_now = rw front_of at (count_is L (take (length L) cells) p v.permutation v.short now.untied (rw x_is at u))

      pushes_are : reverse (take r cells) ≡ store_pushes (take p cells) (permutation_of L)
      unfolding store_pushes
      pushes_are = rw (← count_now, take-take r p cells u.within)

      pub lead_done : {a : Pushes} {L' : List ℕ} → (a ≡ pushes_of (ceiling_of L r) r (charge_of (reverse (take r cells)) L)) × (L' ≡ raised L cells r)
          → Led 0 L (take p cells) a L'
      unfolding lead_answer lead_levels lead_number raised
      lead_done {a} {L'} k =
          let q : List ℕ = take p cells in
          let left : L' ≡ given (ceiling_of L r) (push_levels (store_pushes q (permutation_of L)) L) L = k.1 ∙ rw pushes_are in (
            k.0 ∙ rw (read_done now, pushes_are, count_now),
            (
              left ∙ rw (read_done now, count_now),
              λ z.
                  let none : ceiling_of L r ≡ 0 = sym (ap (λ (b : Pushes). b.number) k.0) ∙ z in
                  let many : a.pushes ≡ r = ap (λ (b : Pushes). b.pushes) k.0 ∙ given_done (ceiling_of L r) r 0 none in
                  rw (left ∙ given_done (ceiling_of L r) _ L none) (prefix_led now is_prefix (many ∙ count_now)),
            ),
          )

-- ---- a symbol's prefix

module _ (L : List ℕ) (m s : ℕ) (code : Coded (length L) m s) where
  symbol_stores : SymbolStoring (length L) m s (permutation_of L)
  symbol_stores = symbol_storing (length L) m s (permutation_of L) code.most code.below (permutation_of_permutation L)

  -- the symbol is read back
  symbol_read : Readable L → symbol_answer (push_levels (store_pushes (prefix_on L m s) (permutation_of L)) L) m ≡ record { number = 0; symbol = s }
  unfolding symbol_answer symbol_number
  symbol_read r =
      let cs : List ℕ = store_pushes (prefix_on L m s) (permutation_of L) in
      let prefix = symbol_stores.prefix in
      rw (
        read_done (prefix_readable r prefix),
        (reading L r.untied).row_read cs (stores r prefix).cells,
        row_length cs L,
        symbol_stores.read,
        coded_right code,
        lt-ltb s m code.below,
      )

-- whatever is asked, levels with a permutation keep one
pub store_readable : {L : List ℕ} → Readable L → (m s : ℕ) → Readable (store_levels L m s)
unfolding lead_levels lead_number
store_readable {L} r m s =
    given_so Readable (store_number L m s) _ L r
    (λ z.
    let finds = (or_else_done (code_number (length L) m s) _ (or_else_done (read_number L) _ z).1).0 in
    prefix_readable r (symbol_stores L m s (in_range_lem finds)).prefix)

store_spends : (L : List ℕ) (m s : ℕ) → Spends L (store_levels L m s) (store_answer L m s).charge
unfolding lead_number
store_spends L m s =
    lead_spends (code_number (length L) m s) L (prefix_on L m s)
    (λ z.
    let finds = (or_else_done (code_number (length L) m s) _ (or_else_done (read_number L) _ z).1).0 in
    let prefix = (symbol_stores L m s (in_range_lem finds)).prefix in
    rw prefix.long prefix)

-- what the contract says of an answer, and of the levels that are left
abbrev Answered : List ℕ → ℕ → ℕ → Pushes → List ℕ → Type 0
Answered L m s a L' =
    (a ≡ store_answer L m s) × ((L' ≡ store_levels L m s) × ((a.number ≡ 0 → StoreOf L m s L' a.pushes) × Spends L L' a.charge))

pub row_number : (n m s : ℕ) {found : Prefixed} → found ≡ row_answer n m s → found.number ≡ code_number n m s
unfolding row_answer
row_number n m s e = ap (λ (f : Prefixed). f.number) e

-- the row of the symbol was found
module _ (L : List ℕ) (m s : ℕ) {found : Prefixed} (e : found ≡ row_answer (length L) m s) (z : found.number ≡ 0) where
  number_done : code_number (length L) m s ≡ 0
  number_done = sym (row_number (length L) m s e) ∙ z

  codes : Coded (length L) m s
  codes = in_range_lem number_done

  prefix_of_lem : IsPrefix (length L) (prefix_length (length L) m) (prefix_on L m s)
  prefix_of_lem = (symbol_stores L m s codes).prefix

  length_is : found.length ≡ prefix_length (length L) m
  unfolding row_answer
  length_is = ap (λ (f : Prefixed). f.length) e ∙ rw number_done

  cells_are : found.cells ≡ row (with_others (length L) (prefix_on L m s))
  unfolding row_answer
  cells_are = ap (λ (f : Prefixed). f.cells) e ∙ rw number_done

  -- its prefix leads it, and all cells stand in it
  front_is : take found.length found.cells ≡ prefix_on L m s
  front_is = rw (cells_are, length_is) (row_front prefix_of_lem)

  pub found_prefix_row : PrefixRow L found.cells found.length
  found_prefix_row =
      rw (cells_are, length_is)
      (row_stored codes.few codes.many prefix_of_lem (prefix_length_short (length L) m (omega (arith, codes.few)) codes.most))

-- whatever was found: its number, its prefix, and its row
module _ (L : List ℕ) (m s : ℕ) where
  pub found_number : (r : Result Prefix Refusal) → as_prefixed r ≡ row_answer (length L) m s → number_in r ≡ code_number (length L) m s
  found_number (Ok p) e = row_number (length L) m s e
  found_number (Err x) e = row_number (length L) m s e

  pub found_as : (r : Result Prefix Refusal) → as_prefixed r ≡ row_answer (length L) m s → FoundAs r (prefix_on L m s)
  found_as (Ok p) e = front_is L m s e refl
  found_as (Err x) e = tt

  pub found_row : (r : Result Prefix Refusal) → as_prefixed r ≡ row_answer (length L) m s → IfOk r (λ p. PrefixRow L p.cells p.length)
  found_row (Ok p) e = found_prefix_row L m s e refl
  found_row (Err x) e = tt

-- what is answered of its prefix is the answer of the job
pub led_answered : (L : List ℕ) (m s : ℕ) {a : Pushes} {L' : List ℕ} → Led (code_number (length L) m s) L (prefix_on L m s) a L' → Answered L m s a L'
unfolding lead_number lead_levels lead_answer
led_answered L m s {a} {L'} k =
    let t = with_spent L (store_spends L m s) (k.0, k.1.0) in (
      t.0,
      (
        t.1.0,
        (
          λ z.
              let none : store_number L m s ≡ 0 = sym (ap (λ (b : Pushes). b.number) k.0) ∙ z in
              let past = or_else_done (read_number L) _ none in
              let now = readable past.0 in
              let codes = in_range_lem (or_else_done (code_number (length L) m s) _ past.1).0 in
              record {
                led = k.1.1 z;
                read_back = rw (k.1.0 ∙ given_done (store_number L m s) _ L none) (symbol_read L m s codes now);
              },
          t.1.1,
        ),
      ),
    )

-- a refusal leaves the levels as they were
pub store_refused : (L : List ℕ) (m s : ℕ) {a : Pushes} {number : ℕ} → a ≡ no_pushes number → number ≡ store_number L m s → (number ≡ 0 → ⊥)
    → Answered L m s a L
store_refused L m s e is ne = led_answered L m s (lead_refused (code_number (length L) m s) L (prefix_on L m s) e is ne)
