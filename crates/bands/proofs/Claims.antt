-- What is claimed of bands beside the contracts. Assumes nothing.
use mathlib.Core.Path.{◌≡◌, refl, sym, ◌∙◌}
use mathlib.Core.Bool.{true, false, false≢true}
use mathlib.Core.List.{List}
use Prim.Native.Nat.{ℕ, suc, ◌-◌, ◌<◌}
use native.Mathlib.Omega.{arith}
use lib.Dec.{ltb}
use lib.ListN.{length, get_or, take, drop}
use lib.Seq.{drop-cons}
use Rattle.theory.specs.Reasons.{sized}
use Rattle.theory.specs.Lists.{member}
use Rattle.theory.specs.Levels.{level, tied, permutation_of, read_number}
use Rattle.theory.specs.Prefix.{prefixes, prefix_at, prefix_length, symbol_prefix, symbol_of}
use Rattle.theory.proofs.Cases.{by_test, by_name}
use Rattle.theory.proofs.Factorials.{factorial_pos}
use Rattle.theory.proofs.Members.{member_later}
use Rattle.theory.proofs.Refusal.{or_else_only, test_only, size_range, read_done}
use Rattle.theory.proofs.Sorting.{permutation_of_length, reads_permutation_of}
use Rattle.charge.specs.Answers.{read_answer}
use Rattle.charge.proofs.Indexing.{sorted_sinks}
use Rattle.symbols.specs.Answers.{coded, symbol_answer, symbol_number}
use Rattle.symbols.specs.ByCode.{code_read}
use Rattle.symbols.proofs.Codes.{code_range}
use Rattle.symbols.proofs.Symbols.{code_read_done, symbol_given}
use Rattle.bands.specs.Bands.{Bands, Choice, SureOrder, SureLead}
use Rattle.bands.specs.LeadTest.{lead_test, sure_test}
use Rattle.bands.specs.Answers.{Banded, BandedCode, bands_number, sure_number, sure_answer, sure_symbol_number, sure_symbol_answer}
use Rattle.bands.specs.Claims.{BandReading, TiedFirst, OneLevel}
use Rattle.bands.proofs.Above.{Above, falls_above}
use Rattle.bands.proofs.Leading.{leads_first}
use Rattle.bands.proofs.Sure.{above_lead, lead_same, lead_above, above_order, order_same, order_above, tested_above, above_tested}
use Rattle.bands.proofs.Judging.{banded_done, bands_only}
use Rattle.bands.proofs.Orders.{sure_order, unsure_order}
use Rattle.bands.proofs.Symbols.{codes, short, sure_led, number_of, number_led, sure_symbol_unsure, sure_symbol_given, unsure_symbol}

-- ---- "tie doesn't arise here"
module _ (low high : List ℕ) where
  no_tie : sure_number low high ≡ 4 → ⊥
  unfolding sure_number
  no_tie z =
      let none : ◌≡◌ {A = ℕ} 4 0 =
      or_else_only _ _ (bands_only low high {k = 4} (λ e. omega arith) (λ e. omega arith) (λ e. omega arith))
      (test_only (sure_test low high (length low - 1)) {why = 10} {k = 4} (λ e. omega arith)) z in
      omega arith

  no_symbol_tie : (m : ℕ) → sure_symbol_number low high m ≡ 4 → ⊥
  unfolding sure_symbol_number
  no_symbol_tie m z =
      let none : ◌≡◌ {A = ℕ} 4 0 =
      or_else_only _ _ (bands_only low high {k = 4} (λ e. omega arith) (λ e. omega arith) (λ e. omega arith))
      (or_else_only _ _ (test_only (coded (length low) m) {why = 5} {k = 4} (λ e. omega arith))
      (or_else_only _ _ (test_only (sure_test low high (prefix_length (length low) m)) {why = 10} {k = 4} (λ e. omega arith))
      (test_only (ltb (symbol_of (length low) m (permutation_of low)) m) {why = 7} {k = 4} (λ e. omega arith)))) z in
      omega arith

-- ---- every choice
module _ {low high : List ℕ} (b : Bands low high) where
  sized_banded : sized (length low) ≡ true → Banded low high
  sized_banded s = let r = size_range (length low) (rw s) in record { few = r.0; many = r.1; bands = b }

  -- lists of a wrong size are refused, as levels are
  module _ (s : sized (length low) ≡ false) {L : List ℕ} (k : Choice low high L) where
    sizeless_order : read_answer L ≡ sure_answer low high
    unfolding read_answer read_number sure_answer sure_number bands_number
    sizeless_order = rw (k.long, s)

    sizeless_symbol : (m : ℕ) → symbol_answer L m ≡ sure_symbol_answer low high m
    unfolding symbol_answer symbol_number read_number sure_symbol_answer sure_symbol_number bands_number
    sizeless_symbol m = rw (k.long, s)

  choice_read : {L : List ℕ} → Banded low high → Choice low high L → tied L ≡ false → read_number L ≡ 0
  choice_read t k u = read_done (record { few = omega (arith, t.few, k.long); many = omega (arith, t.many, k.long); untied = u })

  every_order : (sure_number low high ≡ 10 → ⊥) → (L : List ℕ) → Choice low high L → read_answer L ≡ sure_answer low high
  unfolding read_answer sure_answer sure_number
  every_order sure L k =
      by_test (sized (length low))
      (λ s.
      let t = sized_banded s in
      by_test (sure_test low high (length low - 1))
      (λ e. let o = sure_order t e in rw (choice_read t k (o.untied L k), o.same L k, banded_done t, e))
      (λ e. absurd (sure (rw (banded_done t, e)))))
      (λ s. sizeless_order s k)

  -- the same cells lead, so the same symbol is read
  same_symbol : {m : ℕ} (c : BandedCode low high m) → sure_test low high (prefix_length (length low) m) ≡ true
      → (L : List ℕ) → Choice low high L → code_read (length L) m (permutation_of L) ≡ code_read (length low) m (permutation_of low)
  unfolding code_read symbol_of
  same_symbol c e L k =
      let first = leads_first (omega (arith, short c, k.long)) (sure_led c e L k) in
      rw (k.long, number_led c (permutation_of L) first)

  codeless : (m : ℕ) {L : List ℕ} → Banded low high → coded (length low) m ≡ false → Choice low high L → tied L ≡ false
      → symbol_answer L m ≡ sure_symbol_answer low high m
  unfolding symbol_answer symbol_number sure_symbol_answer sure_symbol_number
  codeless m t v k u = rw (choice_read t k u, banded_done t, k.long, v)

  every_symbol : (m : ℕ) → (sure_symbol_number low high m ≡ 10 → ⊥) → (L : List ℕ) → Choice low high L → tied L ≡ false
      → symbol_answer L m ≡ sure_symbol_answer low high m
  every_symbol m sure L k u =
      by_test (sized (length low))
      (λ s.
      let t = sized_banded s in
      by_test (coded (length low) m)
      (λ v.
      let r = code_range (length low) m (rw v) in
      let c : BandedCode low high m = record { banded = t; one = r.0; most = r.1 } in
      by_test (sure_test low high (prefix_length (length low) m))
      (λ e. sym (symbol_given L m (choice_read t k u) (rw (k.long, v))) ∙ same_symbol c e L k ∙ sure_symbol_given c e)
      (λ e. absurd (sure (sym (sure_symbol_unsure c e)))))
      (λ v. codeless m t v k u))
      (λ s. sizeless_symbol s k m)

  order_leads : (xs : List ℕ) → SureOrder low high xs → SureLead low high (length low - 1) (take (length low - 1) xs)
  order_leads xs s = rw (← order_same b s) (above_lead b (length low - 1) (omega arith) (order_above b s (length low - 1) (omega arith)))

  leads_order : (q : List ℕ) → SureLead low high (length low - 1) q
      → (take (length low - 1) (permutation_of low) ≡ q) × SureOrder low high (permutation_of low)
  leads_order q l = (
    lead_same b (length low - 1) (omega arith) l,
    above_order b (length low - 1) (omega arith) (omega arith) (lead_above b (length low - 1) (omega arith) l),
  )

-- ---- one symbol: no cell needs to lead
module _ {low high : List ℕ} (b : Banded low high) where
  only : BandedCode low high 1
  only = record { banded = b; one = omega arith; most = factorial_pos (length low) }

  none_lead : prefix_length (length low) 1 ≡ 0
  none_lead = (codes only).one refl

  zero_read : symbol_of (length low) 1 (permutation_of low) ≡ 0
  unfolding symbol_of symbol_prefix prefix_at prefixes
  zero_read = number_of only (permutation_of low) 0 (omega (arith, (codes only).enough)) (rw none_lead)

  one_symbol : sure_symbol_answer low high 1 ≡ record { number = 0; symbol = 0 }
  unfolding lead_test
  one_symbol = sym (code_read_done (length low) 1 (permutation_of low) (sym zero_read) (omega arith) ∙ sure_symbol_given only (rw none_lead))

pub reading_bands : (low high : List ℕ) → BandReading low high
reading_bands low high = record {
  order = every_order;
  symbol = every_symbol;
  no_tie = no_tie low high;
  no_symbol_tie = no_symbol_tie low high;
  one = one_symbol;
  order_leads = order_leads;
  leads_order = leads_order;
}

-- ---- bands of one level each
module _ (L : List ℕ) where
  own : Bands L L
  own = record { same = refl; upward = λ c l h. omega arith }

  own_choice : Choice L L L
  own_choice = record { long = refl; from = λ c l h. omega arith; to = λ c l h. omega arith }

  untied_above : (p : ℕ) → tied L ≡ false → Above L L p (permutation_of L)
  untied_above p u = falls_above L p (permutation_of L) (reads_permutation_of L u).falls

  untied_order : tied L ≡ false → sure_answer L L ≡ read_answer L
  untied_order u =
      sym (every_order own
      (λ z.
      let t = unsure_order L L z in
      false≢true (sym t.1 ∙ above_tested own (length L - 1) (omega (arith, t.0.few)) (untied_above (length L - 1) u))) L own_choice)

  -- where cells do not fall short, the symbol is not unsure
  above_sure : (m : ℕ) → Above L L (prefix_length (length L) m) (permutation_of L) → sure_symbol_number L L m ≡ 10 → ⊥
  above_sure m a z =
      let t = unsure_symbol L L m z in
      false≢true (sym t.1 ∙ above_tested own (prefix_length (length L) m) (short t.0) a)

  untied_symbol : tied L ≡ false → (m : ℕ) → sure_symbol_answer L L m ≡ symbol_answer L m
  untied_symbol u m = sym (every_symbol own m (above_sure m (untied_above (prefix_length (length L) m) u)) L own_choice u)

  tied_order : Banded L L → tied L ≡ true → sure_number L L ≡ 10
  unfolding sure_number
  tied_order b t =
      by_test (sure_test L L (length L - 1))
      (λ e. absurd (false≢true (sym ((sure_order b e).untied L own_choice) ∙ t)))
      (λ e. rw (banded_done b, e))

  tied_symbol : (m : ℕ) → BandedCode L L m → TiedFirst L (prefix_length (length L) m) → sure_symbol_number L L m ≡ 10
  tied_symbol m c t =
      let p : ℕ = prefix_length (length L) m in
      by_test (sure_test L L p)
      (λ e.
      let next : suc (t.place - 1) ≡ t.place = omega (arith, t.first.0) in
      absurd (omega (arith, t.equal, tested_above own p (short c) e (t.place - 1) t.other (omega (arith, t.first)) (rw next t.after))))
      (λ e. sym (sure_symbol_unsure c e))

  untouched : (m : ℕ) → (TiedFirst L (prefix_length (length L) m) → ⊥) → sure_symbol_number L L m ≡ 10 → ⊥
  untouched m none z =
      let xs : List ℕ = permutation_of L in
      let t = (unsure_symbol L L m z).0 in
      above_sure m
      (λ j c less l.
      let within : j < length xs = omega (arith, short t, permutation_of_length L) in
      let here : member c (drop j xs) ≡ true = rw (drop-cons xs j 0 within) (member_later c (get_or xs j 0) (drop (suc j) xs) l) in
      let back : suc j - 1 ≡ j = omega arith in
      by_name (level L c) (level L (get_or xs j 0))
      (λ q e. absurd (none (record { place = suc j; other = c; first = (omega arith, less); after = l; equal = rw back q })))
      (λ ne e. omega (arith, sorted_sinks L j c here, ne)))
      z

pub one_level : (L : List ℕ) → OneLevel L
one_level L = record {
  order = untied_order L;
  symbol = untied_symbol L;
  tied_order = tied_order L;
  tied_symbol = tied_symbol L;
  untouched = untouched L;
}
