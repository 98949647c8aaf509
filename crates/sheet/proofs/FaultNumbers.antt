-- From an answer back to what was read: a value beside the number 0, or a fault's number. Assumes nothing.
use mathlib.Core.Path.{◌≡◌, refl, ap, sym, ◌∙◌}
use Prim.Native.Nat.{ℕ}
use native.Mathlib.Omega.{arith}
use Rattle.sheet.specs.Bytes.{Fault, missized, tied, ill_formed, number_of, Got, fault, got}
use Rattle.sheet.specs.Held.{SheetRead, sheet_answer}
use Rattle.sheet.specs.Parts.{GroupRead, EntryRead, ZerosRead, group_answer, entry_answer, zeros_answer}

-- no fault has the number 0
pub fault_number : (f : Fault) → number_of f ≡ 0 → ⊥
fault_number missized e = omega arith
fault_number tied e = omega arith
fault_number ill_formed e = omega arith

-- answers whose number tells whether there is a fault, and which
pub record TellsFault {A R : Type 0} (number : R → ℕ) (answer : Got A → R) : Type 0 where
  pub bad : (f : Fault) → number (answer (fault f)) ≡ number_of f
  pub good : (x : A) (end : ℕ) → number (answer (got x end)) ≡ 0

pub group_tells_fault : TellsFault (λ (r : GroupRead). r.number) group_answer
unfolding group_answer
group_tells_fault = record { bad = λ f. refl; good = λ L end. refl }

pub entry_tells_fault : TellsFault (λ (r : EntryRead). r.number) entry_answer
unfolding entry_answer
entry_tells_fault = record { bad = λ f. refl; good = λ e end. refl }

pub zeros_tells_fault : TellsFault (λ (r : ZerosRead). r.number) zeros_answer
unfolding zeros_answer
zeros_tells_fault = record { bad = λ f. refl; good = λ zeros end. refl }

pub sheet_tells_fault : TellsFault (λ (r : SheetRead). r.number) sheet_answer
unfolding sheet_answer
sheet_tells_fault = record { bad = λ f. refl; good = λ c end. refl }

module _ {A R : Type 0} {number : R → ℕ} {answer : Got A → R} (n : TellsFault number answer) where
  pub answered_fault : (r : R) (o : Got A) → r ≡ answer o → (number r ≡ 0 → ⊥) → (f : Fault) × (o ≡ fault f) × (number r ≡ number_of f)
  answered_fault r (fault f) e ne = (f, refl, ap number e ∙ n.bad f)
  answered_fault r (got x end) e ne = absurd (ne (ap number e ∙ n.good x end))

  pub answered_got : (r : R) (o : Got A) → r ≡ answer o → number r ≡ 0 → (x : A) × (end : ℕ) × (o ≡ got x end) × (r ≡ answer (got x end))
  answered_got r (fault f) e z = absurd (fault_number f (sym (ap number e ∙ n.bad f) ∙ z))
  answered_got r (got x end) e z = (x, end, refl, e)
