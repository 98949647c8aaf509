-- What is found of a part of a sheet that has a number: its value, or the fault that the number is of. Assumes nothing.
use mathlib.Core.Path.{◌≡◌, refl, sym, ◌∙◌}
use mathlib.Core.Bool.{Bool, true, false, cond}
use mathlib.Core.List.{List, [], ◌∷◌, ◌++◌, map, append_assoc, append-nil, flat_map}
use Prim.Native.Nat.{ℕ}
use native.Mathlib.Omega.{arith}
use lib.ListN.{length}
use Rattle.theory.specs.Lists.{Every}
use Rattle.theory.specs.Refusal.{or_else}
use Rattle.theory.proofs.Cases.{by_name}
use Rattle.theory.proofs.Refusal.{or_else_done}
use Rattle.sheet.specs.Bytes.{Fault, missized, tied, ill_formed, number_of, Got, fault, got, after, check, many}
use Rattle.sheet.proofs.FaultNumbers.{fault_number}
use Rattle.encoding.specs.Faults.{first}

-- the value, up to the end, where the number is 0; the fault, where it is a fault's. Fit and muddle are none, so that nothing is said of them
pub record Verdict {A : Type 0} (o : Got A) (number : ℕ) (x : A) (end : ℕ) : Type 0 where
  pub good : number ≡ 0 → o ≡ got x end
  pub bad : (f : Fault) → number ≡ number_of f → o ≡ fault f

-- neither fit nor muddle is a fault's
pub no_fault : (f : Fault) → (number_of f ≡ 2 → ⊥) × (number_of f ≡ 3 → ⊥)
no_fault missized = (λ e. omega arith, λ e. omega arith)
no_fault tied = (λ e. omega arith, λ e. omega arith)
no_fault ill_formed = (λ e. omega arith, λ e. omega arith)

same_fault : (f g : Fault) → number_of f ≡ number_of g → f ≡ g
same_fault missized missized e = refl
same_fault missized tied e = absurd (omega arith)
same_fault missized ill_formed e = absurd (omega arith)
same_fault tied missized e = absurd (omega arith)
same_fault tied tied e = refl
same_fault tied ill_formed e = absurd (omega arith)
same_fault ill_formed missized e = absurd (omega arith)
same_fault ill_formed tied e = absurd (omega arith)
same_fault ill_formed ill_formed e = refl

module _ {A : Type 0} {x : A} {end : ℕ} where
  pub verdict_got : {o : Got A} → o ≡ got x end → Verdict o 0 x end
  verdict_got e = record { good = λ z. e; bad = λ f z. absurd (fault_number f (sym z)) }

  pub verdict_fault : {o : Got A} (f : Fault) → o ≡ fault f → Verdict o (number_of f) x end
  verdict_fault f e = record { good = λ z. absurd (fault_number f z); bad = λ g z. rw (← same_fault f g z) e }

  pub verdict_check : (b : Bool) (f : Fault) {o : Got A} {number : ℕ} → (b ≡ true → Verdict o number x end) → Verdict (check b f o) (cond b number (number_of f)) x end
  unfolding check
  verdict_check true f v = v refl
  verdict_check false f v = verdict_fault f refl

module _ {A B : Type 0} {o : Got A} {k : ℕ} {x : A} {middle : ℕ} (v : Verdict o k x middle) (next : A → ℕ → Got B) {y : B} {end : ℕ} where
  pub verdict_after : {l : ℕ} → (k ≡ 0 → Verdict (next x middle) l y end) → Verdict (after o next) (or_else k l) y end
  unfolding after
  verdict_after {l} w = record {
    good = λ z. (let parts = or_else_done k l z in rw (v.good parts.0) ((w parts.0).good parts.1));
    bad = λ f z. by_name k 0 (λ none t. rw (v.good none) ((w none).bad f (rw t at z))) (λ some t. rw (v.bad f (rw t at z)));
  }

  pub verdict_then : next x middle ≡ got y end → Verdict (after o next) k y end
  unfolding after
  verdict_then e = record { good = λ z. rw (v.good z) e; bad = λ f z. rw (v.bad f z) }

-- a reader p reads what w wrote of a held part as what it says, or as its fault
abbrev pub Judges : {A B : Type 0} → (List ℕ → ℕ → Got A) → (B → List ℕ) → (B → ℕ) → (B → A) → (B → Type 0) → Type 0
Judges {A} {B} p w judge say Ok =
    (s pre post : List ℕ) (x : B) → s ≡ pre ++ (w x ++ post) → Ok x → Verdict (p s (length pre)) (judge x) (say x) (length (pre ++ w x))

pub many_judges : {A B : Type 0} (p : List ℕ → ℕ → Got A) (w : B → List ℕ) (judge : B → ℕ) (say : B → A) (Ok : B → Type 0) → Judges p w judge say Ok
    → (xs : List B) → Every Ok xs → (s pre post : List ℕ) → s ≡ pre ++ (flat_map w xs ++ post)
    → Verdict (many (length xs) (p s) (length pre)) (first judge xs) (map say xs) (length (pre ++ flat_map w xs))
unfolding many flat_map first
many_judges p w judge say Ok r [] ok s pre post e = verdict_got (rw append-nil)
many_judges p w judge say Ok r (x ∷ xs) ok s pre post e =
    let here : s ≡ pre ++ (w x ++ (flat_map w xs ++ post)) = e ∙ simp append_assoc in
    let one = r s pre (flat_map w xs ++ post) x here ok.0 in
    let rest = many_judges p w judge say Ok r xs ok.1 s (pre ++ w x) post (here ∙ simp append_assoc) in
    let end : (pre ++ w x) ++ flat_map w xs ≡ pre ++ (w x ++ flat_map w xs) = append_assoc pre (w x) (flat_map w xs) in
    verdict_after one (λ y next. after (many (length xs) (p s) next) (λ ys end. got (y ∷ ys) end))
    (λ none. rw (← end) (verdict_then rest (λ ys end. got (say x ∷ ys) end) refl))
