-- Jobs done one after the other: one job more, what all of them keep, the answer of each, all answers added up, and the loop that does them. Assumes nothing.
use mathlib.Core.Path.{◌≡◌, refl, sym, ap, ◌∙◌}
use mathlib.Core.List.{List, [], ◌∷◌, ◌++◌}
use Prim.Native.Nat.{ℕ, zero, suc, ◌+◌, ◌≤◌, ◌<◌}
use native.Mathlib.Numerals.{add-one}
use native.Mathlib.Omega.{arith}
use lib.ListN.{length, get_or, take, set}
use lib.Seq.{take-suc, take_all}
use Rattle.theory.specs.InTurn.{left_by, answers_to, added_up}
use Rattle.theory.proofs.FilledRow.{Filled, filled_none, filled_more}

-- ---- what is left

module _ {J S : Type 0} (after : J → S → S) where
  pub left_append : (js ks : List J) (s : S) → left_by after (js ++ ks) s ≡ left_by after ks (left_by after js s)
  left_append [] ks s = refl
  left_append (j ∷ js) ks s = left_append js ks (after j s)

  -- one job more
  pub left_next : (js : List J) (s : S) (i : ℕ) (d : J) → i < length js → left_by after (take (suc i) js) s ≡ after (get_or js i d) (left_by after (take i js) s)
  left_next js s i d h = rw (take-suc js i d h) (left_append (take i js) (get_or js i d ∷ []) s)

  -- what each job keeps, all of them keep
  pub left_keeps : (P : S → Type 0) → ((j : J) (s : S) → P s → P (after j s)) → (js : List J) (s : S) → P s → P (left_by after js s)
  left_keeps P keeps [] s h = h
  left_keeps P keeps (j ∷ js) s h = left_keeps P keeps js (after j s) (keeps j s h)

  -- ---- what is answered

  module _ {A : Type 0} (answer : J → S → A) where
    pub answers_append : (js ks : List J) (s : S)
        → answers_to answer after (js ++ ks) s ≡ answers_to answer after js s ++ answers_to answer after ks (left_by after js s)
    answers_append [] ks s = refl
    answers_append (j ∷ js) ks s = ap (λ (l : List A). answer j s ∷ l) (answers_append js ks (after j s))

    pub answers_length : (js : List J) (s : S) → length (answers_to answer after js s) ≡ length js
    answers_length [] s = refl
    answers_length (j ∷ js) s = ap suc (answers_length js (after j s))

    -- the answer of job i is its answer on what the first i left
    pub answer_at : (js : List J) (s : S) (i : ℕ) (d : J) (z : A) → i < length js
        → get_or (answers_to answer after js s) i z ≡ answer (get_or js i d) (left_by after (take i js) s)
    answer_at [] s i d z h = absurd (omega arith)
    answer_at (j ∷ js) s zero d z h = refl
    answer_at (j ∷ js) s (suc i) d z h = answer_at js (after j s) i d z (omega arith)

  -- ---- what is added up

  module _ (answer : J → S → ℕ) where
    added_snoc : (js : List J) (j : J) (s : S) → added_up answer after (js ++ j ∷ []) s ≡ added_up answer after js s + answer j (left_by after js s)
    added_snoc [] j s = omega arith
    added_snoc (i ∷ js) j s = rw (added_snoc js j (after i s)) (omega arith)

    -- one job more
    pub added_next : (js : List J) (s : S) (i : ℕ) (d : J) → i < length js
        → added_up answer after (take i js) s + answer (get_or js i d) (left_by after (take i js) s) ≡ added_up answer after (take (i + 1) js) s
    added_next js s i d h = rw (add-one i, take-suc js i d h) (sym (added_snoc (take i js) (get_or js i d) s))

-- ---- the loop: i jobs were done, `memory` holds what they left, and the row has their answers

pub record InTurn {J S A M : Type 0} (answer : J → S → A) (after : J → S → S) (hold : S → M) (js : List J) (s : S) (before : List A)
    (memory : M) (row : List A) (i : ℕ) : Type 0 where
  pub left : memory ≡ hold (left_by after (take i js) s)
  pub answered : Filled before (answers_to answer after js s) (length js) row i

module _ {J S A M : Type 0} {answer : J → S → A} {after : J → S → S} {hold : S → M} {js : List J} {s : S} {before : List A} where
  pub turn_none : {memory : M} → length js ≤ length before → memory ≡ hold s → InTurn answer after hold js s before memory before 0
  turn_none room e = record { left = e; answered = filled_none (answers_length after answer js s) room }

  module _ {memory : M} {row : List A} {i : ℕ} (v : InTurn answer after hold js s before memory row i) where
    -- job i is done on what is left
    pub turn_more : (d : J) → i < length js → {x : A} {next : M}
        → x ≡ answer (get_or js i d) (left_by after (take i js) s) → next ≡ hold (after (get_or js i d) (left_by after (take i js) s))
        → InTurn answer after hold js s before next (set row i x) (i + 1)
    turn_more d more {x} e f = record {
      left = f ∙ rw (add-one i, left_next after js s i d more);
      answered = filled_more v.answered more x (e ∙ rw (answer_at after answer js s i d x more));
    }

    pub turn_left : length js ≤ i → memory ≡ hold (left_by after js s)
    turn_left all = v.left ∙ rw (take_all i js all)
