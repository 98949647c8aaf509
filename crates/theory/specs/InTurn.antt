-- Jobs done one after the other, each on what the last one left. Assumes nothing.
use Rattle.std.specs.Prelude.{List, [], ◌∷◌, ℕ, ◌+◌}

-- what a row of jobs leaves of s, where `after j s` is what job j leaves
abbrev pub left_by : {J S : Type 0} → (J → S → S) → List J → S → S
left_by after [] s = s
left_by after (j ∷ js) s = left_by after js (after j s)

-- what each of them answers
abbrev pub answers_to : {J S A : Type 0} → (J → S → A) → (J → S → S) → List J → S → List A
answers_to answer after [] s = []
answers_to answer after (j ∷ js) s = answer j s ∷ answers_to answer after js (after j s)

-- where that is a number, all of it added up
abbrev pub added_up : {J S : Type 0} → (J → S → ℕ) → (J → S → S) → List J → S → ℕ
added_up answer after [] s = 0
added_up answer after (j ∷ js) s = answer j s + added_up answer after js (after j s)
