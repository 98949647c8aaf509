-- A refusal's number is not that of a job that is done, and a job that is done gave something. Assumes nothing.
use mathlib.Core.Path.{◌≡◌, refl}
use native.Mathlib.Omega.{arith}
use Rattle.std.specs.Prelude.{Result, Ok, Err}
use Rattle.std.specs.Result.{IsOk}
use Rattle.permutation.specs.Refusals.{number_of, number_in}
use Rattle.permutation.specs.declared.reasons.Refusal.{Refusal}
use Rattle.permutation.specs.declared.reasons.Refusal.TheVariants.{Size, Fit, Muddle, Tie, Value, Ceiling, Idle, Sheet, Paper, Unsure}

pub not_done : (e : Refusal) → number_of e ≡ 0 → ⊥
not_done Size h = absurd (omega arith)
not_done Fit h = absurd (omega arith)
not_done Muddle h = absurd (omega arith)
not_done Tie h = absurd (omega arith)
not_done Value h = absurd (omega arith)
not_done Ceiling h = absurd (omega arith)
not_done Idle h = absurd (omega arith)
not_done Sheet h = absurd (omega arith)
not_done Paper h = absurd (omega arith)
not_done Unsure h = absurd (omega arith)

-- what a job gave by whose number it is done
pub given_ok : {A : Type 0} (r : Result A Refusal) → number_in r ≡ 0 → IsOk r
given_ok (Ok a) z = refl
given_ok (Err e) z = absurd (not_done e z)
