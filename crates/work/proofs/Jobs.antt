-- What each job leaves: as many levels as it found, levels with a permutation where they had one, and the zero, which kind 4 alone moves. Assumes nothing.
use mathlib.Core.Path.{◌≡◌, refl}
use mathlib.Core.List.{List}
use Prim.Native.Nat.{ℕ}
use native.Mathlib.Omega.{arith}
use lib.ListN.{length}
use Rattle.theory.specs.Reasons.{done}
use Rattle.theory.specs.Levels.{permutation_of, ReadsAs, read_number}
use Rattle.theory.specs.CountUp.{call_number, call_levels}
use Rattle.theory.specs.Rewrite.{rewrite_pushes}
use Rattle.theory.specs.Store.{store_pushes}
use Rattle.theory.proofs.Sorting.{reads_untied}
use Rattle.theory.proofs.Reading.{reading, row_length}
use Rattle.theory.proofs.LevelRun.{run_length, run_reads, count_up_run}
use Rattle.theory.proofs.CallLists.{call_length}
use Rattle.permutation.specs.Records.{list_of}
use Rattle.permutation.specs.declared.answers.Permutation.{Permutation}
use Rattle.theory.proofs.Refusal.{given_so, Readable, readable, read_done}
use Rattle.rewriting.specs.Answers.{rewrite_number, rewrite_levels}
use Rattle.symbols.specs.Answers.{prefix_on, lead_levels, store_number}
use Rattle.rewriting.proofs.Rewriting.{rewrite_readable}
use Rattle.symbols.proofs.Storing.{store_readable}
use Rattle.ranking.specs.declared.zero.Zero.TheVariants.{New}
use Rattle.sheet.specs.declared.held.Action.{Action}
use Rattle.sheet.specs.declared.held.Action.TheVariants.{Count, Rewrite, Store, ChangeZero}
use Rattle.ranking.specs.declared.zero.Zero.{Zero}
use Rattle.work.specs.Work.{room, job_levels, job_zero}

pub job_length : (a : Action) (target : Permutation) (L : List ℕ) → length (job_levels a target L) ≡ length L
unfolding rewrite_levels lead_levels
job_length (Count k) target L = call_length k L
job_length Rewrite target L =
    given_so (λ M. length M ≡ length L) (rewrite_number L target room) _ L refl (λ z. row_length (rewrite_pushes (permutation_of L) (list_of target)) L)
job_length (Store m s) target L =
    given_so (λ M. length M ≡ length L) (store_number L m s) _ L refl (λ z. row_length (store_pushes (prefix_on L m s) (permutation_of L)) L)
job_length ChangeZero target L = refl

count_readable : {L : List ℕ} → Readable L → (k : ℕ) → Readable (call_levels k L)
unfolding call_levels
count_readable {L} r k =
    let n : ℕ = length L in
    let xs : List ℕ = permutation_of L in
    let reads : ReadsAs L xs = (reading L r.untied).reads in
    given_so Readable (call_number k L) _ L r
    (λ z. rw (count_up_run n r.few k L xs refl reads) (record {
      few = omega (arith, r.few, run_length n r.few L xs refl reads k);
      many = omega (arith, r.many, run_length n r.few L xs refl reads k);
      untied = reads_untied (run_reads n r.few L xs refl reads k);
    }))

job_keeps : {L : List ℕ} → Readable L → (a : Action) (target : Permutation) → Readable (job_levels a target L)
job_keeps r (Count k) target = count_readable r k
job_keeps r Rewrite target = rewrite_readable r target room
job_keeps r (Store m s) target = store_readable r m s
job_keeps r ChangeZero target = r

pub job_readable : (a : Action) (target : Permutation) (L : List ℕ) → read_number L ≡ done → read_number (job_levels a target L) ≡ done
job_readable a target L h = read_done (job_keeps (readable h) a target)

pub job_new : (a : Action) → job_zero a New ≡ New
job_new (Count k) = refl
job_new Rewrite = refl
job_new (Store m s) = refl
job_new ChangeZero = refl

pub job_same : (a : Action) (z : Zero) → (a ≡ ChangeZero → ⊥) → job_zero a z ≡ z
job_same (Count k) z ne = refl
job_same Rewrite z ne = refl
job_same (Store m s) z ne = refl
job_same ChangeZero z ne = absurd (ne refl)
