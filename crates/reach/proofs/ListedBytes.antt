-- The bytes of a listing: how many there are, and which entry stands where. Assumes nothing.
use mathlib.Core.Path.{◌≡◌, refl, ap, sym, ◌∙◌}
use mathlib.Core.List.{List, [], ◌∷◌, ◌++◌, flatten, append_assoc}
use mathlib.Core.List.Memᴰ
use Prim.Native.Nat.{ℕ, zero, suc, ◌+◌, ◌*◌, ◌<◌}
use native.Mathlib.Nat.{le_of_suc-le-suc}
use native.Mathlib.Omega.{arith}
use lib.ListN.{length, get_or, length-append}
use lib.Seq.{take_at, drop-drop, drop_at}
use Rattle.theory.specs.Permutation.{IsPermutation}
use Rattle.reach.specs.Reach.{within_reach}
use Rattle.reach.specs.Claims.{Reaching, entry_of}
use Rattle.reach.specs.Answers.{reach_bytes}
use Rattle.reach.proofs.Entries.{In}
use Rattle.reach.proofs.Reaching.{in_within, within_many}

module _ (n : ℕ) where
  flatten_length : (ts : List (List ℕ)) → ((t : List ℕ) → In t ts → length t ≡ n) → length (flatten ts) ≡ length ts * n
  unfolding flatten
  flatten_length [] h = omega arith
  flatten_length (t ∷ ts) h =
      omega (arith, length-append t (flatten ts), h t (Memᴰ.head refl), flatten_length ts (λ u m. h u (Memᴰ.tail m)))

  pub flatten_at :
      (ts : List (List ℕ)) (past : List ℕ) → ((t : List ℕ) → In t ts → length t ≡ n) → (i : ℕ) → i < length ts
      → entry_of n (flatten ts ++ past) i ≡ get_or ts i []
  unfolding flatten
  flatten_at [] past h i l = absurd (omega arith)
  flatten_at (t ∷ ts) past h zero l =
      let q : 0 * n ≡ 0 = omega arith in
      rw (q, append_assoc t (flatten ts) past) (take_at t (flatten ts ++ past) n (h t (Memᴰ.head refl)))
  flatten_at (t ∷ ts) past h (suc i) l =
      let q : suc i * n ≡ n + i * n = omega arith in
      rw (q, append_assoc t (flatten ts) past, ← drop-drop (i * n) n (t ++ (flatten ts ++ past)), drop_at t (flatten ts ++ past) n (h t (Memᴰ.head refl)))
      (flatten_at ts past (λ u m. h u (Memᴰ.tail m)) i (le_of_suc-le-suc l))

module _ {n : ℕ} {xs : List ℕ} (o : IsPermutation n xs) (r : ℕ) where
  pub entries_long : (t : List ℕ) → In t (within_reach n xs r) → length t ≡ n
  entries_long t m = (in_within n xs r m).0.long

  pub within_bytes : r < n → length (flatten (within_reach n xs r)) ≡ reach_bytes n r
  within_bytes l = flatten_length n (within_reach n xs r) entries_long ∙ ap (λ (k : ℕ). k * n) (within_many o r (omega arith))

-- what is claimed of a listing is claimed of its entries alone
pub reaching_as :
    {n r many : ℕ} {xs : List ℕ} {entry other : ℕ → List ℕ} → ((i : ℕ) → i < many → other i ≡ entry i)
    → Reaching n xs r many entry → Reaching n xs r many other
reaching_as same v = record {
  counted = v.counted;
  permutation = λ i h. rw (same i h) (v.permutation i h);
  near = λ i h. rw (same i h) (v.near i h);
  every = λ is p s. let f = v.every is p s in record { index = f.index; within = f.within; here = same f.index f.within ∙ f.here };
  once = λ i j h k e. v.once i j h k (sym (same i h) ∙ e ∙ same j k);
  sequence = λ i j l h a b u w.
      let first = same i (omega arith) in
      rw (first, same j h) (v.sequence i j l h a b (rw first at u) (rw (same j h) at w));
}
