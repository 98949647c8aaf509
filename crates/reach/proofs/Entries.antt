-- The entries of a list of lists: by their index, those that a test keeps, and those of lists put one after another. Assumes nothing.
use mathlib.Core.Path.{◌≡◌, refl, ap, sym, ◌∙◌}
use mathlib.Core.Bool.{Bool, true, false, false≢true, cond}
use mathlib.Core.Logic.{⊎_elim}
use mathlib.Core.List.Memᴰ
use mathlib.Core.List.{List, [], ◌∷◌, ◌++◌, map, flat_map, Memᴰ}
use Prim.Native.Nat.{ℕ, zero, suc, ◌<◌}
use native.Mathlib.Nat.{le_of_suc-le-suc}
use native.Mathlib.Omega.{arith}
use lib.ListN.{length, get_or}
use Rattle.theory.specs.Lists.{member, without}
use Rattle.theory.proofs.Cases.{by_test, by_name}
use Rattle.theory.proofs.Members.{member_first, member_later}
use Rattle.reach.specs.Reach.{keep}
use Rattle.reach.specs.Claims.{IsEntry}

abbrev pub In : List ℕ → List (List ℕ) → Type 0
In t ts = Memᴰ t ts

-- ---- by index

pub at_in : (ts : List (List ℕ)) (i : ℕ) → i < length ts → In (get_or ts i []) ts
at_in [] i h = absurd (omega arith)
at_in (t ∷ ts) zero h = Memᴰ.head refl
at_in (t ∷ ts) (suc i) h = Memᴰ.tail (at_in ts i (le_of_suc-le-suc h))

abbrev pub At : List ℕ → List (List ℕ) → Type 0
At t ts = IsEntry (length ts) (λ i. get_or ts i []) t

pub in_at : {t : List ℕ} (ts : List (List ℕ)) → In t ts → At t ts
in_at [] m = absurd (Memᴰ.not-nil m)
in_at {t} (u ∷ ts) m =
    ⊎_elim
    (λ e. record { index = 0; within = omega arith; here = sym e })
    (λ k. let f : At t ts = in_at {t = t} ts k in record { index = suc f.index; within = omega (arith, f.within); here = f.here })
    (Memᴰ.cases_cons m)

-- ---- those that a test keeps

module _ (test : List ℕ → Bool) where
  pub keep_in : {t : List ℕ} (ts : List (List ℕ)) → In t ts → test t ≡ true → In t (keep test ts)
  keep_in [] m h = m
  keep_in {t} (u ∷ ts) m h =
      by_test (test u)
      (λ f. rw f (⊎_elim (λ e. Memᴰ.head e) (λ k. Memᴰ.tail (keep_in ts k h)) (Memᴰ.cases_cons m)))
      (λ f. rw f (⊎_elim (λ e. absurd (false≢true (sym f ∙ (rw e at h)))) (λ k. keep_in ts k h) (Memᴰ.cases_cons m)))

  pub in_keep : {t : List ℕ} (ts : List (List ℕ)) → In t (keep test ts) → In t ts × (test t ≡ true)
  in_keep [] m = absurd (Memᴰ.not-nil m)
  in_keep {t} (u ∷ ts) m =
      by_test (test u)
      (λ f.
      ⊎_elim
      (λ e. (Memᴰ.head e, rw e f))
      (λ k. let w = in_keep ts k in (Memᴰ.tail w.0, w.1))
      (Memᴰ.cases_cons (rw f at m)))
      (λ f. let w = in_keep ts (rw f at m) in (Memᴰ.tail w.0, w.1))

  pub keep_none : (ts : List (List ℕ)) → ((t : List ℕ) → In t ts → test t ≡ false) → keep test ts ≡ []
  keep_none [] h = refl
  keep_none (t ∷ ts) h = cc (h t (Memᴰ.head refl), keep_none ts (λ u m. h u (Memᴰ.tail m)))

  keep_append : (ts us : List (List ℕ)) → keep test (ts ++ us) ≡ keep test ts ++ keep test us
  keep_append [] us = refl
  keep_append (t ∷ ts) us = by_test (test t) (λ f. cc (keep_append ts us)) (λ f. cc (keep_append ts us))

  -- of lists that begin with c
  pub keep_under : (c : ℕ) (ts : List (List ℕ)) → keep test (map (λ t. c ∷ t) ts) ≡ map (λ t. c ∷ t) (keep (λ t. test (c ∷ t)) ts)
  keep_under c [] = refl
  keep_under c (t ∷ ts) = by_test (test (c ∷ t)) (λ f. rw (f, keep_under c ts)) (λ f. rw (f, keep_under c ts))

  pub keep_flat_map : (f : ℕ → List (List ℕ)) (cs : List ℕ) → keep test (flat_map f cs) ≡ flat_map (λ c. keep test (f c)) cs
  unfolding flat_map
  keep_flat_map f [] = refl
  keep_flat_map f (c ∷ cs) = keep_append (f c) (flat_map f cs) ∙ ap (λ (ts : List (List ℕ)). keep test (f c) ++ ts) (keep_flat_map f cs)

pub keep_same :
    (test other : List ℕ → Bool) (ts : List (List ℕ)) → ((t : List ℕ) → In t ts → test t ≡ other t) → keep test ts ≡ keep other ts
keep_same test other [] h = refl
keep_same test other (t ∷ ts) h = cc (h t (Memᴰ.head refl), keep_same test other ts (λ u m. h u (Memᴰ.tail m)))

-- ---- lists put one after another

module _ {A : Type 0} where
  pub flat_map_same :
      (f g : ℕ → List A) (cs : List ℕ) → ((c : ℕ) → member c cs ≡ true → f c ≡ g c) → flat_map f cs ≡ flat_map g cs
  unfolding flat_map
  flat_map_same f g [] h = refl
  flat_map_same f g (c ∷ cs) h = cc (h c (member_first c cs), flat_map_same f g cs (λ b m. h b (member_later b c cs m)))

  pub flat_map_none : (f : ℕ → List A) (cs : List ℕ) → ((c : ℕ) → member c cs ≡ true → f c ≡ []) → flat_map f cs ≡ []
  unfolding flat_map
  flat_map_none f [] h = refl
  flat_map_none f (c ∷ cs) h = cc (h c (member_first c cs), flat_map_none f cs (λ b m. h b (member_later b c cs m)))

  -- those for names that are not in q
  pub flat_map_without : (q : List ℕ) (f : ℕ → List A) (cs : List ℕ) → flat_map f (without q cs) ≡ flat_map (λ c. cond (member c q) [] (f c)) cs
  unfolding flat_map
  flat_map_without q f [] = refl
  flat_map_without q f (c ∷ cs) = by_test (member c q) (λ e. cc (flat_map_without q f cs)) (λ e. cc (flat_map_without q f cs))

pub flat_map_in : {t : List ℕ} (f : ℕ → List (List ℕ)) (cs : List ℕ) (c : ℕ) → member c cs ≡ true → In t (f c) → In t (flat_map f cs)
unfolding flat_map
flat_map_in f [] c m k = absurd (false≢true m)
flat_map_in {t} f (b ∷ cs) c m k =
    by_name c b
    (λ q e. Memᴰ.append_left (flat_map f cs) (rw q at k))
    (λ q e. Memᴰ.append_right (f b) (flat_map_in f cs c (rw e at m) k))

pub in_flat_map :
    {t : List ℕ} (f : ℕ → List (List ℕ)) (cs : List ℕ) → In t (flat_map f cs) → (c : ℕ) × (member c cs ≡ true) × In t (f c)
unfolding flat_map
in_flat_map f [] m = absurd (Memᴰ.not-nil m)
in_flat_map f (b ∷ cs) m =
    ⊎_elim
    (λ k. (b, member_first b cs, k))
    (λ k. let w = in_flat_map f cs k in (w.0, member_later w.0 b cs w.1, w.2))
    (Memᴰ.append_cases (f b) m)
