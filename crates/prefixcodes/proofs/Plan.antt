-- `plan` finds the best lengths. Assumes nothing.
use Prim.Native.Nat.{ℕ, zero, suc, ◌+◌, ◌-◌, ◌*◌, ◌≤◌, ◌<◌}
use mathlib.Core.Path.{◌≡◌, refl, sym, ap}
use mathlib.Core.Logic.{inl, inr}
use mathlib.Core.List.{List, [], ◌∷◌}
use native.Mathlib.Omega.{arith}
use native.Mathlib.Nat.{mul-le-mul_left}
use lib.ListN.{length, replicate}
use borrow.Author.Tests.{le-leb, lt-leb}
use Rattle.theory.specs.Factorial.{factorial}
use Rattle.theory.proofs.Cases.{by_le, by_order}
use Rattle.theory.proofs.Factorials.{factorial_pos}
use Rattle.prefixcodes.specs.Construction.{dot, layer, plan}
use Rattle.prefixcodes.specs.Leaves.{leaves}
use Rattle.prefixcodes.proofs.Better.{ShortToLong, NoWorse, Fits}

pub record Planned (n low : ℕ) (ws : List ℕ) (b : ℕ) (ls : List ℕ) : Type 0 where
  pub fits : Fits n low (length ws) b ls
  pub least : (ks : List ℕ) → Fits n low (length ws) b ks → NoWorse ws ls ks

-- each prefix leads an order
pub leaves_length : (n : ℕ) (ls : List ℕ) → length ls ≤ leaves n ls
leaves_length n [] = omega arith
leaves_length n (l ∷ ls) = omega (arith, factorial_pos (n - l), leaves_length n ls)

-- from a lower start
rising_lower : (n a b : ℕ) (ls : List ℕ) → a ≤ b → ShortToLong n b ls → ShortToLong n a ls
rising_lower n a b [] h r = tt
rising_lower n a b (l ∷ ls) h r = (omega (arith, r.0), r.1, r.2)

-- all of one length
same_rising : (n l x : ℕ) → l < n → ShortToLong n l (replicate x l)
same_rising n l zero h = tt
same_rising n l (suc x) h = (omega arith, h, same_rising n l x h)

same_leaves : (n l x : ℕ) → leaves n (replicate x l) ≡ x * factorial (n - l)
same_leaves n l zero = omega arith
same_leaves n l (suc x) = omega (arith, same_leaves n l x)

same_length : (l x : ℕ) → length (replicate x l) ≡ x
same_length l zero = refl
same_length l (suc x) = ap suc (same_length l x)

-- they cost no more than lengths that are no shorter, and come before those that cost the same
same_least : (n l : ℕ) (ws ks : List ℕ) → length ks ≡ length ws → ShortToLong n l ks → NoWorse ws (replicate (length ws) l) ks
same_least n l [] ks e r = (omega arith, λ q. tt)
same_least n l (w ∷ ws) [] e r = absurd (omega arith)
same_least n l (w ∷ ws) (k ∷ ks) e r =
    let more : w * l ≤ w * k = mul-le-mul_left w r.0 in
    let rest : NoWorse ws (replicate (length ws) l) ks = same_least n l ws ks (omega arith) (rising_lower n l k ks r.0 r.2) in (
      omega (arith, rest.0),
      λ q. by_order l k (λ less. inl less) (λ greater. absurd (omega (arith, r.0))) (λ same. inr (same, rest.1 (omega (arith, rest.0)))),
    )

-- the same first length
cons_least : (w l : ℕ) (ws p q : List ℕ) → NoWorse ws p q → NoWorse (w ∷ ws) (l ∷ p) (l ∷ q)
cons_least w l ws p q h = (omega (arith, h.0), λ e. inr (refl, h.1 (omega arith)))

-- The first length is l, or all are longer
module _ (n l : ℕ) (w : ℕ) (ws : List ℕ) (b : ℕ) {R : Type 0} where
  pub by_first : (ks : List ℕ) → Fits n l (suc (length ws)) b ks
      → ((rest : List ℕ) → ks ≡ l ∷ rest → factorial (n - l) + leaves n rest ≤ b → Fits n l (length ws) (b - factorial (n - l)) rest → R)
      → ((k : ℕ) (rest : List ℕ) → ks ≡ k ∷ rest → l < k → Fits n (suc l) (suc (length ws)) b ks → R) → R
  by_first [] f same more = absurd (omega (arith, f.size))
  by_first (k ∷ rest) f same more = by_order l k
      (λ less. more k rest refl less (record { size = f.size; rising = (less, f.rising.1, f.rising.2); room = f.room }))
      (λ greater. absurd (omega (arith, f.rising.0)))
      (λ e.
      let room : factorial (n - l) + leaves n rest ≤ b = rw (← e) at f.room in
      same rest (ap (λ (x : ℕ). x ∷ rest) (sym e)) room
      (record { size = omega (arith, f.size); rising = rw (← e) at f.rising.2; room = omega arith }))

-- One layer, where the deeper ones are right
module _ (n l : ℕ) (deeper : List ℕ → ℕ → List ℕ) (low : l < n)
    (deep : (ws : List ℕ) (b : ℕ) → suc l < n → length ws ≤ b → Planned n (suc l) ws b (deeper ws b)) where
  abbrev here : List ℕ → ℕ → List ℕ
  here ws b = layer deeper l (factorial (n - l)) ws b

  -- all that fit get length l
  all_here : (ws : List ℕ) (b : ℕ) → length ws * factorial (n - l) ≤ b → Planned n l ws b (replicate (length ws) l)
  all_here ws b room =
      record {
        fits = record { size = same_length l (length ws); rising = same_rising n l (length ws) low; room = omega (arith, same_leaves n l (length ws)) };
        least = λ ks f. same_least n l ws ks f.size f.rising;
      }

  relax : (ws : List ℕ) (b : ℕ) (ls : List ℕ) → Fits n (suc l) (length ws) b ls → Fits n l (length ws) b ls
  relax ws b ls f = record { size = f.size; rising = rising_lower n l (suc l) ls (omega arith) f.rising; room = f.room }

  module _ (w : ℕ) (ws : List ℕ) (b : ℕ) (d : Planned n (suc l) (w ∷ ws) b (deeper (w ∷ ws) b)) where
    -- the first symbol has no room at l
    none_here : b < length ws + factorial (n - l) → Planned n l (w ∷ ws) b (deeper (w ∷ ws) b)
    none_here h =
        record {
          fits = relax (w ∷ ws) b (deeper (w ∷ ws) b) d.fits;
          least = λ ks f. by_first n l w ws b ks f
              (λ rest e room g. absurd (omega (arith, leaves_length n rest, g.size)))
              (λ k rest e more g. d.least ks g);
        }

    -- it has: the cheaper of the two, and the first symbol at l where both cost the same
    module _ (p : List ℕ) (pl : Planned n l ws (b - factorial (n - l)) p) (room : length ws + factorial (n - l) ≤ b) where
      first_here : dot (w ∷ ws) (l ∷ p) ≤ dot (w ∷ ws) (deeper (w ∷ ws) b) → Planned n l (w ∷ ws) b (l ∷ p)
      first_here h =
          record {
            fits = record { size = ap suc pl.fits.size; rising = (omega arith, low, pl.fits.rising); room = omega (arith, pl.fits.room) };
            least = λ ks f. by_first n l w ws b ks f
                (λ rest e space g. rw e (cons_least w l ws p rest (pl.least rest g)))
                (λ k rest e more g. (omega (arith, (d.least ks g).0), λ q. rw e (inl more)));
          }

      first_deeper : dot (w ∷ ws) (deeper (w ∷ ws) b) < dot (w ∷ ws) (l ∷ p) → Planned n l (w ∷ ws) b (deeper (w ∷ ws) b)
      first_deeper h =
          record {
            fits = relax (w ∷ ws) b (deeper (w ∷ ws) b) d.fits;
            least = λ ks f. by_first n l w ws b ks f
                (λ rest e space g.
                let less : dot (w ∷ ws) (deeper (w ∷ ws) b) < dot (w ∷ ws) ks = rw e (omega (arith, (pl.least rest g).0)) in
                (omega arith, λ q. absurd (omega arith)))
                (λ k rest e more g. d.least ks g);
          }

  -- where the symbols do not all fit at l, there is a deeper layer
  not_last : (x b : ℕ) → b < x * factorial (n - l) → x ≤ b → suc l < n
  not_last x b less enough =
      by_le n (suc l)
      (λ h. let one : n - l ≡ 1 = omega arith in let u : factorial (n - l) ≡ 1 = rw one refl in absurd (omega (arith, rw u at less)))
      (λ h. h)

  pub layer_planned : (ws : List ℕ) (b : ℕ) → length ws ≤ b → Planned n l ws b (here ws b)
  layer_planned [] b h = all_here [] b (omega arith)
  layer_planned (w ∷ ws) b h =
      by_le (suc (length ws) * factorial (n - l)) b
      (λ all. rw (le-leb (suc (length ws) * factorial (n - l)) b all) (all_here (w ∷ ws) b all))
      (λ less.
      let d : Planned n (suc l) (w ∷ ws) b (deeper (w ∷ ws) b) = deep (w ∷ ws) b (not_last (suc (length ws)) b less h) h in
      by_le (length ws + factorial (n - l)) b
      (λ room.
      let p : List ℕ = here ws (b - factorial (n - l)) in
      let pl : Planned n l ws (b - factorial (n - l)) p = layer_planned ws (b - factorial (n - l)) (omega arith) in
      by_le (dot (w ∷ ws) (l ∷ p)) (dot (w ∷ ws) (deeper (w ∷ ws) b))
      (λ c. rw (lt-leb (suc (length ws) * factorial (n - l)) b less, le-leb (length ws + factorial (n - l)) b room, le-leb (dot (w ∷ ws) (l ∷ p)) (dot (w ∷ ws) (deeper (w ∷ ws) b)) c)
      (first_here w ws b d p pl room c))
      (λ c. rw (lt-leb (suc (length ws) * factorial (n - l)) b less, le-leb (length ws + factorial (n - l)) b room, lt-leb (dot (w ∷ ws) (l ∷ p)) (dot (w ∷ ws) (deeper (w ∷ ws) b)) c)
      (first_deeper w ws b d p pl room c)))
      (λ none. rw (lt-leb (suc (length ws) * factorial (n - l)) b less, lt-leb (length ws + factorial (n - l)) b none) (none_here w ws b d none)))

-- The best lengths from n - h on
pub plan_planned : (n h : ℕ) (ws : List ℕ) (b : ℕ) → 1 ≤ h → h ≤ n → length ws ≤ b → Planned n (n - h) ws b (plan n h ws b)
plan_planned n zero ws b one most enough = absurd (omega arith)
plan_planned n (suc h) ws b one most enough =
    let back : n - (n - suc h) ≡ suc h = omega arith in
    let next : suc (n - suc h) ≡ n - h = omega arith in
    rw back at
    (layer_planned n (n - suc h) (plan n h) (omega arith)
    (λ vs c more room. rw next (plan_planned n h vs c (omega arith) (omega arith) room)) ws b enough)
