-- A part of the sheet that is refused, and one that is put. Assumes nothing.
use mathlib.Core.Path.{◌≡◌, sym, ap, ◌∙◌}
use mathlib.Core.List.{List, ◌++◌}
use Prim.Native.Nat.{ℕ, ◌+◌, ◌≤◌, ◌<◌}
use native.Mathlib.Omega.{arith}
use lib.ListN.{length, get_or}
use Rattle.theory.proofs.Padding.{get_or_any}
use Rattle.theory.specs.Refusal.{or_else}
use Rattle.sheet.specs.Held.{no_group}
use Rattle.sheet.specs.declared.held.Group.{Group}
use Rattle.sheet.specs.declared.held.Groups.{Groups}
use Rattle.sheet.specs.declared.held.Entry.{Entry}
use Rattle.encoding.specs.Faults.{action_number, entry_number}
use Rattle.sheet.specs.Putting.{Puts}
use Rattle.encoding.specs.Lays.{Laid, Lays}
use Rattle.sheet.proofs.Putting.{puts_then}
use Rattle.encoding.proofs.ByTests.{entry_named}

pub lays_refused : {k number most : ℕ} {before : List ℕ} {at : ℕ} {after : List ℕ} {r : Laid} {xs : List ℕ}
    → r ≡ record { number = k; end = 0 } → k ≡ number → (k ≡ 0 → ⊥) → Lays number most before at after r xs
lays_refused {k} {r} e is ne =
    let same : r.number ≡ k = ap (λ (r : Laid). r.number) e in
    record { numbered = same ∙ is; put = λ z. absurd (ne (sym same ∙ z)); short = λ z. absurd (ne (sym same ∙ z)) }

pub lays_put : {number most : ℕ} {before : List ℕ} {at : ℕ} {after : List ℕ} {end : ℕ} {r : Laid} {xs : List ℕ}
    → r ≡ record { number = 0; end = end } → 0 ≡ number → Puts before at after end xs → end ≤ at + most → Lays number most before at after r xs
lays_put e is p short = rw e (record { numbered = is; put = λ z. p; short = λ z. short })

-- a command on one of the groups, with what stands past the end of a list
pub lays_named : (gs : Groups) (e : Entry) (g : ℕ) (d : Group) {b c : List ℕ} {m : ℕ} {r : Laid} {xs : List ℕ} → g ≡ e.command.group → g < gs.count
    → gs.count ≤ length gs.list → Lays (action_number (get_or gs.list g d).n e.command.action e.target) 22 b m c r xs
    → Lays (entry_number gs e) 22 b m c r xs
lays_named gs e g d is below there l =
    let any : get_or gs.list g d ≡ get_or gs.list g no_group = get_or_any gs.list g d no_group (omega arith) in
    rw (any, is, entry_named gs e (omega arith)) at l

-- more bytes after a part without fault, in which nothing is judged
pub lays_more : (v : ℕ) {k u at end : ℕ} {a b c : List ℕ} {r q : Laid} {xs ys : List ℕ} → Lays k u a at b r xs → r.number ≡ 0 → Puts b r.end c end ys
    → end ≤ r.end + v → q ≡ record { number = 0; end = end } → Lays k (u + v) a at c q (xs ++ ys)
lays_more v p z put near e = lays_put e (sym z ∙ p.numbered) (puts_then (p.put z) put) (omega (arith, p.short z))

-- a second part after a first one without fault
pub lays_then : {k l u v at : ℕ} {a b c : List ℕ} {r q : Laid} {xs ys : List ℕ} → Lays k u a at b r xs → r.number ≡ 0 → Lays l v b r.end c q ys
    → Lays (or_else k l) (u + v) a at c q (xs ++ ys)
lays_then {k} {l} {u} {v} {at} {r} {q} p z s =
    let none : k ≡ 0 = sym p.numbered ∙ z in
    record {
      numbered = rw none s.numbered;
      put = λ w. puts_then (p.put z) (s.put w);
      short = λ w. omega (arith, p.short z, s.short w);
    }
