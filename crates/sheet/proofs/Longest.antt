-- How far a reader reads at most, and that only the bytes so far count: the longest sheet, and that its bytes and one more decide. Assumes nothing.
use mathlib.Core.Path.{◌≡◌, refl, ap}
use mathlib.Core.Bool.{Bool, true, false, not, cond, ◌&&◌, and-eq-true_iff}
use mathlib.Core.List.{List, [], ◌∷◌, map}
use Prim.Native.Nat.{ℕ, zero, suc, ◌+◌, ◌*◌, ◌≤◌, ◌<◌}
use native.Mathlib.Omega.{arith}
use borrow.Author.Tests.{leb-true, le-leb, ne_eqb}
use lib.Dec.{leb, ltb, eqb}
use lib.ListN.{length, get_or, take, drop}
use lib.Seq.{length-take-le, take_all, take-take}
use Rattle.theory.specs.Reasons.{sized}
use Rattle.theory.specs.Levels.{tied}
use Rattle.theory.proofs.Cases.{by_le, by_name}
use Rattle.sheet.specs.Bytes.{Fault, missized, tied as fault_tied, ill_formed, Got, fault, got, after, check, many, number}
use Rattle.sheet.specs.ZeroSection.{rising, named_groups, section, zeros_of, zeros_at}
use Rattle.sheet.specs.Sheet.{group, count_at, rewrite_at, store_at, change_at, body_at, command, Contents, command_row, commands, sheet}
use Rattle.sheet.specs.Claims.{longest_sheet}
use Rattle.sheet.specs.Parts.{Small}
use Rattle.sheet.proofs.Inversion.{never, after_got, check_got, many_length}
use Rattle.sheet.proofs.ByKind.{by_kind}
use Rattle.sheet.proofs.Valid.{groups_readable, valid, small}

-- what reads at a place of a list
abbrev Reader : Type 0 → Type 0
Reader A = List ℕ → ℕ → Got A

-- p reads at most w bytes, and reads the same in the first N bytes as in all, where at least one byte of the N is past those
record Local {A : Type 0} (p : Reader A) (w : ℕ) : Type 0 where
  near : (s : List ℕ) (at : ℕ) (x : A) (end : ℕ) → p s at ≡ got x end → end ≤ at + w
  same : (N : ℕ) (s : List ℕ) (at : ℕ) → N ≤ length s → at + w < N → p (take N s) at ≡ p s at

wider : {A : Type 0} {p : Reader A} {w v : ℕ} → w ≤ v → Local p w → Local p v
wider {v} h l = record {
  near = λ s at x end e. omega (arith, l.near s at x end e);
  same = λ N s at long inside. l.same N s at long (omega arith);
}

-- ---- what ends a reader

local_got : {A : Type 0} (x : A) → Local (λ s at. got x at) 0
local_got x = record { near = λ s at y end e. (let is : end ≡ at = cc in omega arith); same = λ N s at long inside. refl }

local_fault : {A : Type 0} (f : Fault) → Local {A = A} (λ s at. fault f) 0
local_fault f = record { near = λ s at y end e. never e; same = λ N s at long inside. refl }

-- a whole of N bytes or more does not end below N
local_end : {A : Type 0} (x : A) → Local (λ s at. check (eqb at (length s)) ill_formed (got x at)) 0
local_end x = record {
  near = λ s at y end e. (let last = (check_got (eqb at (length s)) _ _ e).1 in let is : end ≡ at = cc in omega arith);
  same = λ N s at long inside.
      rw (ne_eqb at (length (take N s)) (λ e. omega (arith, length-take-le N s long)), ne_eqb at (length s) (λ e. omega arith));
}

-- nothing at the end of the whole, and what p reads anywhere else
local_unless_end : {A : Type 0} {p : Reader A} {w : ℕ} (x : A) → Local p w → Local (λ s at. cond (eqb at (length s)) (got x at) (p s at)) w
local_unless_end {p} x l = record {
  near = λ s at y end.
      by_name at (length s)
      (λ is t. rw t (λ e. (let same : end ≡ at = cc in omega arith)))
      (λ ne t. rw t (l.near s at y end));
  same = λ N s at long inside.
      rw (ne_eqb at (length (take N s)) (λ e. omega (arith, length-take-le N s long)), ne_eqb at (length s) (λ e. omega arith))
      (l.same N s at long inside);
}

-- ---- a number

window : (k at N : ℕ) (s : List ℕ) → at + k ≤ N → take k (drop at (take N s)) ≡ take k (drop at s)
window k zero N s h = take-take k N s (omega arith)
window k (suc at) zero s h = absurd (omega arith)
window k (suc at) (suc N) [] h = refl
window k (suc at) (suc N) (x ∷ s) h = window k at N s (omega arith)

local_number : (k : ℕ) → Local (number k) k
unfolding number
local_number k = record {
  near = λ s at x end e. (let last = (check_got (leb (at + k) (length s)) _ _ e).1 in let is : end ≡ at + k = cc in omega arith);
  same = λ N s at long inside.
      rw (le-leb (at + k) (length (take N s)) (omega (arith, length-take-le N s long)), le-leb (at + k) (length s) (omega arith), window k at N s (omega arith));
}

-- ---- one reader after another

after_same : {A B : Type 0} (o : Got A) {k l : A → ℕ → Got B} → ((x : A) (next : ℕ) → o ≡ got x next → k x next ≡ l x next) → after o k ≡ after o l
unfolding after
after_same (fault f) h = refl
after_same (got x next) h = h x next refl

module _ {A B : Type 0} {p : Reader A} {k : A → Reader B} {w v : ℕ} where
  local_after : Local p w → ((s : List ℕ) (at : ℕ) (x : A) (next : ℕ) → p s at ≡ got x next → Local (k x) v)
      → Local (λ s at. after (p s at) (λ x next. k x s next)) (w + v)
  local_after l more = record {
    near = λ s at y end e. (
        let one = after_got (p s at) _ e in
        omega (arith, l.near s at one.0 one.1 one.2, (more s at one.0 one.1 one.2).near s one.1 y end one.3));
    same = λ N s at long inside.
        rw (l.same N s at long (omega arith))
        (after_same (p s at) (λ x next e. (more s at x next e).same N s next long (omega (arith, l.near s at x next e))));
  }

local_check : {A : Type 0} {p : Reader A} {w : ℕ} (b : Bool) (f : Fault) → (b ≡ true → Local p w) → Local (λ s at. check b f (p s at)) w
unfolding check
local_check true f l = l refl
local_check false f l = wider (omega arith) (local_fault f)

local_many : {A : Type 0} {p : Reader A} {w : ℕ} (n : ℕ) → Local p w → Local (λ s at. many n (p s) at) (n * w)
unfolding many
local_many zero l = wider (omega arith) (local_got [])
local_many {w} (suc n) l =
    wider {w = w + (n * w + 0)} (omega arith)
    (local_after l (λ s at x next e. local_after (local_many n l) (λ s at xs end e. local_got (x ∷ xs))))

-- ---- a group: 1 + 20 * 2 bytes

local_group : Local group 41
unfolding group
local_group =
    local_after {v = 40} (local_number 1)
    (λ s at n next e. local_check (sized n) missized (λ ok.
    wider {w = n * 2 + 0} (omega (arith, leb-true n 20 ((and-eq-true_iff (leb 2 n) (leb n 20)).0 ok).1))
    (local_after (local_many n (local_number 2))
    (λ s at L end e. local_check (not (tied L)) fault_tied (λ ok. local_got L)))))

-- ---- a command: 2 bytes and at most 20, where no group has more than twenty cells

local_body : (kind g n : ℕ) → n ≤ 20 → Local (body_at kind g n) 20
unfolding count_at rewrite_at store_at change_at
local_body kind g n h =
    by_kind (λ kind body. Local body 20) g n
    (wider {w = 4 + 0} (omega arith) (local_after (local_number 4) (λ s at k next e. local_got _)))
    (wider {w = n * 1 + 0} (omega arith) (local_after (local_many n (local_number 1)) (λ s at names next e. local_got _)))
    (wider {w = 8 + (8 + 0)} (omega arith)
    (local_after (local_number 8) (λ s at m next e. local_after (local_number 8) (λ s at m next e. local_got _))))
    (wider (omega arith) (local_got _))
    (λ kind. wider (omega arith) (local_fault ill_formed))
    kind

local_command : (sizes : List ℕ) → Small sizes → Local (command sizes) 22
unfolding command
local_command sizes h =
    local_after {v = 21} (local_number 1) (λ s at kind next e.
    local_after {v = 20} (local_number 1) (λ s at g next e.
    local_check (ltb g (length sizes)) ill_formed (λ ok. local_body kind g (get_or sizes g 0) (h g))))

-- ---- the zeros: 1 byte and at most 64

local_zeros : (G : ℕ) → G ≤ 64 → Local (zeros_at G) 65
unfolding zeros_at section named_groups
local_zeros G few =
    local_after {w = 65} {v = 0} (local_unless_end []
    (local_after {v = 64} (local_number 1) (λ s at count next e.
    local_check (leb 1 count && leb count G) ill_formed (λ ok.
    wider {w = count * 1 + 0} (omega (arith, leb-true count G ((and-eq-true_iff (leb 1 count) (leb count G)).0 ok).1))
    (local_after (local_many count (local_number 1)) (λ s at numbers end e.
    local_check (rising G 0 numbers) ill_formed (λ ok. local_got numbers)))))))
    (λ s at numbers end e. local_end (zeros_of G numbers))

-- ---- the commands: 2 bytes and at most 1,000 times 22, and then the zeros

local_commands : (groups : List (List ℕ)) → Small (map length groups) → length groups ≤ 64 → Local (commands groups) 22067
unfolding commands command_row
local_commands groups h few =
    local_after {v = 22065} (local_number 2) (λ s at count next e.
    local_check (leb count 1000) ill_formed (λ ok.
    wider {w = count * 22 + (65 + 0)} (omega (arith, leb-true count 1000 ok))
    (local_after (local_many count (local_command (map length groups) h)) (λ s at entries end e.
    local_after (local_zeros (length groups) few) (λ s at zeros end e. local_got _)))))

-- ---- the sheet: 1 byte and at most 64 times 41, and then its commands; it is read from place 0

at_start : {A : Type 0} {p : Reader A} {w : ℕ} → Local p w → Local (λ s at. p s 0) w
at_start l = record {
  near = λ s at x end e. omega (arith, l.near s 0 x end e);
  same = λ N s at long inside. l.same N s 0 long (omega arith);
}

local_sheet : Local (λ s at. sheet s) longest_sheet
unfolding sheet
local_sheet =
    local_after {v = 24691} (at_start (local_number 1)) (λ s at count next e.
    local_check (leb 1 count && leb count 64) ill_formed (λ ok.
    let few : count ≤ 64 = leb-true count 64 ((and-eq-true_iff (leb 1 count) (leb count 64)).0 ok).1 in
    wider {w = count * 41 + 22067} (omega arith)
    (local_after (local_many count local_group) (λ s at groups end e.
    local_commands groups (small groups (groups_readable s count at groups end e)) (omega (arith, many_length (group s) count at groups end e))))))

pub longest : (s : List ℕ) (c : Contents) (end : ℕ) → sheet s ≡ got c end → length s ≤ longest_sheet
longest s c end r = omega (arith, local_sheet.near s 0 c end r, (valid s c end r).1)

pub decided : (s : List ℕ) → sheet (take (longest_sheet + 1) s) ≡ sheet s
decided s =
    by_le (longest_sheet + 1) (length s)
    (λ long. local_sheet.same (longest_sheet + 1) s 0 long (omega arith))
    (λ h. ap sheet (take_all (longest_sheet + 1) s (omega arith)))
