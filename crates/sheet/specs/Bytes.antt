-- Reading bytes from a place on: a fault, or a value and the place after it. Places are counted from 0. Assumes nothing.
use Rattle.std.specs.Prelude.{Bool, true, false, List, [], ◌∷◌, ℕ, zero, suc, ◌+◌, ◌*◌, ◌/◌, ◌%◌, leb, length, take, drop}
use Rattle.theory.specs.Reasons as reasons

-- what can be wrong with a sheet: "size is judged at the n byte and a tie after the group's last level"; all else is ill-formed
pub data Fault : Type 0 where
  missized tied ill_formed : Fault

-- the number of a fault in the table "Why a job is sent back"
abbrev pub number_of : Fault → ℕ
number_of missized = reasons.size
number_of tied = reasons.tie
number_of ill_formed = reasons.sheet

-- what reading from a place on finds: a fault, or a value and the place after it
pub data Got (A : Type 0) : Type 0 where
  fault : Fault → Got A
  got : A → ℕ → Got A

-- "The sheet is checked from its first byte, and the first fault met decides": only what was read without fault is read on from, at the place after it
unfoldable pub after : {A B : Type 0} → Got A → (A → ℕ → Got B) → Got B
after (fault f) next = fault f
after (got x at) next = next x at

-- the fault f where the test fails
unfoldable pub check : {A : Type 0} → Bool → Fault → Got A → Got A
check true f o = o
check false f o = fault f

-- n values one after the other, each read by p
unfoldable pub many : {A : Type 0} → ℕ → (ℕ → Got A) → ℕ → Got (List A)
many zero p at = got [] at
many (suc n) p at = after (p at) (λ x next. after (many n p next) (λ xs end. got (x ∷ xs) end))

-- the number that bytes spell, "low byte first"
unfoldable pub little : List ℕ → ℕ
little [] = 0
little (b ∷ bs) = b + 256 * little bs

-- and back: x in k bytes
unfoldable pub bytes_of : ℕ → ℕ → List ℕ
bytes_of zero x = []
bytes_of (suc k) x = x % 256 ∷ bytes_of k (x / 256)

-- a number of k bytes; "an early end" is ill-formed
unfoldable pub number : ℕ → List ℕ → ℕ → Got ℕ
number k s at = check (leb (at + k) (length s)) ill_formed (got (little (take k (drop at s))) (at + k))
