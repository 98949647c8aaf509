-- What is written, as pieces in a row, and the places after what was put. Assumes nothing.
use mathlib.Core.Path.{◌≡◌, refl}
use mathlib.Core.List.{List, [], ◌++◌, flat_map}
use Prim.Native.Nat.{ℕ, ◌+◌, ◌*◌, ◌≤◌}
use native.Mathlib.Omega.{arith}
use lib.ListN.{length, length-append}
use Rattle.sheet.specs.Bytes.{bytes_of}
use Rattle.sheet.specs.Putting.{Puts}
use Rattle.sheet.proofs.Putting.{Grows, grows}
use Rattle.sheet.specs.declared.held.Action.TheVariants.{Count, Store}
use Rattle.encoding.specs.CommandKinds.{kind_of, body_bytes}
use Rattle.encoding.specs.SheetBytes.{head_bytes, action_bytes}
use Rattle.encoding.proofs.Numbers.{bytes_length, flat_map_length}

pub flat_map_grows : {A : Type 0} (w : A → List ℕ) → Grows (flat_map w) (λ i. w)
unfolding flat_map
flat_map_grows w = grows (λ p. w) (λ p. flat_map w) (λ p. refl) (λ p x xs. refl) 0

head_length : (kind g : ℕ) → length (head_bytes kind g) ≡ 2
unfolding head_bytes
head_length kind g = omega (arith, length-append (bytes_of 1 kind) (bytes_of 1 g), bytes_length 1 kind, bytes_length 1 g)

module _ {a b : List ℕ} {at r : ℕ} where
  pub number_end : (k x : ℕ) → Puts a at b r (bytes_of k x) → r ≡ at + k
  number_end k x p = omega (arith, p.end_is, bytes_length k x)

  pub numbers_end : (k : ℕ) (xs : List ℕ) → Puts a at b r (flat_map (bytes_of k) xs) → r ≡ at + k * length xs
  numbers_end k xs p = omega (arith, p.end_is, flat_map_length k xs)

  pub head_end : (kind g : ℕ) → Puts a at b r (head_bytes kind g) → r ≡ at + 2
  head_end kind g p = omega (arith, p.end_is, head_length kind g)

  -- a count and a store have at most the 22 bytes of a rewrite to twenty names
  pub count_end : (g k : ℕ) → Puts a at b r (action_bytes g (Count k) []) → r ≤ at + 22
  unfolding kind_of body_bytes
  count_end g k p = omega (arith, p.end_is, length-append (head_bytes 1 g) (bytes_of 4 k), head_length 1 g, bytes_length 4 k)

  pub store_end : (g m x : ℕ) → Puts a at b r (action_bytes g (Store m x) []) → r ≤ at + 22
  unfolding kind_of body_bytes
  store_end g m x p =
      let body = length-append (bytes_of 8 m) (bytes_of 8 x) in
      omega (arith, p.end_is, length-append (head_bytes 3 g) (bytes_of 8 m ++ bytes_of 8 x), head_length 3 g, body, bytes_length 8 m, bytes_length 8 x)
