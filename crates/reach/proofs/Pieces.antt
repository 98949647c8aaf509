-- Bytes put into a list from an index on, piece by piece: what is put, and then what is left, is the whole. So of the pieces for numbers in turn. Assumes nothing.
use mathlib.Core.Path.{◌≡◌, refl, ap, ◌∙◌}
use mathlib.Core.List.{List, [], ◌∷◌, ◌++◌, flat_map, append-nil, append_assoc}
use Prim.Native.Nat.{ℕ, suc, ◌+◌, ◌-◌, ◌<◌}
use native.Mathlib.Numerals.{add-one}
use native.Mathlib.Omega.{arith}
use lib.ListN.{length, take, drop, set, length-append, length-drop, drop_of_length-le}
use lib.Seq.{sets, length-sets, sets-eq, drop-drop}
use borrow.Rule.Slice.PartMut.{put_mid}
use Rattle.std.proofs.lemmas.List.{take_rest}
use Rattle.theory.specs.Lists.{names_from}
use Rattle.reach.specs.Led.{HasRoom}

-- two pieces, one after the other
sets_append : (list : List ℕ) (at : ℕ) (b c : List ℕ) → sets (sets list at b) (at + length b) c ≡ sets list at (b ++ c)
sets_append list at [] c = let q : at + 0 ≡ at = omega arith in rw q
sets_append list at (x ∷ b) c =
    let q : at + suc (length b) ≡ suc at + length b = omega arith in
    rw q (sets_append (set list at x) (suc at) b c)

-- a list that was `first` and gets all of `all` from index `from` on: `left` is yet to be put, from index `at` on
pub record PiecesLeft (first : List ℕ) (from : ℕ) (all list : List ℕ) (at : ℕ) (left : List ℕ) : Type 0 where
  pub size : length list ≡ length first
  pub room : HasRoom list at left
  pub ends : at + length left ≡ from + length all
  pub rest : sets list at left ≡ sets first from all

pub pieces_start : {first : List ℕ} {from : ℕ} {all : List ℕ} → HasRoom first from all → PiecesLeft first from all first from all
pieces_start h = record { size = refl; room = h; ends = refl; rest = refl }

module _ {first : List ℕ} {from : ℕ} {all list : List ℕ} {at : ℕ} where
  pub piece_put :
      (piece left : List ℕ) → PiecesLeft first from all list at (piece ++ left)
      → PiecesLeft first from all (sets list at piece) (at + length piece) left
  piece_put piece left v =
      let sum : length (piece ++ left) ≡ length piece + length left = length-append piece left in
      let same : length (sets list at piece) ≡ length list = length-sets list at piece in
      record {
        size = same ∙ v.size;
        room = omega (arith, v.room);
        ends = omega (arith, v.ends);
        rest = sets_append list at piece left ∙ v.rest;
      }

  pub pieces_end : PiecesLeft first from all list at [] → (at ≡ from + length all) × (list ≡ sets first from all)
  pieces_end v = (omega (arith, v.ends), v.rest)

-- ---- a piece put at the start of the part of a list from `at` on is put there

module _ (list : List ℕ) (at : ℕ) (piece : List ℕ) (room : HasRoom list at piece) where
  part_room : HasRoom (take (length list - at) (drop at list)) 0 piece
  part_room = rw (take_rest list at) (omega (arith, length-drop at list))

  part_put : {part : List ℕ} → part ≡ sets (take (length list - at) (drop at list)) 0 piece → put_mid at (length list - at) list part ≡ sets list at piece
  part_put {part} e =
      let past : drop (length list - at) (drop at list) ≡ [] =
      drop-drop (length list - at) at list ∙ drop_of_length-le list {i = at + (length list - at)} (omega arith) in
      let from : 0 + length piece ≡ length piece = omega arith in
      let start : sets (drop at list) 0 piece ≡ piece ++ drop (at + length piece) list =
      sets-eq piece (drop at list) 0 (omega (arith, length-drop at list)) ∙ rw (from, drop-drop (length piece) at list) in
      rw (e, take_rest list at, start, past, append-nil (piece ++ drop (at + length piece) list), sets-eq piece list at room, append_assoc (take at list) piece (drop (at + length piece) list))

-- ---- a piece for each number

module _ (f : ℕ → List ℕ) where
  numbers_next : (a b : ℕ) → a < b → flat_map f (names_from a (b - a)) ≡ f a ++ flat_map f (names_from (a + 1) (b - (a + 1)))
  unfolding flat_map
  numbers_next a b l =
      let q : b - a ≡ suc (b - (a + 1)) = omega arith in
      rw (q, add-one a)

  -- of all, the pieces for a to below b are left
  abbrev pub NumbersLeft : List ℕ → ℕ → List ℕ → ℕ → List ℕ → ℕ → ℕ → Type 0
  NumbersLeft first from all b list at a = PiecesLeft first from all list at (flat_map f (names_from a (b - a)))

  module _ {first : List ℕ} {from : ℕ} {all : List ℕ} (b : ℕ) where
    pub numbers_start : (a : ℕ) → all ≡ flat_map f (names_from a (b - a)) → HasRoom first from all → NumbersLeft first from all b first from a
    numbers_start a e h = rw (← e) (pieces_start h)

    module _ {list : List ℕ} {at : ℕ} (a : ℕ) (v : NumbersLeft first from all b list at a) where
      module _ (l : a < b) where
        pub number_within : HasRoom list at (f a)
        number_within =
            omega (arith, v.room, ap length (numbers_next a b l), length-append (f a) (flat_map f (names_from (a + 1) (b - (a + 1)))))

        pub number_room : HasRoom (take (length list - at) (drop at list)) 0 (f a)
        number_room = part_room list at (f a) number_within

        pub number_put :
            {part : List ℕ} {r : ℕ} → r ≡ length (f a) → part ≡ sets (take (length list - at) (drop at list)) 0 (f a)
            → NumbersLeft first from all b (put_mid at (length list - at) list part) (at + r) (a + 1)
        number_put e g =
            rw (e, part_put list at (f a) number_within g) (piece_put (f a) (flat_map f (names_from (a + 1) (b - (a + 1)))) (rw (numbers_next a b l) at v))

        -- where that is the last
        pub number_last :
            a + 1 ≡ b → {part : List ℕ} {r : ℕ} → r ≡ length (f a) → part ≡ sets (take (length list - at) (drop at list)) 0 (f a)
            → (at + r ≡ from + length all) × (put_mid at (length list - at) list part ≡ sets first from all)
        unfolding flat_map
        number_last last e g = let q : b - (a + 1) ≡ 0 = omega arith in pieces_end (rw q at (number_put e g))
