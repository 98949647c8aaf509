-- Document 02, request 7, "The maker's new zero": the third section of a sheet, or none. Assumes nothing.
use Rattle.std.specs.Prelude.{Bool, true, cond, ◌&&◌, List, [], ◌∷◌, map, ℕ, suc, eqb, leb, ltb, length}
use Rattle.theory.specs.Lists.{member, names_from}
use Rattle.ranking.specs.declared.zero.Zero.{Zero}
use Rattle.ranking.specs.declared.zero.Zero.TheVariants.{Old, New}
use Rattle.sheet.specs.Bytes.{ill_formed, Got, got, after, check, many, number}

-- "strictly rising": each number is at least `low`, which is one past the number before it; and each is a group number, below G
unfoldable pub rising : ℕ → ℕ → List ℕ → Bool
rising G low [] = true
rising G low (g ∷ gs) = leb low g && ltb g G && rising G (suc g) gs

-- "a count in one byte, 1 to G, then the numbers of the groups on the new zero, strictly rising". "A count here outside its range, numbers that don't rise" are
-- ill-formed
unfoldable pub named_groups : ℕ → List ℕ → ℕ → Got (List ℕ)
named_groups G s at =
    after (number 1 s at) (λ count next.
    check (leb 1 count && leb count G) ill_formed
    (after (many count (number 1 s) next) (λ numbers end.
    check (rising G 0 numbers) ill_formed
    (got numbers end))))

-- "The sheet may end with a third section"; "A sheet without it has old zeros only": it names no group
unfoldable pub section : ℕ → List ℕ → ℕ → Got (List ℕ)
section G s at = cond (eqb at (length s)) (got [] at) (named_groups G s at)

-- "A group now carries its zero: old, or new." That of group g, where these are "the numbers of the groups on the new zero"
abbrev pub zero_among : List ℕ → ℕ → Zero
zero_among numbers g = cond (member g numbers) New Old

-- the zeros of G groups, by group number
unfoldable pub zeros_of : ℕ → List ℕ → List Zero
zeros_of G numbers = map (zero_among numbers) (names_from 0 G)

-- to the end of the sheet: "bytes after the last of them" are ill-formed
unfoldable pub zeros_at : ℕ → List ℕ → ℕ → Got (List Zero)
zeros_at G s at =
    after (section G s at) (λ numbers end.
    check (eqb end (length s)) ill_formed
    (got (zeros_of G numbers) end))
