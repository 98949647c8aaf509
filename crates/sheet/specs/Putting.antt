-- Bytes in a lent buffer: at its start, as the contracts of `writer` and `text` say it, and put piece by piece, as only inner ones do. Assumes nothing.
use Rattle.std.specs.Prelude.{◌≡◌, List, ◌++◌, ℕ, ◌+◌, length, take, drop}

-- xs at the buffer's start, and past it what stood there before
abbrev pub onto : List ℕ → List ℕ → List ℕ
onto xs buffer = xs ++ drop (length xs) buffer

-- xs was put at place `at` of a buffer, and ends before place `end`; what stood before it still does
pub record Puts (before : List ℕ) (at : ℕ) (after : List ℕ) (end : ℕ) (xs : List ℕ) : Type 0 where
  pub end_is : end ≡ at + length xs
  pub long : length after ≡ length before
  pub front : take end after ≡ take at before ++ xs
