-- A text that was laid out on a page: a buffer that it fits, and one that it does not. Assumes nothing.
use mathlib.Core.Path.{◌≡◌, ap, ◌∙◌}
use mathlib.Core.List.{List, ◌++◌}
use Prim.Native.Nat.{ℕ, ◌+◌, ◌≤◌, ◌<◌}
use native.Mathlib.Omega.{arith}
use lib.ListN.{length, take, drop, length-append}
use borrow.Author.Tests.{le-leb, lt-leb}
use Rattle.io.specs.Counts.{IsPrefixLen}
use Rattle.io.proofs.Counting.{prefix_len_of_le}
use Rattle.text.specs.Answers.{print_answer, printed_on}
use Rattle.sheet.specs.Putting.{onto, Puts}
use Rattle.sheet.proofs.Putting.{laid_length, laid_onto}
use Rattle.text.specs.declared.answers.Printed.{Printed}

module _ {page laid : List ℕ} {end : ℕ} {text : List ℕ} (p : Puts page 0 laid end text) (buffer : List ℕ) where
  pub too_short : length buffer < end
      → (◌≡◌ {A = Printed} (record { number = 2; length = 0 }) (print_answer text (length buffer))) × (buffer ≡ printed_on text buffer)
  unfolding print_answer printed_on
  too_short h = let short = lt-leb (length text) (length buffer) (omega (arith, laid_length p)) in (rw short, rw short)

  -- what was copied is the text, with what stood past it
  module _ (h : end ≤ length buffer) {after : List ℕ}
      (e : after ≡ take (length (take end laid)) (take end laid) ++ drop (length (take end laid)) buffer) where
    is : after ≡ onto text buffer
    is = laid_onto p buffer e

    pub long_enough_lem : (◌≡◌ {A = Printed} (record { number = 0; length = end }) (print_answer text (length buffer))) × (after ≡ printed_on text buffer)
    unfolding print_answer printed_on
    long_enough_lem = let fits = le-leb (length text) (length buffer) (omega (arith, laid_length p)) in (rw (fits, laid_length p), is ∙ rw fits)

    pub counted : IsPrefixLen end after
    counted =
        let long : length after ≡ length text + length (drop (length text) buffer) = ap length is ∙ length-append text _ in
        prefix_len_of_le end after (omega (arith, laid_length p))
