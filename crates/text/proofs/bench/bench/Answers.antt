-- `text::bench::bench` meets its contract: the text is laid out on a page, and copied where it fits. Assumes nothing.
use mathlib.Core.Path.{◌≡◌, refl}
use mathlib.Core.List.{◌++◌}
use Prim.Native.Nat.{◌≤◌}
use lib.ListN.{length, take, drop}
use lib.Seq.{take-length}
use native.Mathlib.Omega.{arith}
use Rattle.sheet.proofs.Putting.{laid_taken}
use Rattle.text.proofs.Printing.{too_short, long_enough_lem, counted}
use Rattle.text.proofs.bench.bench.Goals as goal

pub returns-then-text-length : goal.returns-then-text-length
returns-then-text-length c =
    let short = too_short c.lay-length.ensures.puts c.args.text.now (omega arith) in
    record { answer = short.0; text_left = short.1; fits = λ room. absurd (omega arith); counts = (omega arith, refl) }

pub returns : goal.returns
returns c =
    let puts = c.lay-length.ensures.puts in
    let text = c.args.text.now in
    let room : c.lay-length.result ≤ length text = omega arith in
    let copied : c.copy_from_slice.new.self ++ drop c.lay-length.result text
    ≡ take (length (take c.lay-length.result c.lay-length.new.text)) (take c.lay-length.result c.lay-length.new.text)
    ++ drop (length (take c.lay-length.result c.lay-length.new.text)) text =
    rw (c.copy_from_slice.ensures.after, take-length (take c.lay-length.result c.lay-length.new.text), laid_taken puts) in
    let fits = long_enough_lem puts text room copied in
    record { answer = fits.0; text_left = fits.1; fits = λ room. refl; counts = counted puts text room copied }
