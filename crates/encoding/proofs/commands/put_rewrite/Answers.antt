-- `encoding::commands::put_rewrite` meets its contract: fit, muddle, and then the names. Assumes nothing.
use mathlib.Core.Path.{◌≡◌, refl, sym, ap, ◌∙◌}
use mathlib.Core.List.{List}
use Prim.Native.Nat.{ℕ, ◌-◌}
use native.Mathlib.Omega.{arith}
use borrow.Author.Rules.{rules}
use lib.ListN.{length, take, drop}
use lib.Seq.{length-take-le}
use Rattle.std.proofs.lemmas.List.{take_rest}
use Rattle.permutation.specs.Records.{all_zero}
use Rattle.sheet.proofs.Putting.{puts_then}
use Rattle.encoding.specs.CommandKinds.{kind_of, body_bytes}
use Rattle.encoding.proofs.ByTests.{target_other, target_muddled, target_clear}
use Rattle.encoding.proofs.Pieces.{head_end, numbers_end}
use Rattle.encoding.proofs.Lays.{lays_refused, lays_put}
use Rattle.encoding.proofs.commands.put_rewrite.Goals as goal
use Rattle.encoding.proofs.commands.put_rewrite.Goals.{Else-target-n}

-- n names are there
names_there : (c : Else-target-n) → length (take c.args.n c.args.target.cells) ≡ c.args.n
names_there c = let long : length c.args.target.cells ≡ 20 = search rules in length-take-le _ _ (omega arith)

pub returns-then-target-n : goal.returns-then-target-n
returns-then-target-n c = lays_refused refl (target_other _ _ c.if-target-n.true) (λ z. omega arith)

-- what is judged past the names, of the whole row
rest_is : (cells : List ℕ) (n : ℕ) → all_zero (drop n cells) ≡ all_zero (take (length cells - n) (drop n cells))
rest_is cells n = ap all_zero (sym (take_rest cells n))

pub put_names-requires : goal.put_names-requires
put_names-requires c =
    let head = c.put_head-body.ensures in
    (omega (arith, head.long, head_end _ _ head), search rules)

pub returns-then-not-all_zero : goal.returns-then-not-all_zero
returns-then-not-all_zero c =
    let clear = rest_is c.args.target.cells c.args.n ∙ sym c.all_zero.ensures ∙ c.if-not-all_zero.true in
    lays_refused refl (target_muddled _ _ c.if-target-n.false clear) (λ z. omega arith)

pub returns : goal.returns
unfolding kind_of body_bytes
returns c =
    lays_put refl
    (target_clear _ _ c.if-target-n.false (rest_is c.args.target.cells c.args.n ∙ sym c.all_zero.ensures ∙ c.if-not-all_zero.false))
    (rw (← c.if-target-n.false) at (puts_then c.put_head-body.ensures c.put_names.ensures))
    (omega (arith, c.requires.1, head_end _ _ c.put_head-body.ensures, numbers_end 1 _ c.put_names.ensures, names_there (goal.at.returns c).Else-target-n))
