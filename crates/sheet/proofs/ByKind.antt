-- What holds of the body of each kind of command holds of any body. A kind is added here with a line. Assumes nothing.
use mathlib.Core.Path.{sym, subst}
use mathlib.Core.List.{List}
use Prim.Native.Nat.{ℕ}
use Rattle.theory.proofs.Cases.{by_name}
use Rattle.sheet.specs.Bytes.{ill_formed, Got, fault}
use Rattle.sheet.specs.Sheet.{count_at, rewrite_at, store_at, change_at, body_at}
use Rattle.sheet.specs.declared.held.Entry.{Entry}
use Rattle.sheet.proofs.ByTests.{body_none}

-- P is told the kind, and the reader of what follows the group number
pub by_kind : (P : ℕ → (List ℕ → ℕ → Got Entry) → Type 0) (g n : ℕ) → P 1 (count_at g) → P 2 (rewrite_at g n) → P 3 (store_at g) → P 4 (change_at g)
    → ((kind : ℕ) → P kind (λ s at. fault ill_formed)) → (kind : ℕ) → P kind (body_at kind g n)
unfolding body_at
by_kind P g n count rewrite store change none kind =
    by_name kind 1
    (λ is t. rw is count)
    (λ one t. by_name kind 2
    (λ is t. rw is rewrite)
    (λ two t. by_name kind 3
    (λ is t. rw is store)
    (λ three t. by_name kind 4
    (λ is t. rw is change)
    (λ four t. subst (P kind) (λ i s at. sym (body_none kind g n s at one two three four) i) (none kind)))))
