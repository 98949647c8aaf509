-- `work::acting::value_of` meets its contract: the levels have a permutation, which is read and valued. Assumes nothing.
use mathlib.Core.Path.{ap}
use Rattle.ranking.specs.declared.answers.Valued.{Valued}
use Rattle.permutation.proofs.Refusals.{given_ok}
use Rattle.work.proofs.GroupValues.{read_done, read_valued, read_value}
use Rattle.work.proofs.acting.value_of.Goals as goal

pub unwrap-permutation-requires : goal.unwrap-permutation-requires
unwrap-permutation-requires c = read_done _ _ c.requires.readable c.read.ensures

pub unwrap-requires : goal.unwrap-requires
unwrap-requires c =
    let read = rw c.unwrap-permutation.ensures at c.read.ensures in
    given_ok _ (ap (λ (a : Valued). a.number) (read_valued _ _ c.requires.readable read c.value.ensures))

pub returns : goal.returns
returns c =
    let read = rw c.unwrap-permutation.ensures at c.read.ensures in
    read_value _ _ c.requires.readable read (rw c.unwrap.ensures at c.value.ensures)
