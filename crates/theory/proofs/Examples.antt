-- The examples of document 02 hold of the meanings, by computation. Assumes nothing.
use mathlib.Core.Path.{refl}
use mathlib.Core.List.{flat_map}
use Rattle.theory.specs.Permutation.{place_of}
use Rattle.theory.specs.Rank.{digit, remaining, rank, digits, weighted_sum}
use Rattle.theory.specs.Unrank.{place_of_digit, insert_at, unrank}
use Rattle.theory.specs.Prefix.{prefixes, prefix_at, prefix_length, symbol_prefix}
use Rattle.theory.specs.Store.{store_count, store_pushes}
use Rattle.theory.specs.Zero.{value_from}
use Rattle.theory.specs.Push.{push}
use Rattle.theory.specs.Successor.{smaller, successor, step}
use Rattle.theory.specs.Run.{steps}
use Rattle.theory.specs.Deciding.{tests, deciding_size, total_tests}
use Rattle.theory.specs.Examples.{Examples}

pub examples : Examples
unfolding flat_map prefixes prefix_at prefix_length symbol_prefix store_count store_pushes place_of digit remaining rank digits weighted_sum place_of_digit insert_at
    unrank value_from push smaller successor step steps tests deciding_size total_tests
examples = record {
  settings_that_stand = refl;
  two_zeros = (refl, refl, refl, refl);
  tests_of_a_round = (refl, refl, refl, refl);
  tests_of_a_step = (refl, refl, refl, refl);
  rank_by_weights = refl;
}
