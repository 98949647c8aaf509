-- The examples, computed. Assumes nothing.
use mathlib.Core.Path.{refl}
use mathlib.Core.List.{flat_map}
use Rattle.theory.specs.Permutation.{place_of}
use Rattle.theory.specs.Prefix.{prefixes}
use Rattle.prefixcodes.specs.Construction.{best_lengths, best_prefixes, code_prefix}
use Rattle.prefixcodes.specs.Examples.{CodeExamples}

pub code_examples : CodeExamples
unfolding code_prefix best_prefixes best_lengths prefixes place_of flat_map
code_examples = record { example_21 = refl; example_22 = refl; example_22_all = refl; weekly = refl }
