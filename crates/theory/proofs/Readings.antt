-- The starred bench readings hold of the meanings, by computation. Assumes nothing.
use mathlib.Core.Path.{refl}
use mathlib.Core.List.{flat_map}
use Rattle.theory.specs.Permutation.{place_of}
use Rattle.theory.specs.Push.{push}
use Rattle.theory.specs.Successor.{smaller, successor, step}
use Rattle.theory.specs.Rank.{digit, remaining, digits, rank}
use Rattle.theory.specs.Unrank.{place_of_digit, insert_at, unrank}
use Rattle.theory.specs.Rewrite.{rewrite_count, rewrite_pushes}
use Rattle.theory.specs.Prefix.{prefixes, prefix_at, prefix_number, prefix_length}
use Rattle.theory.specs.Readings.{Readings}

pub readings : Readings
unfolding place_of push smaller successor step digit remaining digits rank place_of_digit insert_at unrank rewrite_count rewrite_pushes flat_map prefixes prefix_at prefix_number prefix_length
readings = record {
  two_cells = ((refl, refl), (refl, refl));
  three_cells = (
    (refl, refl),
    refl,
    (refl, refl),
    refl,
    (refl, refl),
    refl,
    (refl, refl),
    refl,
    (refl, refl),
    refl,
    (refl, refl),
    refl,
  );
  four_cells_low = ((refl, refl), (refl, refl), refl, refl);
  four_cells_middle = ((refl, refl), (refl, refl), refl);
  four_cells_last = ((refl, refl), refl);
  six_cells = (refl, (refl, refl));
  six_cells_zero = (refl, refl);
  rewrite = refl;
  prefix = (refl, refl, refl, refl, refl, refl);
}
