-- The numbers of the reasons, by computing. Assumes nothing.
use mathlib.Core.Path.{refl}
use Rattle.theory.specs.Claims.{Reasons}

pub reasons : Reasons
reasons = record {
  done = refl;
  size = refl;
  fit = refl;
  muddle = refl;
  tie = refl;
  value = refl;
  ceiling = refl;
  idle = refl;
  sheet = refl;
  paper = refl;
  unsure = refl;
}
