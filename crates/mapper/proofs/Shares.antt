-- The shares worked through compute.
use mathlib.Core.Path.{refl}
use Rattle.facts.specs.Rounding.{rounded}
use Rattle.mapper.specs.Shares.{SharesTrue}

pub shares_true : SharesTrue
unfolding rounded
shares_true = refl
