-- `both_are` meets its contract: the two prices of a kind.
use Rattle.mapper.specs.PrivatePricing.{both_are}
use Rattle.mapper.proofs.pricing.both_are.Goals as goal

pub returns : goal.returns
unfolding both_are
returns c = cc
