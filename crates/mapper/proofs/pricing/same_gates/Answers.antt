-- `same_gates` meets its contract: the three kinds of gates.
use Rattle.mapper.specs.PrivatePricing.{same_gates}
use Rattle.mapper.proofs.pricing.same_gates.Goals as goal

pub returns : goal.returns
unfolding same_gates
returns c = cc
