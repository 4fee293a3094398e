-- `same_buffers` meets its contract: the first price is each of the others.
use Rattle.mapper.specs.PrivatePricing.{same_buffers}
use Rattle.mapper.proofs.pricing.same_buffers.Goals as goal

pub returns : goal.returns
unfolding same_buffers
returns c = cc
