-- `price_rest` meets its contract: nothing for nothing, else a buffer that feeds what is left.
use Rattle.mapper.proofs.PriceWalk.{rest_small, rest_is}
use Rattle.mapper.proofs.pricing.price_rest.Goals as goal

pub returns : goal.returns
returns c = (search rest_is, search rest_small)
