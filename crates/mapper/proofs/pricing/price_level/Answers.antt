-- `price_level` meets its contract: the full buffers, then the one with the rest.
use Rattle.mapper.proofs.PriceWalk.{level_is}
use Rattle.mapper.proofs.pricing.price_level.Goals as goal

pub returns : goal.returns
returns c = search level_is
