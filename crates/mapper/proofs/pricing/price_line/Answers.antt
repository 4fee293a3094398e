-- `price_line` meets its contract: the buffers that feed one slot, and the one that feeds two.
use Rattle.mapper.proofs.PriceWalk.{line_is}
use Rattle.mapper.proofs.pricing.price_line.Goals as goal

pub returns : goal.returns
returns c = search line_is
