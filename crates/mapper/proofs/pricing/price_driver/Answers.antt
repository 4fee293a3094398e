-- `price_driver` meets its contract: a chain that does not begin at the end has a sink.
use Rattle.mapper.proofs.PriceWalk.{driver_is}
use borrow.Author.Rules.{rules}
use Rattle.mapper.proofs.pricing.price_driver.Goals as goal

pub returns : goal.returns
returns c = (search driver_is, search rules)
