-- `price_distances` meets its contract: the distances below k are priced.
use Rattle.mapper.proofs.PriceWalk.{pricing_start, pricing_nodes, pricing_fits, pricing_more, pricing_end}
use Rattle.mapper.proofs.pricing.price_distances.Goals as goal

pub loop-k-init : goal.loop-k-init
loop-k-init c = search pricing_start

pub price_level-total-requires-clause-n_bound : goal.price_level-total-requires-clause-n_bound
price_level-total-requires-clause-n_bound c = search pricing_nodes

pub overflow_add-total : goal.overflow_add-total
overflow_add-total c = search pricing_fits

pub loop-k-preserved : goal.loop-k-preserved
loop-k-preserved c = search pricing_more

pub returns : goal.returns
returns c = search pricing_end
