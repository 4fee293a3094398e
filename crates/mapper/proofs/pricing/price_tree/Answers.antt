-- `price_tree` meets its contract: one price for all buffers, or distance by distance.
use Rattle.mapper.proofs.PriceWalk.{size_fits, same_fits, same_is}
use Rattle.mapper.proofs.pricing.price_tree.Goals as goal

pub overflow_cast-result : goal.overflow_cast-result
overflow_cast-result c = search size_fits

pub overflow_mul-result : goal.overflow_mul-result
overflow_mul-result c = search same_fits

pub returns-then-same_buffers : goal.returns-then-same_buffers
returns-then-same_buffers c = search same_is
