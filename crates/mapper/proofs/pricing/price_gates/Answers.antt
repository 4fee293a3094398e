-- `price_gates` meets its contract: one price for all gates, or one by one.
use Rattle.mapper.proofs.PriceWalk.{gates_same, gates_cast, gates_fits}
use Rattle.mapper.proofs.pricing.price_gates.Goals as goal

pub overflow_cast-result : goal.overflow_cast-result
overflow_cast-result c = search gates_cast

pub overflow_mul-result : goal.overflow_mul-result
overflow_mul-result c = search gates_fits

pub returns-then-same_gates : goal.returns-then-same_gates
returns-then-same_gates c = search gates_same
