-- `price_drivers` meets its contract: the drivers below d are priced.
use Rattle.mapper.proofs.PriceWalk.{drivers_start, drivers_fits, drivers_more}
use Rattle.mapper.proofs.pricing.price_drivers.Goals as goal

pub loop-d-init : goal.loop-d-init
loop-d-init c = search drivers_start

pub overflow_add-total : goal.overflow_add-total
overflow_add-total c = search drivers_fits

pub loop-d-preserved : goal.loop-d-preserved
loop-d-preserved c = search drivers_more
