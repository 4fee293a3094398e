-- `price_drivers` meets its contract: the drivers below d are priced.
use Rattle.netlist.specs.Records.{netlist}
use Rattle.mapper.proofs.PriceWalk.{DriversPriced}
use Rattle.mapper.proofs.pricing.price_drivers.Given as goal

abbrev pub invariant-loop-d : goal.invariant-loop-d
invariant-loop-d l = DriversPriced l.job.prices.now.list (netlist l.job.source.now) l.total l.d
