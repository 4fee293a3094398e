-- `price_distances` meets its contract: the distances below k are priced.
use Rattle.netlist.specs.Records.{netlist}
use Rattle.mapper.proofs.PriceWalk.{TreePricing}
use Rattle.mapper.proofs.pricing.price_distances.Given as goal

abbrev pub invariant-loop-k : goal.invariant-loop-k
invariant-loop-k l = TreePricing l.job.prices.now.list (netlist l.job.source.now) l.job.capacities l.d l.total l.k
