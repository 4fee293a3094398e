-- `write_nets` meets its contract: the nets of the drivers below d are written and priced.
use mathlib.Core.Path.{◌≡◌}
use lib.ListN.{length}
use Rattle.facts.specs.Sums.{sum}
use Rattle.netlist.specs.Records.{netlist}
use Rattle.mapper.specs.PrivatePricing.{tree_price}
use Rattle.mapper.proofs.WriteNets.{NetsWritten}
use Rattle.mapper.proofs.writing.write_nets.Given as goal

abbrev pub invariant-loop-d : goal.invariant-loop-d
invariant-loop-d l = NetsWritten (netlist l.job.source.now) l.job.capacities l.first l.end l.initial.area l.d l.at l.next l.row l.base l.area × (length l.next ≡ length l.initial.next) × (l.total ≡ sum (tree_price l.job.prices.now.list (netlist l.job.source.now) l.job.capacities) l.d)
