-- `fill` meets its contract: the records below k are counted.
use Rattle.netlist.specs.Records.{netlist}
use Rattle.fanout.specs.PrivateFilling.{RowSoFar}
use Rattle.fanout.proofs.fill.Given as goal

abbrev pub invariant-loop-k : goal.invariant-loop-k
invariant-loop-k l = RowSoFar (netlist l.source) l.driver.index l.k 0 l.row l.far
