-- `add_record` meets its contract: the slots below j are counted.
use Rattle.netlist.specs.Records.{netlist}
use Rattle.fanout.specs.PrivateFilling.{RowSoFar}
use Rattle.fanout.proofs.add_record.Given as goal

abbrev pub invariant-loop-j : goal.invariant-loop-j
invariant-loop-j l = RowSoFar (netlist l.source) l.driver.index l.k l.j l.row l.most
