-- `count_gates` meets its contract: the gates are a range of kinds.
use Rattle.netlist.proofs.Counts.{gates_counted}
use Rattle.netlist.proofs.count_gates.Goals as goal

pub returns : goal.returns
returns c = search gates_counted
