-- `count_kind` meets its contract: one kind is a range of one.
use Rattle.netlist.proofs.Counts.{one_kind}
use Rattle.netlist.proofs.count_kind.Goals as goal

pub returns : goal.returns
returns c = search one_kind
