-- `count_kinds` meets its contract: the records of these kinds below k are counted.
use mathlib.Core.Path.{◌≡◌}
use Rattle.netlist.specs.Records.{netlist, record_count}
use Rattle.netlist.proofs.Counts.{KindCounting}
use Rattle.netlist.proofs.count_kinds.Given as goal

abbrev pub invariant-loop-k : goal.invariant-loop-k
invariant-loop-k l = (l.k-end ≡ record_count l.bytes) × KindCounting (netlist l.bytes) l.first l.last l.k-end l.total l.k
