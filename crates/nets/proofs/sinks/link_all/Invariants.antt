-- `link_all` meets its contract: the slots of records from i on are linked.
use Prim.Native.Nat.{◌*◌}
use Rattle.netlist.specs.Kinds.{slots}
use Rattle.netlist.specs.Records.{netlist}
use Rattle.nets.specs.PrivateChains.{Linked}
use Rattle.nets.proofs.sinks.link_all.Given as goal

abbrev pub invariant-loop-i : goal.invariant-loop-i
invariant-loop-i l = Linked (netlist l.source) l.first l.next (slots * l.i)
