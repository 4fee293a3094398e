-- `bad_slots` meets its contract: no slot below j is bad, until one is or all are passed.
use Rattle.facts.proofs.Loops.{NoneYet}
use Rattle.netlist.specs.Kinds.{slots}
use Rattle.netlist.specs.Records.{netlist}
use Rattle.netlist.specs.Checks.{bad_slot}
use Rattle.netlist.proofs.source_reader.bad_slots.Given as goal

abbrev pub invariant-loop-j : goal.invariant-loop-j
invariant-loop-j l = NoneYet (bad_slot (netlist l.bytes) l.k l.r) slots l.j
