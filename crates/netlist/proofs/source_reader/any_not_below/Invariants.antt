-- `any_not_below` meets its contract: no slot below j is wrong, until one is or all are passed.
use Rattle.facts.proofs.Loops.{NoneYet}
use Rattle.netlist.specs.Kinds.{slots}
use Rattle.netlist.specs.Records.{netlist}
use Rattle.netlist.specs.Checks.{not_below}
use Rattle.netlist.proofs.source_reader.any_not_below.Given as goal

abbrev pub invariant-loop-j : goal.invariant-loop-j
invariant-loop-j l = NoneYet (not_below (netlist l.bytes) l.r) slots l.j
