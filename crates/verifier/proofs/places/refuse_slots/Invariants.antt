-- `refuse_slots` meets its contract: no name below j is bad, until one is; where none is, a level is.
use Rattle.facts.proofs.Loops.{NoneYet}
use Rattle.netlist.specs.Records.{netlist}
use Rattle.verifier.specs.Checks.{bad_name}
use Rattle.verifier.proofs.places.refuse_slots.Given as goal

abbrev pub invariant-loop-j : goal.invariant-loop-j
invariant-loop-j l = NoneYet (bad_name (netlist l.mapped) l.r) l.used l.j
