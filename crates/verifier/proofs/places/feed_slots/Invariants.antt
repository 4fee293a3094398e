-- `feed_slots` meets its contract: the slots below j are good and counted, until one is bad or all are passed.
use Rattle.netlist.specs.Records.{netlist}
use Rattle.verifier.proofs.Feeding.{FedSlots}
use Rattle.verifier.proofs.places.feed_slots.Given as goal

abbrev pub invariant-loop-j : goal.invariant-loop-j
invariant-loop-j l = FedSlots (netlist l.mapped) l.r l.n l.initial.counts l.counts l.j
