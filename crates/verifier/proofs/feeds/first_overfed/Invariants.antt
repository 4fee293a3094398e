-- `first_overfed` meets its contract: the answer from k on is the answer.
use Rattle.facts.proofs.Loops.{Scanning}
use Rattle.netlist.specs.Records.{netlist}
use Rattle.verifier.specs.PrivateFeeding.{count_check}
use Rattle.verifier.proofs.feeds.first_overfed.Given as goal

abbrev pub invariant-loop-k : goal.invariant-loop-k
invariant-loop-k l = Scanning (count_check l.capacities (netlist l.mapped) l.counts) l.m l.k
