-- `any_bad_fanin` meets its contract: no slot below j is bad, until one is or all are passed.
use Rattle.netlist.specs.Records.{netlist}
use Rattle.facts.proofs.Loops.{NoneYet}
use Rattle.verifier.specs.PrivateFeeding.{bad_fanin}
use Rattle.strip.proofs.fanin_checks.any_bad_fanin.Given as goal

abbrev pub invariant-loop-j : goal.invariant-loop-j
invariant-loop-j l = NoneYet (bad_fanin (netlist l.mapped) l.r) l.used l.j
