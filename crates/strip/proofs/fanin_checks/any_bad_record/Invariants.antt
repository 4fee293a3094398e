-- `any_bad_record` meets its contract: no record below k is bad, until one is or all are passed.
use Rattle.netlist.specs.Records.{netlist}
use Rattle.facts.proofs.Loops.{NoneYet}
use Rattle.strip.specs.PrivateTracing.{bad_fanins}
use Rattle.strip.proofs.fanin_checks.any_bad_record.Given as goal

abbrev pub invariant-loop-k : goal.invariant-loop-k
invariant-loop-k l = NoneYet (bad_fanins (netlist l.mapped)) l.n l.k
