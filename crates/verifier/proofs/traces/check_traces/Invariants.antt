-- `check_traces` meets its contract: the answer from k on is the answer, and the drivers that are known are right.
use mathlib.Core.Path.{◌≡◌}
use lib.ListN.{length}
use Rattle.netlist.specs.Records.{netlist}
use Rattle.verifier.proofs.Walking.{Tracing}
use Rattle.verifier.proofs.traces.check_traces.Given as goal

abbrev pub invariant-loop-k : goal.invariant-loop-k
invariant-loop-k l = Tracing (netlist l.source) (netlist l.mapped) l.drivers l.k × (length l.drivers ≡ length l.initial.drivers)
