-- `check_buffers` meets its contract: the answer from k on is the answer, the first k records are counted, and what is known is right.
use mathlib.Core.Path.{◌≡◌}
use lib.ListN.{length}
use Rattle.netlist.specs.Records.{netlist}
use Rattle.verifier.proofs.Walking.{Noting}
use Rattle.verifier.proofs.places.check_buffers.Given as goal

abbrev pub invariant-loop-k : goal.invariant-loop-k
invariant-loop-k l = Noting (netlist l.source) (netlist l.mapped) l.n l.counts l.drivers l.k × (length l.counts ≡ length l.initial.counts) × (length l.drivers ≡ length l.initial.drivers)
