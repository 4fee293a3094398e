-- `check_records` meets its contract: the answer from k on is the answer, and the first k records are counted.
use mathlib.Core.Path.{◌≡◌}
use lib.ListN.{length}
use Rattle.netlist.specs.Records.{netlist, record_count}
use Rattle.verifier.proofs.Feeding.{Tallying}
use Rattle.verifier.proofs.places.check_records.Given as goal

abbrev pub invariant-loop-k : goal.invariant-loop-k
invariant-loop-k l = Tallying (netlist l.source) (netlist l.mapped) (record_count l.source) l.counts l.k × (length l.counts ≡ length l.initial.counts)
