-- `write_left` meets its contract: the first k records are written.
use mathlib.Core.Path.{◌≡◌}
use lib.ListN.{length}
use Rattle.strip.proofs.TracedRecords.{LeftSoFar}
use Rattle.strip.proofs.tracing.write_left.Given as goal

abbrev pub invariant-loop-k : goal.invariant-loop-k
invariant-loop-k l = LeftSoFar l.mapped l.n l.initial.source l.source l.drivers l.k × ((length l.drivers ≡ length l.initial.drivers) × (length l.source ≡ length l.initial.source))
