-- `trace_slots` meets its contract: the first j slots are traced.
use mathlib.Core.Path.{◌≡◌}
use lib.ListN.{length}
use Rattle.netlist.specs.Records.{netlist}
use Rattle.strip.proofs.TracedRecords.{SlotsSoFar}
use Rattle.strip.proofs.tracing.trace_slots.Given as goal

abbrev pub invariant-loop-j : goal.invariant-loop-j
invariant-loop-j l = SlotsSoFar (netlist l.mapped) l.r l.used l.slots l.drivers l.j × (length l.drivers ≡ length l.initial.drivers)
