-- `set_parents` meets its contract: the sinks of d below slot p hang on their parents.
use Prim.Native.Nat.{◌-◌}
use mathlib.Core.Path.{◌≡◌}
use Rattle.netlist.specs.Records.{netlist, record_at}
use Rattle.mapper.proofs.SinkParents.{SinksSoFar}
use Rattle.mapper.proofs.writing.set_parents.Given as goal

abbrev pub invariant-loop-p : goal.invariant-loop-p
invariant-loop-p l = (l.low ≡ (record_at l.source l.d).level) × SinksSoFar (netlist l.source) l.capacities l.d l.initial.next l.p l.next l.row

abbrev pub decreases-loop-p : goal.decreases-loop-p
decreases-loop-p l = l.end - l.p
