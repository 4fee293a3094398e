-- `set_line_parents` meets its contract: the sinks of d below slot p hang on the line.
use Prim.Native.Nat.{◌-◌}
use mathlib.Core.Path.{◌≡◌}
use Rattle.netlist.specs.Records.{netlist, record_at}
use Rattle.mapper.specs.PrivateWriting.{on_line}
use Rattle.mapper.proofs.ChainParents.{ParentsSoFar}
use Rattle.mapper.proofs.writing.set_line_parents.Given as goal

abbrev pub invariant-loop-p : goal.invariant-loop-p
invariant-loop-p l = (l.low ≡ (record_at l.source l.d).level) × ParentsSoFar (netlist l.source) l.d (on_line (netlist l.source) l.d l.start) l.initial.next l.p l.next

abbrev pub decreases-loop-p : goal.decreases-loop-p
decreases-loop-p l = l.end - l.p
