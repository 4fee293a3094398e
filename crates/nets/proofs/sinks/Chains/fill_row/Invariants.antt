-- `Chains::fill_row` meets its contract: every sink of d below slot p is counted.
use Prim.Native.Nat.{◌-◌}
use mathlib.Core.Path.{◌≡◌}
use Rattle.netlist.specs.Records.{netlist, record_at}
use Rattle.nets.proofs.ChainRow.{Filling}
use Rattle.nets.proofs.sinks.Chains.fill_row.Given as goal

abbrev pub invariant-loop-p : goal.invariant-loop-p
invariant-loop-p l =
    (l.low ≡ (record_at l.source l.d).level) × Filling (netlist l.source) l.d l.p l.row l.far l.stretches

abbrev pub decreases-loop-p : goal.decreases-loop-p
decreases-loop-p l = l.self.end - l.p
