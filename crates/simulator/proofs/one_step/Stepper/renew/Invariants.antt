-- `Stepper::renew` meets its contract: the first i bytes are the new values, and the second half, which they are worked out from, is as it was.
use Prim.Native.Nat.{◌*◌}
use mathlib.Core.Path.{◌≡◌}
use lib.ListN.{length, drop}
use Rattle.netlist.specs.Records.{netlist}
use Rattle.simulator.specs.Step.{renewed_below}
use Rattle.simulator.proofs.Writes.{Passing}
use Rattle.simulator.proofs.one_step.Stepper.renew.Given as goal

abbrev pub invariant-loop-i : goal.invariant-loop-i
invariant-loop-i l = (length l.initial.state ≡ 2 * l.self.records) × Passing l.self.mapped.now l.self.sources (renewed_below (netlist l.self.mapped.now) l.row (drop l.self.records l.initial.state) l.i) l.given l.i l.state l.initial.state
