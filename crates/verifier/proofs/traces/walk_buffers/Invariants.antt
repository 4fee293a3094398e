-- `walk_buffers` meets its contract: what is known stays right, buffer by buffer.
use Prim.Native.Nat.{◌≤◌}
use mathlib.Core.Path.{◌≡◌}
use lib.ListN.{length}
use Rattle.netlist.specs.Records.{netlist}
use Rattle.verifier.specs.PrivateWalking.{Known}
use Rattle.verifier.proofs.traces.walk_buffers.Given as goal

abbrev pub invariant-loop-k : goal.invariant-loop-k
invariant-loop-k l = Known (netlist l.mapped) l.drivers × (l.n ≤ l.k) × (length l.drivers ≡ length l.initial.drivers)
