-- `fill` meets its contract: the first i bytes are plain logic's, each worked out from those before it.
use mathlib.Core.Path.{◌≡◌}
use lib.ListN.{length}
use Rattle.netlist.specs.Records.{netlist}
use Rattle.simulator.specs.Logic.{values}
use Rattle.simulator.proofs.Writes.{Passing}
use Rattle.simulator.proofs.plain_logic.fill.Given as goal

abbrev pub invariant-loop-i : goal.invariant-loop-i
invariant-loop-i l = (length l.initial.area ≡ l.n) × Passing l.source l.n (values (netlist l.source) l.row l.i) l.given l.i l.area l.initial.area
