-- `any_strays` meets its contract: no slot below j strays, until one does or all are passed.
use mathlib.Core.Path.{◌≡◌}
use lib.ListN.{length}
use Rattle.netlist.specs.Records.{netlist}
use Rattle.verifier.proofs.Walking.{NoneStrayed}
use Rattle.verifier.proofs.traces.any_strays.Given as goal

abbrev pub invariant-loop-j : goal.invariant-loop-j
invariant-loop-j l = NoneStrayed (netlist l.mapped) l.a l.r l.used l.drivers l.j × (length l.drivers ≡ length l.initial.drivers)
