-- `count_each` meets its contract: the nets of the records before d are counted.
use mathlib.Core.Path.{◌≡◌}
use lib.ListN.{length}
use Rattle.netlist.specs.Records.{netlist}
use Rattle.nets.proofs.TreeCounts.{Counting}
use Rattle.nets.proofs.trees.count_each.Given as goal

abbrev pub invariant-loop-d : goal.invariant-loop-d
invariant-loop-d l =
    Counting (netlist l.source) l.capacities l.n l.row l.totals l.stop l.total l.d × (length l.totals ≡ length l.initial.totals)
