-- `depth` meets its contract: what the search finds from k on is what it finds in all.
use mathlib.Core.Path.{◌≡◌}
use Rattle.facts.proofs.Loops.{Seeking}
use Rattle.netlist.specs.Records.{netlist, record_count, is_output}
use Rattle.netlist.proofs.depth.Given as goal

abbrev pub invariant-loop-k : goal.invariant-loop-k
invariant-loop-k l = (l.k-end ≡ record_count l.bytes) × Seeking (is_output (netlist l.bytes)) l.k-end l.k
