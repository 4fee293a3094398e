-- `source_size` meets its contract: what the search finds from k on is what it finds in all.
use mathlib.Core.Path.{◌≡◌}
use Rattle.facts.proofs.Loops.{Seeking}
use Rattle.netlist.specs.Records.{netlist, record_count}
use Rattle.netlist.specs.Counts.{is_buffer}
use Rattle.strip.proofs.source_size.Given as goal

abbrev pub invariant-loop-k : goal.invariant-loop-k
invariant-loop-k l = (l.m ≡ record_count l.mapped) × Seeking (is_buffer (netlist l.mapped)) l.m l.k
