-- `check_records` meets its contract: the answer from k on is the answer, and the first output below k gave the level.
use mathlib.Core.Path.{◌≡◌}
use Rattle.facts.proofs.Loops.{Scanning}
use Rattle.netlist.specs.Records.{netlist}
use Rattle.netlist.specs.Checks.{record_checks}
use Rattle.netlist.proofs.Checks.{met_depth}
use Rattle.netlist.proofs.source_reader.check_records.Given as goal

abbrev pub invariant-loop-k : goal.invariant-loop-k
invariant-loop-k l = (l.deep ≡ met_depth l.bytes l.k) × Scanning (record_checks (netlist l.bytes)) l.n l.k
