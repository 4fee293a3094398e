-- `write_buffers` meets its contract: the buffers at distances below k are written.
use mathlib.Core.Path.{◌≡◌}
use Rattle.netlist.specs.Records.{netlist, record_at}
use Rattle.mapper.proofs.WriteTree.{LevelsWritten}
use Rattle.mapper.proofs.writing.write_buffers.Given as goal

abbrev pub invariant-loop-k : goal.invariant-loop-k
invariant-loop-k l = (l.low ≡ (record_at l.source l.d).level) × LevelsWritten (netlist l.source) l.capacities l.d l.start l.top l.initial.area l.base l.area l.at l.from l.k
