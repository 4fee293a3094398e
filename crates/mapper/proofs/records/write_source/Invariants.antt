-- `write_source` meets its contract: the first i records are written.
use Rattle.netlist.specs.Records.{record_count}
use Rattle.mapper.specs.PrivateWriting.{relinked_at}
use Rattle.netlist.proofs.Bytes.{RecordsSoFar}
use Rattle.mapper.proofs.records.write_source.Given as goal

abbrev pub invariant-loop-i : goal.invariant-loop-i
invariant-loop-i l = RecordsSoFar l.initial.area 0 (relinked_at l.source l.parents) (record_count l.source) l.area l.i
