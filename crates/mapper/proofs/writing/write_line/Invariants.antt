-- `write_line` meets its contract: the first j buffers are written.
use Rattle.mapper.specs.PrivateWriting.{line_record}
use Rattle.netlist.proofs.Bytes.{RecordsSoFar}
use Rattle.mapper.proofs.writing.write_line.Given as goal

abbrev pub invariant-loop-j : goal.invariant-loop-j
invariant-loop-j l = RecordsSoFar l.initial.area l.start (line_record l.d l.start l.low) l.n l.area l.j
