-- `write_level` meets its contract: the first j buffers are written.
use Rattle.mapper.specs.PrivateWriting.{level_record}
use Rattle.netlist.proofs.Bytes.{RecordsSoFar}
use Rattle.mapper.proofs.writing.write_level.Given as goal

abbrev pub invariant-loop-j : goal.invariant-loop-j
invariant-loop-j l = RecordsSoFar l.initial.area l.at (level_record l.s l.k l.level l.base) l.n l.area l.j
