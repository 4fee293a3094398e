-- `write_line` meets its contract: the first j buffers are written.
use Rattle.netlist.proofs.Bytes.{written_start}
use Rattle.mapper.proofs.WriteRecords.{line_more}
use Rattle.mapper.proofs.writing.write_line.Goals as goal

pub loop-j-init : goal.loop-j-init
loop-j-init c = search written_start

pub loop-j-preserved : goal.loop-j-preserved
loop-j-preserved c = search line_more
