-- `read_at` meets its contract: the ten bytes of the record are handed to the reader.
use Rattle.netlist.proofs.Records.{part_length, read_inside}
use Rattle.netlist.proofs.record_reader.read_at.Goals as goal

pub read_record-requires : goal.read_record-requires
read_record-requires c = search part_length

pub returns : goal.returns
returns c = search read_inside
