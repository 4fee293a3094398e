-- `record_part` meets its contract: the part starts at 10 × k and is ten bytes long.
use Rattle.netlist.proofs.Records.{part_record}
use Rattle.netlist.proofs.record_reader.record_part.Goals as goal

pub returns : goal.returns
returns c = search part_record
