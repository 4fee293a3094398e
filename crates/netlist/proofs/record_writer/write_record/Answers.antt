-- `write_record` meets its contract: the part that was stored comes back into the area.
use Rattle.netlist.proofs.Bytes.{length_encode}
use Rattle.facts.proofs.Areas.{part_back}
use Rattle.netlist.proofs.record_writer.write_record.Goals as goal

pub returns : goal.returns
returns c = search (part_back, length_encode)
