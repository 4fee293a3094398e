-- `kind_within` meets its contract: it is the field of the record.
use Rattle.netlist.proofs.record_reader.kind_within.Goals as goal

pub returns : goal.returns
returns c = cc
